-- Where a byte stands in the windows.
use Rattle.std.proofs.Common.{◌≡◌, ◌≤◌, ◌<◌, ℕ, zero, suc, ◌+◌, ◌-◌, ◌*◌, ◌/◌, ◌%◌, refl, inl, inr, sym, ◌∙◌, ap}
use Rattle.std.proofs.Common.{subst, arith, Option, Some, None, List, [], ◌∷◌, slice_get, get_or, IsTrue}
use Rattle.std.proofs.Math.Nat.{mod-lt}
use Rattle.std.proofs.lemmas.Nat.{div-add-mod'}
use Rattle.tm_plan_map.specs.declared.windows.Window.{Window}
use Rattle.tm_plan_map.specs.Map.{window_at, windows_base}
use Rattle.tm_place.specs.declared.placement.Placement.{Placement}
use Rattle.tm_base.specs.Limits.{is_line_size}
use Rattle.tm_place.specs.Numbers.{part_size}
use Rattle.tm_place.specs.Limits.{IsWindowAt}
use Rattle.tm_place.specs.Sharing.{Sharing, StandsAt}
use Rattle.tm_place.specs.Placed.{standing, sharing_by, sharing_of}
use Rattle.tm_place.proofs.PartLemmas.{IsSize, line_size-cases, part_size-some, size-some}
use Rattle.tm_table.specs.Row.{IsWidth}

-- What is used of the limits.
pub record Sound (s : Sharing) : Type 0 where
  pub size : IsSize s.line
  pub some : 1 ≤ s.part
  pub windows : (w : ℕ) (v : Window) → s.window w ≡ Some v → IsWindowAt s.harts s.line w v

-- what stands at a place is the window there
pub standing-some : (o : Option (Option Window)) (v : Window) → standing o ≡ Some v → o ≡ Some (Some v)
standing-some None v h = cc
standing-some (Some None) v h = cc
standing-some (Some (Some u)) v h = cc

-- what is read of a list at a place that it may not have
pub standing-read : (shape : List (Option Window)) (n : ℕ) → standing (slice_get shape n) ≡ get_or shape n None
standing-read [] n = refl
standing-read (None ∷ shape) zero = refl
standing-read (Some v ∷ shape) zero = refl
standing-read (o ∷ shape) (suc n) = standing-read shape n

-- the sharing of a shape within the limits
pub sound-by : (harts line part : ℕ) (shape : List (Option Window)) → IsTrue (is_line_size line)
    → part ≡ part_size line harts
    → ((w : ℕ) (v : Window) → slice_get shape w ≡ Some (Some v) → IsWindowAt harts line w v)
    → Sound (sharing_by harts line part shape)
sound-by harts line part shape size share windows = record {
  size = line_size-cases line size;
  some = rw share (part_size-some line harts);
  windows = λ w v h. windows w v (standing-some (slice_get shape w) v h);
}

pub sound-of : (p : Placement) → Sound (sharing_of p)
sound-of p = sound-by p.harts p.line p.part p.shape p.limits.size p.limits.share p.limits.windows

-- number, line and byte of a place in a window, as they follow from its address
abbrev Numbers : (line n j r b : ℕ) → Type 0
Numbers line n j r b = (0x80E80000 ≤ b) × ((b - 0x80E80000) / 2048 ≡ n) × ((b - 0x80E80000) % 2048 / line ≡ j)
    × ((b - 0x80E80000) % 2048 % line ≡ r)

numbers_at-32 : (n lines j r b : ℕ) → lines * 32 ≤ 2048 → r < 32 → b ≡ 0x80E80000 + 0x800 * n + (j * 32 + r) → j < lines
    → Numbers 32 n j r b
numbers_at-32 n lines j r b few byte e low = (omega arith, omega arith, omega arith, omega arith)

numbers_at-64 : (n lines j r b : ℕ) → lines * 64 ≤ 2048 → r < 64 → b ≡ 0x80E80000 + 0x800 * n + (j * 64 + r) → j < lines
    → Numbers 64 n j r b
numbers_at-64 n lines j r b few byte e low = (omega arith, omega arith, omega arith, omega arith)

numbers_at-128 : (n lines j r b : ℕ) → lines * 128 ≤ 2048 → r < 128 → b ≡ 0x80E80000 + 0x800 * n + (j * 128 + r)
    → j < lines → Numbers 128 n j r b
numbers_at-128 n lines j r b few byte e low = (omega arith, omega arith, omega arith, omega arith)

abbrev NumbersAt : (n lines j r b line : ℕ) → Type 0
NumbersAt n lines j r b line = lines * line ≤ 2048 → r < line → b ≡ 0x80E80000 + 0x800 * n + (j * line + r) → j < lines
    → Numbers line n j r b

numbers_of : (line n lines j r b : ℕ) → IsSize line → NumbersAt n lines j r b line
numbers_of line n lines j r b (inl h) = subst (NumbersAt n lines j r b) (sym h) (numbers_at-32 n lines j r b)
numbers_of line n lines j r b (inr (inl h)) = subst (NumbersAt n lines j r b) (sym h) (numbers_at-64 n lines j r b)
numbers_of line n lines j r b (inr (inr h)) = subst (NumbersAt n lines j r b) (sym h) (numbers_at-128 n lines j r b)

-- where a byte stands, computed from its address
pub record Spotted (s : Sharing) (b : ℕ) (v : Window) (j r : ℕ) : Type 0 where
  pub above : 0x80E80000 ≤ b
  pub number : (b - 0x80E80000) / 2048 ≡ v.number
  pub line : (b - 0x80E80000) % 2048 / s.line ≡ j
  pub byte : (b - 0x80E80000) % 2048 % s.line ≡ r

pub stands-spotted : (s : Sharing) (b : ℕ) (v : Window) (j r : ℕ) → Sound s → StandsAt s b v j r → Spotted s b v j r
unfolding window_at windows_base
stands-spotted s b v j r sound h =
    let w = sound.windows v.number v h.declared in
    let n = numbers_of s.line v.number v.lines j r b sound.size w.window.shaped.few h.byte h.place h.line in
    record { above = n.0; number = n.1; line = n.2; byte = n.3 }

-- a byte stands in one place
pub record Same (v u : Window) (j i r q : ℕ) : Type 0 where
  pub window : u ≡ v
  pub line : i ≡ j
  pub byte : q ≡ r

pub stands-one : (s : Sharing) (b : ℕ) (v u : Window) (j i r q : ℕ) → Sound s → StandsAt s b v j r → StandsAt s b u i q
    → Same v u j i r q
stands-one s b v u j i r q sound one two =
    let a = stands-spotted s b v j r sound one in
    let c = stands-spotted s b u i q sound two in
    let number : v.number ≡ u.number = sym a.number ∙ c.number in
    let both : Some u ≡ Some v = sym two.declared ∙ (ap s.window (sym number) ∙ one.declared) in
    record { window = cc; line = sym c.line ∙ a.line; byte = sym c.byte ∙ a.byte }

-- an aligned access stays within its line
abbrev Stays : (n j r b width line : ℕ) → Type 0
Stays n j r b width line = b ≡ 0x80E80000 + 0x800 * n + (j * line + r) → r < line → b % width ≡ 0 → r + width ≤ line

stays-32 : (n j r b width : ℕ) → IsWidth width → Stays n j r b width 32
stays-32 n j r b width (inl h) e byte aligned = omega arith
stays-32 n j r b width (inr (inl h)) e byte aligned = let a : b % 2 ≡ 0 = rw h at aligned in omega arith
stays-32 n j r b width (inr (inr (inl h))) e byte aligned = let a : b % 4 ≡ 0 = rw h at aligned in omega arith
stays-32 n j r b width (inr (inr (inr h))) e byte aligned = let a : b % 8 ≡ 0 = rw h at aligned in omega arith

stays-64 : (n j r b width : ℕ) → IsWidth width → Stays n j r b width 64
stays-64 n j r b width (inl h) e byte aligned = omega arith
stays-64 n j r b width (inr (inl h)) e byte aligned = let a : b % 2 ≡ 0 = rw h at aligned in omega arith
stays-64 n j r b width (inr (inr (inl h))) e byte aligned = let a : b % 4 ≡ 0 = rw h at aligned in omega arith
stays-64 n j r b width (inr (inr (inr h))) e byte aligned = let a : b % 8 ≡ 0 = rw h at aligned in omega arith

stays-128 : (n j r b width : ℕ) → IsWidth width → Stays n j r b width 128
stays-128 n j r b width (inl h) e byte aligned = omega arith
stays-128 n j r b width (inr (inl h)) e byte aligned = let a : b % 2 ≡ 0 = rw h at aligned in omega arith
stays-128 n j r b width (inr (inr (inl h))) e byte aligned = let a : b % 4 ≡ 0 = rw h at aligned in omega arith
stays-128 n j r b width (inr (inr (inr h))) e byte aligned = let a : b % 8 ≡ 0 = rw h at aligned in omega arith

stays_within : (line n j r b width : ℕ) → IsSize line → IsWidth width → Stays n j r b width line
stays_within line n j r b width (inl h) wide = subst (Stays n j r b width) (sym h) (stays-32 n j r b width wide)
stays_within line n j r b width (inr (inl h)) wide = subst (Stays n j r b width) (sym h) (stays-64 n j r b width wide)
stays_within line n j r b width (inr (inr h)) wide = subst (Stays n j r b width) (sym h) (stays-128 n j r b width wide)

-- the bytes of an aligned access stand side by side in one line
pub stands-next : (s : Sharing) (b width k : ℕ) (v : Window) (j r : ℕ) → Sound s → IsWidth width → b % width ≡ 0
    → k < width → StandsAt s b v j r → StandsAt s (b + k) v j (r + k)
unfolding window_at windows_base
stands-next s b width k v j r sound wide aligned few h =
    let all = stays_within s.line v.number j r b width sound.size wide h.place h.byte aligned in
    record { declared = h.declared; line = h.line; byte = omega arith; place = omega arith }

-- the place that an address names
pub spotted-stands : (s : Sharing) (b : ℕ) (v : Window) → Sound s → 0x80E80000 ≤ b → s.window ((b - 0x80E80000) / 2048)
    ≡ Some v
    → (b - 0x80E80000) % 2048 / s.line < v.lines
    → StandsAt s b v ((b - 0x80E80000) % 2048 / s.line) ((b - 0x80E80000) % 2048 % s.line)
unfolding window_at windows_base
spotted-stands s b v sound above there low =
    let number = (sound.windows ((b - 0x80E80000) / 2048) v there).number in
    let some : 1 ≤ s.line = size-some s.line sound.size in
    let parts = div-add-mod' ((b - 0x80E80000) % 2048) s.line in
    record {
      declared = ap s.window number ∙ there;
      line = low;
      byte = mod-lt ((b - 0x80E80000) % 2048) some;
      place = rw number (omega arith);
    }

pub first_is : window_at 0 ≡ 0x80E80000
unfolding window_at windows_base
first_is = refl

-- ---- the search for the place of an address, step by step

-- an address below the windows
pub nowhere-below : (s : Sharing) (b : ℕ) → Sound s → b < 0x80E80000 → (v : Window) (j r : ℕ) → ¬ StandsAt s b v j r
nowhere-below s b sound low v j r stands = let at_it = stands-spotted s b v j r sound stands in omega arith

-- an address in no window
pub nowhere-none : (s : Sharing) (b : ℕ) → Sound s → s.window ((b - 0x80E80000) / 2048) ≡ None → (v : Window) (j r : ℕ)
    → ¬ StandsAt s b v j r
nowhere-none s b sound none v j r stands =
    let at_it = stands-spotted s b v j r sound stands in
    let there : s.window ((b - 0x80E80000) / 2048) ≡ Some v = rw at_it.number stands.declared in
    let wrong : None ≡ Some v = sym none ∙ there in cc

pub nowhere-unless : (p : Placement) (b : ℕ) → get_or p.shape ((b - 0x80E80000) / 2048) None ≡ None
    → (v : Window) (j r : ℕ) → ¬ StandsAt (sharing_of p) b v j r
nowhere-unless p b none =
    nowhere-none (sharing_of p) b (sound-of p) (standing-read p.shape ((b - 0x80E80000) / 2048) ∙ none)

-- an address above the windows
pub nowhere-above : (s : Sharing) (b : ℕ) → Sound s → 3 ≤ (b - 0x80E80000) / 2048 → (v : Window) (j r : ℕ)
    → ¬ StandsAt s b v j r
nowhere-above s b sound high v j r stands =
    let at_it = stands-spotted s b v j r sound stands in
    let low = (sound.windows v.number v stands.declared).window.shaped.number in omega arith

-- a line that isn't declared
pub nowhere-past : (s : Sharing) (b : ℕ) (u : Window) → Sound s → s.window ((b - 0x80E80000) / 2048) ≡ Some u
    → u.lines ≤ (b - 0x80E80000) % 2048 / s.line
    → (v : Window) (j r : ℕ) → ¬ StandsAt s b v j r
nowhere-past s b u sound read high v j r stands =
    let at_it = stands-spotted s b v j r sound stands in
    let there : s.window ((b - 0x80E80000) / 2048) ≡ Some v = rw at_it.number stands.declared in
    let same : Some u ≡ Some v = sym read ∙ there in
    let window : u ≡ v = cc in
    let lines : u.lines ≡ v.lines = ap (λ (x : Window). x.lines) window in
    let low = stands.line in
    let line = at_it.line in
    omega arith

pub nowhere-line : (p : Placement) (b : ℕ) (u : Window) → get_or p.shape ((b - 0x80E80000) / 2048) None ≡ Some u
    → u.lines ≤ (b - 0x80E80000) % 2048 / p.line
    → (v : Window) (j r : ℕ) → ¬ StandsAt (sharing_of p) b v j r
nowhere-line p b u read =
    nowhere-past (sharing_of p) b u (sound-of p) (standing-read p.shape ((b - 0x80E80000) / 2048) ∙ read)

-- a declared line
pub stands-found : (p : Placement) (b : ℕ) (v : Window) → 0x80E80000 ≤ b → get_or p.shape ((b - 0x80E80000) / 2048) None
    ≡ Some v
    → (b - 0x80E80000) % 2048 / p.line < v.lines → StandsAt (sharing_of p) b v ((b - 0x80E80000) % 2048 / p.line)
    ((b - 0x80E80000) % 2048 % p.line)
stands-found p b v above read low =
    spotted-stands (sharing_of p) b v (sound-of p) above (standing-read p.shape ((b - 0x80E80000) / 2048) ∙ read) low
