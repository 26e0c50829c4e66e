-- Which accesses are allowed, by where their first and last bytes stand.
use Rattle.std.proofs.Common.{◌≡◌, ◌≤◌, ◌<◌, ℕ, ◌+◌, ◌-◌, ◌/◌, ◌%◌, inl, inr, sym, subst, arith, refl, ◌≢◌, ◌↔◌}
use Rattle.std.proofs.Common.{IsTrue, Bool, nat_eq}
use Rattle.std.proofs.lemmas.Bool.Decides.{nat_tests}
use Rattle.tm_plan_map.specs.declared.windows.Window.{Window}
use Rattle.tm_plan_map.specs.declared.windows.Kind2.{Kind2}
use Rattle.tm_plan_map.specs.declared.windows.Kind2.TheVariants.{True, False, Own}
use Rattle.tm_place.specs.declared.placement.Placement.{Placement}
use Rattle.tm_place.specs.Placed.{sharing_of}
use Rattle.tm_place.specs.Sharing.{Sharing, StandsAt, StoresAt, LoadsAt, MayStoreByte, MayLoadByte, MayStore, MayLoad}
use Rattle.tm_table.specs.Row.{IsWidth}
use Rattle.tm_place.proofs.PartLemmas.{part-at, part-from}
use Rattle.tm_place.proofs.SpotLemmas.{Sound, sound-of, stands-one, stands-next}

pub width-some : (width : ℕ) → IsWidth width → 1 ≤ width
width-some width (inl h) = omega arith
width-some width (inr (inl h)) = omega arith
width-some width (inr (inr (inl h))) = omega arith
width-some width (inr (inr (inr h))) = omega arith

-- what holds of the first and the last byte holds of those between
stores-between : (kind : Kind2) (s : Sharing) (h j r last k : ℕ) → k ≤ last → StoresAt kind s h j r
    → StoresAt kind s h j (r + last) → StoresAt kind s h j (r + k)
stores-between True s h j r last k few one two = tt
stores-between False s h j r last k few one two = (omega arith, omega arith)
stores-between Own s h j r last k few one two = one

loads-all : (kind : Kind2) (s : Sharing) (h j r q : ℕ) → LoadsAt kind s h j r → LoadsAt kind s h j q
loads-all True s h j r q one = tt
loads-all False s h j r q one = tt
loads-all Own s h j r q one = one

pub may_store-from : (s : Sharing) (h b width : ℕ) (v : Window) (j r : ℕ) → Sound s → IsWidth width → b % width ≡ 0
    → StandsAt s b v j r
    → StoresAt v.kind s h j r → StoresAt v.kind s h j (r + (width - 1)) → MayStore s h b width
may_store-from s h b width v j r sound wide aligned stands one two = record {
  aligned = aligned;
  bytes = λ a low high.
      let few : a - b < width = omega arith in
      let next = stands-next s b width (a - b) v j r sound wide aligned few stands in
      let e : b + (a - b) ≡ a = omega arith in
      record {
        window = v;
        line = j;
        byte = r + (a - b);
        stands = subst (λ (x : ℕ). StandsAt s x v j (r + (a - b))) e next;
        may = stores-between v.kind s h j r (width - 1) (a - b) (omega arith) one two;
      };
}

pub may_load-from : (s : Sharing) (h b width : ℕ) (v : Window) (j r : ℕ) → Sound s → IsWidth width → b % width ≡ 0
    → StandsAt s b v j r
    → LoadsAt v.kind s h j r → MayLoad s h b width
may_load-from s h b width v j r sound wide aligned stands one = record {
  aligned = aligned;
  bytes = λ a low high.
      let few : a - b < width = omega arith in
      let next = stands-next s b width (a - b) v j r sound wide aligned few stands in
      let e : b + (a - b) ≡ a = omega arith in
      record {
        window = v;
        line = j;
        byte = r + (a - b);
        stands = subst (λ (x : ℕ). StandsAt s x v j (r + (a - b))) e next;
        may = loads-all v.kind s h j r (r + (a - b)) one;
      };
}

loads-free : (kind : Kind2) (s : Sharing) (h j r : ℕ) → kind ≢ Own → LoadsAt kind s h j r
loads-free True s h j r not = tt
loads-free False s h j r not = tt
loads-free Own s h j r not = absurd (not refl)

-- a byte that stands somewhere is stored to as it may be there
pub stores-there : (s : Sharing) (h b : ℕ) (v : Window) (j r : ℕ) → Sound s → StandsAt s b v j r → MayStoreByte s h b
    → StoresAt v.kind s h j r
stores-there s h b v j r sound stands m =
    let same = stands-one s b v m.window j m.line r m.byte sound stands m.stands in
    let at_window : StoresAt v.kind s h m.line m.byte =
    subst (λ (u : Window). StoresAt u.kind s h m.line m.byte) same.window m.may in
    let at_line : StoresAt v.kind s h j m.byte = subst (λ (i : ℕ). StoresAt v.kind s h i m.byte) same.line at_window in
    subst (λ (q : ℕ). StoresAt v.kind s h j q) same.byte at_line

pub loads-there : (s : Sharing) (h b : ℕ) (v : Window) (j r : ℕ) → Sound s → StandsAt s b v j r → MayLoadByte s h b
    → LoadsAt v.kind s h j r
loads-there s h b v j r sound stands m =
    let same = stands-one s b v m.window j m.line r m.byte sound stands m.stands in
    let at_window : LoadsAt v.kind s h m.line m.byte =
    subst (λ (u : Window). LoadsAt u.kind s h m.line m.byte) same.window m.may in
    let at_line : LoadsAt v.kind s h j m.byte = subst (λ (i : ℕ). LoadsAt v.kind s h i m.byte) same.line at_window in
    subst (λ (q : ℕ). LoadsAt v.kind s h j q) same.byte at_line

pub may_store-first : (s : Sharing) (h b width : ℕ) (v : Window) (j r : ℕ) → Sound s → IsWidth width
    → StandsAt s b v j r → MayStore s h b width
    → StoresAt v.kind s h j r
may_store-first s h b width v j r sound wide stands m =
    let some = width-some width wide in stores-there s h b v j r sound stands (m.bytes b (omega arith) (omega arith))

pub may_store-last : (s : Sharing) (h b width : ℕ) (v : Window) (j r : ℕ) → Sound s → IsWidth width → StandsAt s b v j r
    → MayStore s h b width
    → StoresAt v.kind s h j (r + (width - 1))
may_store-last s h b width v j r sound wide stands m =
    let some = width-some width wide in
    let next = stands-next s b width (width - 1) v j r sound wide m.aligned (omega arith) stands in
    stores-there s h (b + (width - 1)) v j (r + (width - 1)) sound next
    (m.bytes (b + (width - 1)) (omega arith) (omega arith))

pub may_load-first : (s : Sharing) (h b width : ℕ) (v : Window) (j r : ℕ) → Sound s → IsWidth width → StandsAt s b v j r
    → MayLoad s h b width
    → LoadsAt v.kind s h j r
may_load-first s h b width v j r sound wide stands m =
    let some = width-some width wide in loads-there s h b v j r sound stands (m.bytes b (omega arith) (omega arith))

-- where the first byte stands nowhere, nothing is allowed
pub may_store-nowhere : (s : Sharing) (h b width : ℕ) → IsWidth width → ((v : Window) (j r : ℕ) → ¬ StandsAt s b v j r)
    → ¬ MayStore s h b width
may_store-nowhere s h b width wide none m =
    let some = width-some width wide in let first = m.bytes b (omega arith) (omega arith) in
    none first.window first.line first.byte first.stands

pub may_load-nowhere : (s : Sharing) (h b width : ℕ) → IsWidth width → ((v : Window) (j r : ℕ) → ¬ StandsAt s b v j r)
    → ¬ MayLoad s h b width
may_load-nowhere s h b width wide none m =
    let some = width-some width wide in let first = m.bytes b (omega arith) (omega arith) in
    none first.window first.line first.byte first.stands

-- ---- what the code tests, by the kind of the window

pub same-test : (a b : ℕ) → IsTrue (nat_eq a b) → a ≡ b
same-test a b t = grind (arith, nat_tests)

pub test-same : (a b : ℕ) → a ≡ b → IsTrue (nat_eq a b)
test-same a b e = grind (arith, nat_tests)

-- Byte r of line j of window v, which stands at b, where an aligned access begins.
pub record Begins (s : Sharing) (b width : ℕ) (v : Window) (j r : ℕ) : Type 0 where
  pub sound : Sound s
  pub wide : IsWidth width
  pub aligned : b % width ≡ 0
  pub stands : StandsAt s b v j r

pub begins-at : (p : Placement) (b width n : ℕ) {v : Window} {j r : ℕ} → IsWidth width → n ≡ width → b % n ≡ 0
    → StandsAt (sharing_of p) b v j r
    → Begins (sharing_of p) b width v j r
begins-at p b width n wide e aligned stands = record {
  sound = sound-of p;
  wide = wide;
  aligned = rw e at aligned;
  stands = stands;
}

pub may_store-true : {s : Sharing} (h b width : ℕ) {v : Window} {j r : ℕ} → Begins s b width v j r → v.kind ≡ True
    → MayStore s h b width
may_store-true {s} h b width {v} {j} {r} at_it is =
    may_store-from s h b width v j r at_it.sound at_it.wide at_it.aligned at_it.stands
    (subst (λ (k : Kind2). StoresAt k s h j r) (sym is) tt)
    (subst (λ (k : Kind2). StoresAt k s h j (r + (width - 1))) (sym is) tt)

pub may_store-own : {s : Sharing} (h b width : ℕ) {v : Window} {j r : ℕ} → Begins s b width v j r → v.kind ≡ Own
    → {t : Bool} → IsTrue t ↔ (j % s.harts ≡ h) → IsTrue t ↔ MayStore s h b width
may_store-own {s} h b width {v} {j} {r} at_it is own = (
  λ t. may_store-from s h b width v j r at_it.sound at_it.wide at_it.aligned at_it.stands
      (subst (λ (k : Kind2). StoresAt k s h j r) (sym is) (own.0 t))
      (subst (λ (k : Kind2). StoresAt k s h j (r + (width - 1))) (sym is) (own.0 t)),
  λ m. own.1 (subst (λ (k : Kind2). StoresAt k s h j r) is
      (may_store-first s h b width v j r at_it.sound at_it.wide at_it.stands m)),
)

-- an access to a false window that begins in the hart's part
pub may_store-within : {s : Sharing} (h b width : ℕ) {v : Window} {j r : ℕ} → Begins s b width v j r → v.kind ≡ False
    → r / s.part ≡ h
    → IsTrue (nat_eq ((r + (width - 1)) / s.part) h) ↔ MayStore s h b width
may_store-within {s} h b width {v} {j} {r} at_it is begins = (
  λ t. may_store-from s h b width v j r at_it.sound at_it.wide at_it.aligned at_it.stands
      (subst (λ (k : Kind2). StoresAt k s h j r) (sym is) (part-from r s.part h at_it.sound.some begins))
      (subst (λ (k : Kind2). StoresAt k s h j (r + (width - 1))) (sym is)
      (part-from (r + (width - 1)) s.part h at_it.sound.some (same-test ((r + (width - 1)) / s.part) h t))),
  λ m. let within = subst (λ (k : Kind2). StoresAt k s h j (r + (width - 1))) is
      (may_store-last s h b width v j r at_it.sound at_it.wide at_it.stands m) in
      test-same ((r + (width - 1)) / s.part) h (part-at (r + (width - 1)) s.part h at_it.sound.some within.0 within.1),
)

-- an access to a false window that begins in another part
pub may_store-outside : {s : Sharing} (h b width : ℕ) {v : Window} {j r : ℕ} → Begins s b width v j r → v.kind ≡ False
    → r / s.part ≢ h → ¬ MayStore s h b width
may_store-outside {s} h b width {v} {j} {r} at_it is begins m =
    let within = subst (λ (k : Kind2). StoresAt k s h j r) is
    (may_store-first s h b width v j r at_it.sound at_it.wide at_it.stands m) in
    begins (part-at r s.part h at_it.sound.some within.0 within.1)

-- every hart may load from a window that isn't an own window
pub may_load-free : {s : Sharing} (h b width : ℕ) {v : Window} {j r : ℕ} → Begins s b width v j r → v.kind ≢ Own
    → MayLoad s h b width
may_load-free {s} h b width {v} {j} {r} at_it not =
    may_load-from s h b width v j r at_it.sound at_it.wide at_it.aligned at_it.stands (loads-free v.kind s h j r not)

pub may_load-own : {s : Sharing} (h b width : ℕ) {v : Window} {j r : ℕ} → Begins s b width v j r → v.kind ≡ Own
    → {t : Bool} → IsTrue t ↔ (j % s.harts ≡ h) → IsTrue t ↔ MayLoad s h b width
may_load-own {s} h b width {v} {j} {r} at_it is own = (
  λ t. may_load-from s h b width v j r at_it.sound at_it.wide at_it.aligned at_it.stands
      (subst (λ (k : Kind2). LoadsAt k s h j r) (sym is) (own.0 t)),
  λ m. own.1 (subst (λ (k : Kind2). LoadsAt k s h j r) is
      (may_load-first s h b width v j r at_it.sound at_it.wide at_it.stands m)),
)
