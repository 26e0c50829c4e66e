-- The map of the guest's memory, as the machine's worlds see it: text and tables, private areas and windows are apart.
use Rattle.std.proofs.Common.{◌≡◌, ℕ, zero, suc, ◌+◌, ◌-◌, ◌*◌, ◌/◌, ◌%◌, ◌^◌, ◌<◌, ◌≤◌, List, [], ◌∷◌, length, Bool}
use Rattle.std.proofs.Common.{true, false, ◌&&◌, ◌||◌, ◌==◌, None, Some, ◌⊎◌, inl, inr, refl, ap, ◌∙◌, subst, arith}
use Rattle.std.specs.Prelude.{slice_get, slice_index, if◌then◌else◌}
use Rattle.std.proofs.lemmas.Bool.{and_parts, or_cases, or_left, or_right, false_from_ne_true}
use Rattle.std.proofs.lemmas.Bool.Decides.{nat_tests}
use Rattle.tm_plan_cases.specs.declared.program.Program.{Program}
use Rattle.tm_plan_map.specs.Map.{guest_base, guest_end, text_base, tables_base, private_at, private_size}
use Rattle.tm_plan_map.specs.Map.{windows_base, windows_size}
use Rattle.tm_world.specs.Place.{is_text, is_table, is_private, is_window, image_byte, word_at, byte_of}
use Rattle.tm_runs.specs.World.{Sizes, holds, is_fixed_dword, is_private_dword, is_guest_dword}
use Rattle.tm_plan_map.proofs.Within.{within-parts, within-false}
use Rattle.tm_runs.proofs.Bytes.{byte-lt}
use Rattle.tm_plan_map.proofs.Within.{within-true}

holds-true : (base n a : ℕ) → holds base n a ≡ true → (base ≤ a) × (a + 8 ≤ base + n)
holds-true base n a h = grind (arith, nat_tests)

-- where a private dword is
private-place : (h a : ℕ) → is_private_dword h a ≡ true → h < 16 → (2160132096 ≤ a) × (a < 2162229248)
    × (private_at h ≤ a) × (a + 8 ≤ private_at h + private_size)
unfolding is_private_dword private_at private_size
private-place h a e l = let p = holds-true _ _ a e in (omega (arith, p), omega (arith, p), p.0, p.1)

-- where a dword of text or tables is
pub fixed-place : (p : Program) (a : ℕ) → Sizes p → is_fixed_dword p a ≡ true → a + 8 ≤ 2160066560
unfolding is_fixed_dword text_base tables_base
fixed-place p a s e = by (or_cases _ _ e)
  where
    by : (holds text_base (4 * length p.text) a ≡ true) ⊎ (holds tables_base (length p.tables) a ≡ true)
        → a + 8 ≤ 2160066560
    by (inl x) = let q = holds-true text_base (4 * length p.text) a x in omega (arith, q, s.text)
    by (inr x) = let q = holds-true tables_base (length p.tables) a x in omega (arith, q, s.tables)

-- each byte of a private dword is private
pub private-bytes : (h a i : ℕ) → is_private_dword h a ≡ true → i < 8 → is_private h (a + i) ≡ true
unfolding is_private_dword
private-bytes h a i e l = let p = holds-true (private_at h) private_size a e in
    within-true (private_at h) private_size (a + i) (omega arith) (omega arith)

pub fixed-bytes : (p : Program) (a i : ℕ) → is_fixed_dword p a ≡ true → i < 8
    → (is_text p (a + i) || is_table p (a + i)) ≡ true
unfolding is_fixed_dword
fixed-bytes p a i e l = by (or_cases _ _ e)
  where
    by : (holds text_base (4 * length p.text) a ≡ true) ⊎ (holds tables_base (length p.tables) a ≡ true)
        → (is_text p (a + i) || is_table p (a + i)) ≡ true
    by (inl x) = let q = holds-true text_base (4 * length p.text) a x in
        or_left _ _ (within-true text_base (4 * length p.text) (a + i) (omega arith) (omega arith))
    by (inr x) = let q = holds-true tables_base (length p.tables) a x in
        or_right (is_text p (a + i)) _ (within-true tables_base (length p.tables) (a + i) (omega arith) (omega arith))

-- text and tables are in no private area
pub fixed-open : (p : Program) (h a i : ℕ) → Sizes p → is_fixed_dword p a ≡ true → i < 8 → is_private h (a + i) ≡ false
unfolding private_at
fixed-open p h a i s e l = let q = fixed-place p a s e in within-false _ private_size (a + i) (inl (omega arith))

pub private-free : (p : Program) (h a : ℕ) → Sizes p → h < 16 → is_private_dword h a ≡ true → is_fixed_dword p a ≡ false
private-free p h a s l e = false_from_ne_true (is_fixed_dword p a)
    (λ q. let f = fixed-place p a s q in let g = private-place h a e l in omega (arith, f, g))

-- no byte of a private dword is in a window
pub private-window : (h a i : ℕ) → h < 16 → is_private_dword h a ≡ true → i < 8 → is_window (a + i) ≡ true → ⊥
unfolding windows_base windows_size
private-window h a i l e q w = let f = private-place h a e l in let g =
    within-parts windows_base windows_size (a + i) w in omega (arith, f, g)

-- the image holds 0 in private areas
pub private-image : (p : Program) (h a i : ℕ) → Sizes p → h < 16 → is_private_dword h a ≡ true → i < 8
    → image_byte p (a + i) ≡ 0
unfolding text_base tables_base
private-image p h a i s l e q =
    let f = private-place h a e l in
    let x : is_text p (a + i) ≡ false =
    within-false text_base (4 * length p.text) (a + i) (inr (omega (arith, f, s.text))) in
    let y : is_table p (a + i) ≡ false =
    within-false tables_base (length p.tables) (a + i) (inr (omega (arith, f, s.tables))) in
    let b = a + i in
    ap (λ (c : Bool). if c then byte_of (slice_index p.text ((b - text_base) / 4)) ((b - text_base) % 4)
    else (if is_table p b then slice_index p.tables (b - tables_base) else 0)) x
    ∙ ap (λ (c : Bool). if c then slice_index p.tables (b - tables_base) else 0) y

pick-lt : (c d : Bool) (x y n : ℕ) → x < n → y < n → 0 < n → (if c then x else (if d then y else 0)) < n
pick-lt true d x y n p q r = p
pick-lt false true x y n p q r = q
pick-lt false false x y n p q r = r

pub image-lt : (p : Program) (b : ℕ) → Sizes p → image_byte p b < 256
image-lt p b s = pick-lt (is_text p b) (is_table p b) _ _ 256 (byte-lt _ _) (s.bytes (b - tables_base)) (omega arith)

get-index : (xs : List ℕ) (k w : ℕ) → slice_get xs k ≡ Some w → slice_index xs k ≡ w
get-index [] k w e = cc
get-index (x ∷ xs) zero w e = cc
get-index (x ∷ xs) (suc k) w e = get-index xs k w e

-- where a word of the text stands
pub word-place : (p : Program) (pc w : ℕ) → Sizes p → word_at p pc ≡ Some w → (2147483648 ≤ pc) × (pc < 2155872256)
    × (w < 2 ^ 32)
unfolding text_base
word-place p pc w s e = by ((pc % 4 == 0) && is_text p pc) refl e
  where
    by : (b : Bool) → ((pc % 4 == 0) && is_text p pc) ≡ b
        → (if b then slice_get p.text ((pc - text_base) / 4) else None) ≡ Some w → (2147483648 ≤ pc) × (pc < 2155872256)
        × (w < 2 ^ 32)
    by true q r =
        let t = within-parts text_base (4 * length p.text) pc (and_parts (pc % 4 == 0) (is_text p pc) q).1 in
        let i = get-index p.text ((pc - text_base) / 4) w r in
        (omega (arith, t), omega (arith, t, s.text), subst (λ (x : ℕ). x < 2 ^ 32) i (s.words ((pc - text_base) / 4)))
    by false q r = cc

-- which dwords may be accessed
pub guest-true : (a : ℕ) → guest_base ≤ a → a + 8 ≤ guest_end → is_guest_dword a ≡ true
unfolding is_guest_dword
guest-true a p q = grind (arith, nat_tests)

pub guest-parts : (a : ℕ) → is_guest_dword a ≡ true → (guest_base ≤ a) × (a + 8 ≤ guest_end)
unfolding is_guest_dword
guest-parts a h = grind (arith, nat_tests)
