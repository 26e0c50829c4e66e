-- The words of code, one by one.
use Rattle.std.proofs.Common.{◌≡◌, ◌≤◌, ◌<◌, ℕ, zero, suc, ◌+◌, ◌-◌, ◌*◌, ◌%◌, Bool, true, false, nat_le}
use Rattle.std.proofs.Common.{if◌then◌else◌, List, [], ◌∷◌, ◌++◌, length, take, get_or, ℤ, pos, negsuc, Option, Some}
use Rattle.std.proofs.Common.{Result, Ok, Err, OnOk, refl, sym, ap, ◌∙◌, subst, inl, inr, arith, length-take-le}
use Rattle.std.specs.Prelude.{slice_get, is_err}
use Rattle.std.proofs.lemmas.Int.{ints}
use Rattle.std.proofs.Math.Bool.{and-true}
use Rattle.std.proofs.lemmas.Bool.{leb-true}
use Rattle.std.proofs.lemmas.Bool.Decides.{leb_tells}
use Rattle.std.proofs.lemmas.List.{take_more}
use Rattle.tm_table.specs.declared.instr.Op.{Op}
use Rattle.tm_table.specs.declared.instr.Op.TheVariants.{Jal, Beq, Bne, Blt, Bge, Bltu, Bgeu}
use Rattle.tm_table.specs.Ops.{is_branch}
use Rattle.tm_table.specs.Words.{low, Fits, From}
use Rattle.tm_asm.specs.declared.code.Item.{Item}
use Rattle.tm_asm.specs.declared.fault.CodeFault.{CodeFault}
use Rattle.tm_asm.specs.declared.fault.CodeFault.TheVariants.{FarBranch, NoMemory}
use Rattle.tm_asm.specs.Sheet.{Sheet, IsFar, IsFarAt, IsFirstFar, IsGood, AllGood, HasPlace, AllPlaced}
use Rattle.tm_asm.specs.Sheet.{words_in, worded, reaches, branch_reaches, jump_reaches, distance, branching, jumping}

good_more : (xs : List Item) (x : Item) → AllGood xs → IsGood x → AllGood (xs ++ x ∷ [])
good_more [] x h g = (g, tt)
good_more (y ∷ xs) x h g = (h.0, good_more xs x h.1 g)

-- one more word, or none
pub good_push : (b : Bool) (xs : List Item) (x : Item) → AllGood xs → IsGood x
    → AllGood (if b then xs ++ x ∷ [] else xs)
good_push true xs x h g = good_more xs x h g
good_push false xs x h g = h

pub good_at : (xs : List Item) (k : ℕ) (d : Item) → k < length xs → AllGood xs → IsGood (get_or xs k d)
good_at [] k d lt h = absurd (omega arith)
good_at (x ∷ xs) zero d lt h = h.0
good_at (x ∷ xs) (suc k) d lt h = good_at xs k d (omega arith) h.1

pub placed_at : (ps : List (Option ℕ)) (xs : List Item) (k : ℕ) (d : Item) → k < length xs → AllPlaced ps xs
    → HasPlace ps (get_or xs k d)
placed_at ps [] k d lt h = absurd (omega arith)
placed_at ps (x ∷ xs) zero d lt h = h.0
placed_at ps (x ∷ xs) (suc k) d lt h = placed_at ps xs k d (omega arith) h.1

pub get_at : (xs : List Item) (k : ℕ) (d : Item) → k < length xs → slice_get xs k ≡ Some (get_or xs k d)
get_at [] k d lt = absurd (omega arith)
get_at (x ∷ xs) zero d lt = refl
get_at (x ∷ xs) (suc k) d lt = get_at xs k d (omega arith)

pub words-append : (ps : List (Option ℕ)) (at : ℕ) (xs ys : List Item) → words_in ps at (xs ++ ys)
    ≡ words_in ps at xs ++ words_in ps (at + length xs) ys
words-append ps at [] ys = let e : at ≡ at + 0 = omega arith in ap (λ (n : ℕ). words_in ps n ys) e
words-append ps at (x ∷ xs) ys =
    let e : at + 1 + length xs ≡ at + suc (length xs) = omega arith in
    ap (λ (l : List ℕ). worded ps at x ∷ l) (words-append ps (at + 1) xs ys ∙ ap
    (λ (n : ℕ). words_in ps (at + 1) xs ++ words_in ps n ys) e)

-- the words up to one more
pub words-more : (ps : List (Option ℕ)) (xs : List Item) (k : ℕ) (d : Item) → k < length xs
    → words_in ps 0 (take (k + 1) xs) ≡ words_in ps 0 (take k xs) ++ worded ps k (get_or xs k d) ∷ []
words-more ps xs k d lt =
    let size : 0 + length (take k xs) ≡ k = omega (arith, length-take-le k xs (omega arith)) in
    rw (
      take_more xs k d lt,
      words-append ps 0 (take k xs) (get_or xs k d ∷ []),
      size,
    )

-- ---- the instruction of a word that reaches its label

branch_fine : (from to : ℕ) → branch_reaches (distance from to) ≡ true
    → From (negsuc 4095) (pos 4095) (distance from to) × (low 13 (distance from to) % 2 ≡ 0)
branch_fine from to h =
    elim (leb_tells from to) [
      | inl t ↦
          let e = t.0 in
          let n = 4 * (to - from) in
          let top : n ≤ 4094 = leb-true n 4094 (rw e at h) in
          rw e ((omega (arith, ints), omega (arith, ints)), omega arith)
      | inr t ↦
          let e = t.0 in
          let n = 4 * (from - to) - 1 in
          let top : n ≤ 4095 = leb-true n 4095 (sym (and-true (nat_le n 4095)) ∙ rw e at h) in
          rw e ((omega (arith, ints), omega (arith, ints)), omega arith)
    ]

jump_fine : (from to : ℕ) → jump_reaches (distance from to) ≡ true
    → From (negsuc 1048575) (pos 1048575) (distance from to) × (low 21 (distance from to) % 2 ≡ 0)
jump_fine from to h =
    elim (leb_tells from to) [
      | inl t ↦
          let e = t.0 in
          let n = 4 * (to - from) in
          let top : n ≤ 1048574 = leb-true n 1048574 (rw e at h) in
          rw e ((omega (arith, ints), omega (arith, ints)), omega arith)
      | inr t ↦
          let e = t.0 in
          let n = 4 * (from - to) - 1 in
          let top : n ≤ 1048575 = leb-true n 1048575 (sym (and-true (nat_le n 1048575)) ∙ rw e at h) in
          rw e ((omega (arith, ints), omega (arith, ints)), omega arith)
    ]

fits_branch : (op : Op) (rs1 rs2 : ℕ) (z : ℤ) → is_branch op ≡ true → rs1 < 32 → rs2 < 32
    → From (negsuc 4095) (pos 4095) z → low 13 z % 2 ≡ 0
    → Fits (record { op = op; rd = 0; rs1 = rs1; rs2 = rs2; imm = z })
unfolding Fits
fits_branch Beq rs1 rs2 z b h k f e = (refl, h, k, f, e)
fits_branch Bne rs1 rs2 z b h k f e = (refl, h, k, f, e)
fits_branch Blt rs1 rs2 z b h k f e = (refl, h, k, f, e)
fits_branch Bge rs1 rs2 z b h k f e = (refl, h, k, f, e)
fits_branch Bltu rs1 rs2 z b h k f e = (refl, h, k, f, e)
fits_branch Bgeu rs1 rs2 z b h k f e = (refl, h, k, f, e)
fits_branch _ rs1 rs2 z b h k f e = absurd (cc)

fits_jump : (rd : ℕ) (z : ℤ) → rd < 32 → From (negsuc 1048575) (pos 1048575) z → low 21 z % 2 ≡ 0
    → Fits (record { op = Jal; rd = rd; rs1 = 0; rs2 = 0; imm = z })
unfolding Fits
fits_jump rd z h f e = (h, refl, refl, f, e)

-- a branch and a jump that reach
pub branch-fits : (op : Op) (rs1 rs2 from to : ℕ) → is_branch op ≡ true → rs1 < 32 → rs2 < 32
    → branch_reaches (distance from to) ≡ true → Fits (branching op rs1 rs2 (distance from to))
branch-fits op rs1 rs2 from to b h k w = let f = branch_fine from to w in fits_branch op rs1 rs2 _ b h k f.0 f.1

pub jump-fits : (rd from to : ℕ) → rd < 32 → jump_reaches (distance from to) ≡ true
    → Fits (jumping rd (distance from to))
jump-fits rd from to h w = let f = jump_fine from to w in fits_jump rd _ h f.0 f.1

-- ---- finishing

pub pushed : {A E P : Type 0} (r : Result A E) → is_err r ≡ false → OnOk r P → P
pushed (Ok x) h p = p
pushed (Err e) h p = absurd (cc)

-- the words that reach, up to one more
pub near_more : (ps : List (Option ℕ)) (xs : List Item) (n : ℕ) (d : Item) → n < length xs
    → ((k : ℕ) (x : Item) → k < n → slice_get xs k ≡ Some x → reaches ps k x ≡ true)
    → reaches ps n (get_or xs n d) ≡ true → (k : ℕ) (x : Item) → k < n + 1 → slice_get xs k ≡ Some x
    → reaches ps k x ≡ true
near_more ps xs n d lt before here k x h there =
    elim (leb_tells (suc k) n) [
      | inl t ↦ before k x t.1 there
      | inr t ↦
          let e : k ≡ n = omega arith in
          let at_n : slice_get xs n ≡ Some x = rw e at there in
          let same : x ≡ get_or xs n d = cc (get_at xs n d lt) in
          rw (e, same) here
    ]

-- the first word that doesn't reach
pub far_first : (s : Sheet) (k : ℕ) (x : Item) (e : CodeFault) → slice_get s.items k ≡ Some x
    → ((j : ℕ) (y : Item) → j < k → slice_get s.items j ≡ Some y → reaches s.places j y ≡ true)
    → IsFarAt s.places k x e → IsFar s e
far_first s k x (FarBranch from to) there before h =
    let P : ℕ → Type 0 = λ n. IsFirstFar s n to in
    subst P (sym h.0) (record { item = x; there = there; leads = h.1; far = h.2; first = before })
far_first s k x NoMemory there before h = tt

pub placed_more : (ps : List (Option ℕ)) (xs : List Item) (x : Item) → AllPlaced ps xs → HasPlace ps x
    → AllPlaced ps (xs ++ x ∷ [])
placed_more ps [] x h g = (g, tt)
placed_more ps (y ∷ xs) x h g = (h.0, placed_more ps xs x h.1 g)
