-- What is cut out of a text behind a place, where the bytes there are known.
use Rattle.std.proofs.Common.{◌≡◌, ◌≢◌, ℕ, ◌+◌, Bool, true, false, not, ◌&&◌, ◌||◌, List, [], ◌∷◌, ◌++◌}
use Rattle.std.proofs.Common.{length, drop, take, refl, sym, ap, ◌∙◌, arith}
use Rattle.std.specs.List.{prefix_len, take_while}
use Rattle.std.proofs.lemmas.Bool.{and_parts, not-true}
use Rattle.std.proofs.lemmas.List.{drop-drop}
use Rattle.tm_asm_line.specs.Reading.{is_blank, is_delimiter, after_blanks, operand, name_at}
use Rattle.std.proofs.Math.Seq.{take-append_seam, drop-append_seam}

-- no byte stops
abbrev pub none : (ℕ → Bool) → List ℕ → Bool
none stop [] = true
none stop (b ∷ bs) = not (stop b) && none stop bs

-- the first byte stops, if there is one
abbrev pub ends : (ℕ → Bool) → List ℕ → Bool
ends stop [] = true
ends stop (b ∷ bs) = stop b

pub none-append : (stop : ℕ → Bool) (xs ys : List ℕ) → none stop xs ≡ true → none stop ys ≡ true → none stop (xs ++ ys)
    ≡ true
none-append stop [] ys h k = k
none-append stop (x ∷ xs) ys h k = let p = and_parts (not (stop x)) (none stop xs) h in
    rw (p.0, none-append stop xs ys p.1 k)

-- how far it goes to what stops
pub prefix-none : (stop : ℕ → Bool) (bs rest : List ℕ) → none stop bs ≡ true → ends stop rest ≡ true
    → prefix_len (λ b. not (stop b)) (bs ++ rest) ≡ length bs
prefix-none stop [] [] h k = refl
prefix-none stop [] (b ∷ bs) h k = rw k
prefix-none stop (b ∷ bs) rest h k =
    let p = and_parts (not (stop b)) (none stop bs) h in
    rw (p.0, prefix-none stop bs rest p.1 k) (omega arith)

pub cut : (stop : ℕ → Bool) (bs rest : List ℕ) → none stop bs ≡ true → ends stop rest ≡ true
    → take_while (λ b. not (stop b)) (bs ++ rest) ≡ bs
cut stop bs rest h k = rw (prefix-none stop bs rest h k) (take-append_seam bs rest)

-- what stands behind bytes that stand at a place
pub drop_behind : (text bs rest : List ℕ) (at : ℕ) → drop at text ≡ bs ++ rest → drop (at + length bs) text ≡ rest
drop_behind text bs rest at here =
    sym (drop-drop (length bs) at text) ∙ (ap (λ (l : List ℕ). drop (length bs) l) here ∙ drop-append_seam bs rest)

pub operand-here : (text bs rest : List ℕ) (at : ℕ) → drop at text ≡ bs ++ rest → none is_delimiter bs ≡ true
    → ends is_delimiter rest ≡ true → operand text at ≡ bs
unfolding operand
operand-here text bs rest at here h k = rw here (cut is_delimiter bs rest h k)

pub name-here : (text bs rest : List ℕ) (at : ℕ) → drop at text ≡ bs ++ rest → none is_blank bs ≡ true
    → ends is_blank rest ≡ true → name_at text at ≡ bs
unfolding name_at
name-here text bs rest at here h k = rw here (cut is_blank bs rest h k)

-- the first byte is no blank, if there is one
abbrev pub no_blank : List ℕ → Bool
no_blank [] = true
no_blank (b ∷ bs) = not (is_blank b)

-- no blank stands at the place
pub blanks-none : (text rest : List ℕ) (at : ℕ) → drop at text ≡ rest → no_blank rest ≡ true → after_blanks text at ≡ at
unfolding after_blanks
blanks-none text [] at here h = rw here (omega arith)
blanks-none text (b ∷ bs) at here h = let e = not-true (is_blank b) h in rw (here, e) (omega arith)

-- one blank stands at the place
pub blanks-one : (text rest : List ℕ) (at : ℕ) → drop at text ≡ 32 ∷ rest → no_blank rest ≡ true → after_blanks text at
    ≡ at + 1
unfolding after_blanks is_blank
blanks-one text [] at here h = rw here
blanks-one text (b ∷ bs) at here h = let e = not-true (is_blank b) h in rw (here, e)

or_false : (a b : Bool) → a || b ≡ false → a ≡ false
or_false true b h = absurd (cc)
or_false false b h = refl

-- bytes without a delimiter don't begin with a blank
pub no_blank-none : (bs rest : List ℕ) → length bs ≢ 0 → none is_delimiter bs ≡ true → no_blank (bs ++ rest) ≡ true
unfolding is_delimiter
no_blank-none [] rest some h = absurd (some refl)
no_blank-none (b ∷ bs) rest some h =
    let p = and_parts (not (is_delimiter b)) (none is_delimiter bs) h in
    let e = or_false (is_blank b) _ (not-true (is_delimiter b) p.0) in
    rw e
