-- What is printed of parts, one by one.
use Rattle.std.proofs.Common.{◌≡◌, ◌<◌, ℕ, ◌+◌, List, [], ◌∷◌, ◌++◌, length, take, get_or, Result, Ok, Err, OnOk}
use Rattle.std.proofs.Common.{refl, sym, ap, ◌∙◌, append-nil, append_assoc}
use Rattle.std.proofs.lemmas.List.{take_more}
use Rattle.tm_base.specs.declared.lists.NoMemory.{NoMemory}
use Rattle.tm_tmpl_line.specs.Readings.{At}
use Rattle.tm_tmpl.specs.Printed.{line_of, lines_of}

pub lines-join : (ss us : List At) → lines_of (ss ++ us) ≡ lines_of ss ++ lines_of us
unfolding lines_of
lines-join [] us = refl
lines-join (s ∷ ss) us =
    ap (λ ls. line_of s.1 ++ ls) (lines-join ss us) ∙ sym (append_assoc (line_of s.1) (lines_of ss) (lines_of us))

pub lines-none : (out : List ℕ) → out ≡ out ++ lines_of []
unfolding lines_of
lines-none out = sym (append-nil out)

pub lines-one : (s : At) (old new : List ℕ) → new ≡ old ++ line_of s.1 → new ≡ old ++ lines_of (s ∷ [])
unfolding lines_of
lines-one s old new put = put ∙ ap (λ l. old ++ l) (sym (append-nil (line_of s.1)))

pub lines-after : (s : At) (ss : List At) (old mid new : List ℕ) → mid ≡ old ++ line_of s.1 → new ≡ mid ++ lines_of ss
    → new ≡ old ++ lines_of (s ∷ ss)
unfolding lines_of
lines-after s ss old mid new first rest = rest ∙ ap (λ l. l ++ lines_of ss) first ∙ append_assoc old (line_of s.1)
    (lines_of ss)

pub lines-called : (r : Result (Unit {0}) NoMemory) (s : At) (ss : List At) (old mid new : List ℕ)
    → mid ≡ old ++ line_of s.1 → OnOk r (new ≡ mid ++ lines_of ss)
    → OnOk r (new ≡ old ++ lines_of (s ∷ ss))
lines-called (Ok u) s ss old mid new first rest = lines-after s ss old mid new first rest
lines-called (Err e) s ss old mid new first rest = rest

pub four-parts : (a b c d one two three four : List ℕ) → one ≡ [] ++ a → two ≡ one ++ b → three ≡ two ++ c
    → four ≡ three ++ d → four ≡ a ++ (b ++ (c ++ d))
four-parts a b c d one two three four h i j k = rw (k, j, i, h, append_assoc (a ++ b) c d, append_assoc a b (c ++ d))

-- one part more was printed
module _ {A : Type 0} (ats : A → List At) (all : List A → List At) (all_more : (xs : List A) (x : A)
    → all (xs ++ x ∷ []) ≡ all xs ++ ats x) where
  pub printed-more : (xs : List A) (i : ℕ) (d x : A) → i < length xs → x ≡ get_or xs i d → (first old new : List ℕ)
      → old ≡ first ++ lines_of (all (take i xs))
      → new ≡ old ++ lines_of (ats x) → new ≡ first ++ lines_of (all (take (i + 1) xs))
  printed-more xs i d x below here first old new before put =
      let next : all (take (i + 1) xs) ≡ all (take i xs) ++ ats x =
      ap all (take_more xs i d below) ∙ rw (← here) (all_more (take i xs) x) in
      rw (next, lines-join (all (take i xs)) (ats x)) (put ∙ ap (λ l. l ++ lines_of (ats x)) before ∙ append_assoc first
      (lines_of (all (take i xs))) (lines_of (ats x)))
