-- Parts that are put one behind another.
use Rattle.std.proofs.Common.{◌≡◌, ◌∙◌, ap, List, ℕ, ◌++◌, append_assoc, Result, Ok, Err, OnOk}

-- three parts, the last of which may want memory
pub three-put : {X E : Type 0} (result : Result X E) (start one two three a b c : List ℕ) → one ≡ start ++ a
    → two ≡ one ++ b
    → OnOk result (three ≡ two ++ c) → OnOk result (three ≡ start ++ (a ++ b ++ c))
three-put (Ok x) start one two three a b c first second third =
    third ∙ ap (λ (l : List ℕ). l ++ c) (second ∙ ap (λ (l : List ℕ). l ++ b) first ∙ append_assoc start a b)
    ∙ append_assoc start (a ++ b) c
three-put (Err e) start one two three a b c first second third = third

-- four parts of a new text
pub four-put : (one two three four a b c d : List ℕ) → one ≡ a → two ≡ one ++ b → three ≡ two ++ c → four ≡ three ++ d
    → four ≡ a ++ b ++ c ++ d
four-put one two three four a b c d first second third fourth =
    fourth ∙ ap (λ (l : List ℕ). l ++ d) (third ∙ ap (λ (l : List ℕ). l ++ c) (second
    ∙ ap (λ (l : List ℕ). l ++ b) first))
