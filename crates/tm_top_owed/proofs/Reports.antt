-- What goes to the error sink.
use Rattle.std.proofs.Common.{◌≡◌, ◌++◌, ◌∙◌, ap, sym, refl, ℕ, List, [], ◌∷◌, length, take, IsTrue, Result, Ok, Err}
use Rattle.std.proofs.Common.{OnOk, OnErr}
use Rattle.tm_top_owed.specs.Changes.{SinkChange, Took, TookFront, Said}

take_whole : (xs : List ℕ) → take (length xs) xs ≡ xs
take_whole [] = refl
take_whole (x ∷ xs) = ap (λ rest. x ∷ rest) (take_whole xs)

-- the whole is a front
pub whole_front : (sink : SinkChange) (text : List ℕ) → Took sink text → TookFront sink text
whole_front sink text h = λ told. (length text, h told ∙ ap (λ more. sink.taken ++ more) (sym (take_whole text)))

-- what was taken whole was said
pub said_whole : (sink : SinkChange) (text : List ℕ) → Took sink text → Said sink text
said_whole sink text h = record { front = whole_front sink text h; whole = λ calm. h }

-- whether a put ends or fails, a front is taken
pub put_front : {X E : Type 0} (result : Result X E) (sink : SinkChange) (text : List ℕ)
    → (IsTrue sink.tells → OnOk result (sink.taken_after ≡ sink.taken ++ text))
    → (IsTrue sink.tells → OnErr result ((n : ℕ) × (sink.taken_after ≡ sink.taken ++ take n text)))
    → TookFront sink text
put_front (Ok x) sink text whole front = whole_front sink text whole
put_front (Err e) sink text whole front = front
