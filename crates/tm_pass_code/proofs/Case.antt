-- The parts of a case are its words.
use Rattle.std.proofs.Common.{◌≡◌, ℕ, ◌+◌, ◌-◌, ◌*◌, List, ◌++◌, length, ap, ap₂, ◌∙◌, append_assoc}
use Rattle.tm_table.specs.Words.{words_of}
use Rattle.tm_pass_text.specs.Words.{Blocks, before_size, back_words, case_before, case_behind, case_words}

pub case_built : (b : Blocks) (passes c : ℕ) (stream : List ℕ) (at' barrier d1 d2 back : ℕ) (o w1 w2 w3 : List ℕ)
    → d1 ≡ barrier - (at' + 4 * (1 + length (b.first c)))
    → d2 ≡ barrier - (at' + 4 * (before_size b c + length stream + length b.save))
    → back ≡ 4 * back_words b c (length stream)
    → w1 ≡ o ++ words_of (case_before b c d1) → w2 ≡ w1 ++ stream → w3 ≡ w2 ++ words_of (case_behind b passes c back d2)
    → w3 ≡ o ++ case_words b passes c stream at' barrier
unfolding case_words
case_built b passes c stream at' barrier d1 d2 back o w1 w2 w3 ed1 ed2 eb e1 e2 e3 =
    let front = words_of (case_before b c d1) in
    let behind = words_of (case_behind b passes c back d2) in
    e3
    ∙ ap (λ (w : List ℕ). w ++ behind) (e2 ∙ ap (λ (w : List ℕ). w ++ stream) e1)
    ∙ append_assoc (o ++ front) stream behind
    ∙ append_assoc o front (stream ++ behind)
    ∙ ap (λ (x : ℕ). o ++ (words_of (case_before b c x) ++ (stream ++ behind))) ed1
    ∙ ap₂ (λ (x y : ℕ). o ++ (words_of (case_before b c (barrier - (at' + 4 * (1 + length (b.first c)))))
    ++ (stream ++ words_of (case_behind b passes c x y)))) eb ed2
