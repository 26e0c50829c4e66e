-- Where the words of instructions stand in the text, outside a hart's streams and not at its halt mark, the hart's
-- world has them.
use Rattle.std.proofs.Common.{◌≡◌, ◌≢◌, ℕ, zero, suc, ◌+◌, ◌*◌, ◌<◌, List, [], ◌∷◌, length, Some, None, sym, ap, ◌∙◌}
use Rattle.std.proofs.Common.{subst, arith}
use Rattle.std.specs.Prelude.{slice_get}
use Rattle.tm_table.specs.declared.instr.Instr.{Instr}
use Rattle.tm_table.specs.Words.{word_of, words_of}
use Rattle.tm_plan_cases.specs.declared.program.Program.{Program}
use Rattle.tm_plan_map.specs.Map.{text_base}
use Rattle.tm_plan_map.proofs.Words.{instr-word}
use Rattle.tm_world.specs.Place.{halt_of, word_at}
use Rattle.tm_world.specs.Kinds.{stream_at}
use Rattle.tm_runs.specs.World.{support_at}
use Rattle.tm_runs.specs.Runs.{At}
use Rattle.tm_runs.proofs.Worlds.{fetched, text-at}
use Rattle.tm_asm.specs.Sheet.{AllFit}
use Rattle.tm_pass_text.proofs.Stands.{Stands}

get-short : (xs : List ℕ) (k x : ℕ) → slice_get xs k ≡ Some x → k < length xs
get-short [] k x e = cc
get-short (y ∷ xs) zero x e = omega arith
get-short (y ∷ xs) (suc k) x e = let l = get-short xs k x e in omega arith

-- the place is outside the hart's streams, and not its halt mark
abbrev pub IsOutside : Program → (h place : ℕ) → Type 0
IsOutside p h place = (stream_at p h place ≡ None) × (place ≢ halt_of p h)

pub stands-code : (p : Program) (h : ℕ) (code : List Instr) (k : ℕ) → AllFit code → Stands p.text k (words_of code)
    → ((j : ℕ) → j < length code → IsOutside p h (text_base + 4 * (k + j)))
    → At (support_at p h) (text_base + 4 * k) code
stands-code p h [] k fits words out = tt
stands-code p h (i ∷ is) k fits words out =
    let here : k + 0 ≡ k = omega arith in
    let first : slice_get p.text k ≡ Some (word_of i) = ap (slice_get p.text) (sym here) ∙ words 0 (omega arith) in
    let at : IsOutside p h (text_base + 4 * k) = subst (λ (x : ℕ). IsOutside p h (text_base + 4 * x)) here
    (out 0 (omega arith)) in
    let word : word_at p (text_base + 4 * k) ≡ Some (word_of i) =
    text-at p k (get-short p.text k (word_of i) first) ∙ first in
    let next : text_base + 4 * suc k ≡ text_base + 4 * k + 4 = omega arith in
    let shift : (j : ℕ) → k + suc j ≡ suc k + j = λ j. omega arith in (
      fetched p h (text_base + 4 * k) (word_of i) i at.0 at.1 word (instr-word i fits.0),
      subst (λ (a : ℕ). At (support_at p h) a is) next
          (stands-code p h is (suc k) fits.1 (λ j l. ap (slice_get p.text) (sym (shift j)) ∙ words (suc j)
          (omega arith))
          (λ j l. subst (λ (x : ℕ). IsOutside p h (text_base + 4 * x)) (shift j) (out (suc j) (omega arith)))),
    )
