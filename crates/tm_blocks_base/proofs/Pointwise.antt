-- What parts leave at each dword.
use Rattle.std.proofs.Common.{◌≡◌, ℕ, zero, suc, ◌+◌, ◌*◌, ◌<◌, List, [], ◌∷◌, length, ap, ◌∙◌, arith}
use Rattle.std.specs.Prelude.{slice_index}
use Rattle.tm_runs.specs.Machine.{Table, put}
use Rattle.tm_runs.proofs.Tables.{put_same}
use Rattle.tm_blocks_base.specs.Laws.{stored_all}
use Rattle.tm_blocks_base.proofs.Dwords.{stored-other}

-- the i-th of a row of stores
pub stored-at : (vs : List ℕ) (mem : Table) (b j i l : ℕ) → l ≡ j + i → i < length vs
    → stored_all mem b j vs (b + 8 * l) ≡ slice_index vs i
stored-at [] mem b j i l e p = absurd (omega arith)
stored-at (v ∷ vs) mem b j zero l e p =
    let same : l ≡ j = omega arith in
    ap (λ (x : ℕ). stored_all mem b j (v ∷ vs) (b + 8 * x)) same
    ∙ (stored-other vs (put mem (b + 8 * j) v) b (suc j) (b + 8 * j) (λ k q r. omega arith) ∙ put_same mem (b + 8 * j)
    v)
stored-at (v ∷ vs) mem b j (suc i) l e p = stored-at vs (put mem (b + 8 * j) v) b (suc j) i l (omega arith)
    (omega arith)
