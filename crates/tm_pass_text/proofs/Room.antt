-- Each hart's words have room in 4096 bytes a case and 4096 more.
use Rattle.std.proofs.Common.{◌≡◌, ℕ, zero, suc, ◌+◌, ◌-◌, ◌*◌, ◌<◌, ◌≤◌, List, [], ◌∷◌, length, ap, ◌∙◌, arith}
use Rattle.std.specs.Prelude.{slice_index_or}
use Rattle.tm_pass_text.specs.Words.{Blocks, case_size, skip, hart_size}

pub skip-fits : (b : Blocks) (c : ℕ) (ss : List (List ℕ))
    → ((d : ℕ) (s : List ℕ) → c ≤ d → d < c + length ss → s ≡ slice_index_or ss (d - c) []
    → case_size b d (length s) ≤ 1024) → (k : ℕ) → k ≤ length ss → skip b c ss k ≤ 1024 * k
skip-fits b c ss f zero l = omega arith
skip-fits b c [] f (suc k) l = absurd (omega arith)
skip-fits b c (s ∷ ss) f (suc k) l =
    let one = f c s (omega arith) (omega arith) (let e : 0 ≡ c - c = omega arith in
    ap (λ (i : ℕ). slice_index_or (s ∷ ss) i []) e) in
    let rest = skip-fits b (suc c) ss (λ d t x y e.
    f d t (omega arith) (omega arith) (e ∙ (let g : suc (d - suc c) ≡ d - c = omega arith in
    ap (λ (i : ℕ). slice_index_or (s ∷ ss) i []) g))) k (omega arith) in
    omega arith

-- Where each case takes at most 1024 words, and the barrier at most 1009, a hart takes at most 4096 bytes a case and
-- 4096 more.
pub hart-fits : (b : Blocks) (ss : List (List ℕ)) → length b.barrier ≤ 1009
    → ((d : ℕ) (s : List ℕ) → d < length ss → s ≡ slice_index_or ss d [] → case_size b d (length s) ≤ 1024)
    → 4 * hart_size b ss ≤ 4096 * length ss + 4096
hart-fits b ss l f =
    let k = skip-fits b 0 ss (λ d s x y e. f d s (omega arith) (e ∙ (let g : d - 0 ≡ d = omega arith in
    ap (λ (i : ℕ). slice_index_or ss i []) g))) (length ss) (omega arith) in
    omega arith
