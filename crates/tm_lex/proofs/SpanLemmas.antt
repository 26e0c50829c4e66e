-- Tokens in order lie within their text.
use Rattle.std.proofs.Common.{ℕ, ◌≤◌, List, [], ◌∷◌, length, zero, suc, All, arith}
use Rattle.tm_lex.specs.Tiling.{AreInOrder}
use Rattle.tm_lex.specs.declared.token.Token.{Token}
use Rattle.tm_lex.specs.Lines.{IsSpan}

pub order_end : (i n : ℕ) (ts : List Token) → AreInOrder i n ts → i ≤ n
order_end i n [] h = h
order_end i n (t ∷ ts) h = let more = order_end t.to n ts h.2 in omega (arith, h.0, h.1)

pub within : (text : List ℕ) (i : ℕ) (ts : List Token) → AreInOrder i (length text) ts → All (IsSpan text) ts
within text i [] h k d below = absurd (omega arith)
within text i (t ∷ ts) h zero d below = (h.1, order_end t.to (length text) ts h.2)
within text i (t ∷ ts) h (suc k) d below = within text t.to ts h.2 k d (omega arith)
