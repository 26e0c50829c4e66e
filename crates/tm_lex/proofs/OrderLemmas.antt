-- Tokens stand in order, within their text.
use Rattle.std.proofs.Common.{◌≡◌, ◌≤◌, ℕ, ◌+◌, eqb, List, [], ◌∷◌, ◌++◌, length, map, Ok, refl, arith, inl, inr}
use Rattle.std.proofs.lemmas.Bool.{cases_Bool}
use Rattle.std.proofs.lemmas.Grind.{common_steps}
use Rattle.tm_lex.specs.declared.token.TokenKind.TheVariants.{LineEnd}
use Rattle.tm_lex.specs.declared.token.Token.{Token}
use Rattle.tm_lex.specs.Lexing.{content, with_end, token_at, tokens_of}
use Rattle.tm_lex.specs.Tiling.{AreInOrder, HaveTokens, AreTokens, lines_of}
use Rattle.tm_lex.proofs.FaultLemmas.{Part, Ascends, parts-ascend, tokens-are}

joined : (i m n : ℕ) (xs ys : List Token) → AreInOrder i m xs → AreInOrder m n ys → AreInOrder i n (xs ++ ys)
joined i m n [] [] h k = omega (arith, h, k)
joined i m n [] (t ∷ ts) h k = (omega (arith, h, k.0), k.1, k.2)
joined i m n (x ∷ xs) ys h k = (h.0, h.1, joined x.to m n xs ys h.2 k)

put : (number from i n : ℕ) (ps : List Part) → Ascends i n ps
    → AreInOrder (from + i) (from + n) (map (token_at number from) ps)
put number from i n [] h = omega (arith, h)
put number from i n (p ∷ ps) h = (omega (arith, h.0), omega (arith, h.1), put number from p.1.1 n ps h.2)

ended : (i n m : ℕ) (ps : List Part) → n ≤ m → Ascends i n ps → (number from : ℕ)
    → AreInOrder (from + i) (from + m) (map (token_at number from) (with_end m ps))
ended i n m [] le h number from = omega (arith, h)
ended i n m (p ∷ ps) le h number from =
    (omega (arith, h.0), omega (arith, h.1), rest p.1.1 ps h.2) where
      rest : (j : ℕ) (qs : List Part) → Ascends j n qs
          → AreInOrder (from + j) (from + m) (map (token_at number from) (qs ++ (LineEnd, (m, m)) ∷ []))
      rest j [] h = (omega (arith, h), omega arith, omega arith)
      rest j (q ∷ qs) h = (omega (arith, h.0), omega (arith, h.1), rest q.1.1 qs h.2)

-- the length of lines with the LFs between them
abbrev total : List (List ℕ) → ℕ
total [] = 0
total (l ∷ []) = length l
total (l ∷ m ∷ ls) = length l + 1 + total (m ∷ ls)

total_onto : (x : ℕ) (l : List ℕ) (ls : List (List ℕ)) → total ((x ∷ l) ∷ ls) ≡ total (l ∷ ls) + 1
total_onto x l [] = omega arith
total_onto x l (m ∷ ls) = omega arith

total_lf : (l : List ℕ) (ls : List (List ℕ)) → total ([] ∷ (l ∷ ls)) ≡ total (l ∷ ls) + 1
total_lf l ls = omega arith

some_line : (text : List ℕ) → (l : List ℕ) × (ls : List (List ℕ)) × (lines_of text ≡ l ∷ ls)
    × (total (lines_of text) ≡ length text)
some_line [] = ([], [], refl, refl)
some_line (b ∷ bs) =
    let rest = some_line bs in
    let size : total (rest.0 ∷ rest.1) ≡ length bs = rw rest.2 at rest.3 in
    elim (cases_Bool (eqb b 10)) [
      | inl lf ↦ rw lf ([], lines_of bs, refl, rw rest.2 (omega (arith, size, total_lf rest.0 rest.1)))
      | inr other ↦ rw (other, rest.2) (b ∷ rest.0, rest.1, refl, omega (arith, size, total_onto b rest.0 rest.1))
    ]

content_len : (line : List ℕ) → length (content line) ≤ length line
content_len line = grind (arith, common_steps)

lower : (i j n : ℕ) (ts : List Token) → i ≤ j → AreInOrder j n ts → AreInOrder i n ts
lower i j n [] le h = omega arith
lower i j n (t ∷ ts) le h = (omega (arith, h.0), h.1, h.2)

lines_in_order : (lines : List (List ℕ)) (n from : ℕ) (ts : List Token) → HaveTokens n from lines ts
    → AreInOrder from (from + total lines) ts
lines_in_order [] n from ts h = rw h (omega arith)
lines_in_order (l ∷ []) n from ts h =
    let here = ended 0 (length (content l)) (length l) h.0 (content_len l) (parts-ascend (content l) h.0 h.2) n from in
    rw (h.4, h.5) (lower from (from + 0) (from + length l) _ (omega arith)
    (joined (from + 0) (from + length l) (from + length l) _ [] here (omega arith)))
lines_in_order (l ∷ m ∷ ls) n from ts h =
    let here = ended 0 (length (content l)) (length l) h.0 (content_len l) (parts-ascend (content l) h.0 h.2) n from in
    let more = lines_in_order (m ∷ ls) (n + 1) (from + length l + 1) h.1 h.5 in
    let end : from + length l + 1 + total (m ∷ ls) ≡ from + (length l + 1 + total (m ∷ ls)) = omega arith in
    rw h.4 (lower from (from + 0) (from + (length l + 1 + total (m ∷ ls))) _ (omega arith)
    (joined (from + 0) (from + length l) (from + (length l + 1 + total (m ∷ ls))) _ h.1 here
    (lower (from + length l) (from + length l + 1) (from + (length l + 1 + total (m ∷ ls))) h.1 (omega arith)
    (rw end at more))))

pub in-order : (text : List ℕ) (ts : List Token) → tokens_of text ≡ Ok ts → AreInOrder 0 (length text) ts
unfolding AreTokens
in-order text ts h =
    let size = (some_line text).3 in
    let whole : 0 + total (lines_of text) ≡ length text = omega (arith, size) in
    rw whole at (lower 0 0 (0 + total (lines_of text)) ts (omega arith)
    (lines_in_order (lines_of text) 1 0 ts (tokens-are text ts h)))
