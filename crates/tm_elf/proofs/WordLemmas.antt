-- Words read one by one, and back.
use Rattle.std.proofs.Common.{◌≡◌, ℕ, zero, suc, ◌+◌, ◌-◌, ◌*◌, ◌^◌, ◌<◌, ◌≤◌, List, [], ◌∷◌, ◌++◌, All, length, take}
use Rattle.std.proofs.Common.{drop, refl, ap, ◌∙◌, sym, arith}
use Rattle.std.specs.Int.{from_le_bytes, to_le_bytes, w32}
use Rattle.std.proofs.lemmas.List.{append-nil, append_assoc, drop-drop}
use Rattle.std.proofs.lemmas.List.Elements.{All-head, All-tail}
use Rattle.std.proofs.lemmas.Nat.{from_le_bytes-to_le_bytes_4}
use Rattle.tm_elf_write.specs.Elf.{text_bytes}
use Rattle.tm_elf_write.specs.Fields.{field_bytes}
use Rattle.tm_elf_head.specs.Numbers.{word_at}
use Rattle.tm_elf.specs.Read.{words_from}

pub words_start : (bytes r : List ℕ) (n : ℕ) → words_from bytes n 0 ≡ r → [] ++ words_from bytes (n - 0) (4 * 0) ≡ r
words_start bytes r n h = let e : n - 0 ≡ n = omega arith in rw e h

pub words_more : (bytes out r : List ℕ) (n i : ℕ) → i < n → out ++ words_from bytes (n - i) (4 * i) ≡ r
    → (out ++ word_at bytes (4 * i) ∷ []) ++ words_from bytes (n - (i + 1)) (4 * (i + 1)) ≡ r
unfolding words_from
words_more bytes out r n i less h =
    let e : n - i ≡ suc (n - (i + 1)) = omega arith in
    let f : 4 * i + 4 ≡ 4 * (i + 1) = omega arith in
    append_assoc out (word_at bytes (4 * i) ∷ []) (words_from bytes (n - (i + 1)) (4 * (i + 1))) ∙ (rw (e, f) at h)

pub words_end : (bytes out r : List ℕ) (n i : ℕ) → n ≤ i → out ++ words_from bytes (n - i) (4 * i) ≡ r → out ≡ r
unfolding words_from
words_end bytes out r n i past h = let e : n - i ≡ 0 = omega arith in sym (append-nil out) ∙ (rw e at h)

pub length_words : (bytes : List ℕ) (n at : ℕ) → length (words_from bytes n at) ≡ n
unfolding words_from
length_words bytes zero at = refl
length_words bytes (suc n) at = ap suc (length_words bytes n (at + 4))

first_word : (bytes rest : List ℕ) (at w : ℕ) → w < 2 ^ 32 → drop at bytes ≡ to_le_bytes w32 w ++ rest
    → word_at bytes at ≡ w
unfolding word_at
first_word bytes rest at w fits e = ap (λ b. from_le_bytes w32 (take 4 b)) e ∙ from_le_bytes-to_le_bytes_4 w fits

words_back : (ws bytes : List ℕ) (at : ℕ) → All (λ w. w < 2 ^ 32) ws → drop at bytes ≡ text_bytes ws
    → words_from bytes (length ws) at ≡ ws
unfolding words_from text_bytes field_bytes
words_back [] bytes at fit e = refl
words_back (w ∷ ws) bytes at fit e =
    let head : word_at bytes at ≡ w = first_word bytes (text_bytes ws) at w (All-head (λ w'. w' < 2 ^ 32) w ws fit) e in
    let next : drop (at + 4) bytes ≡ text_bytes ws = sym (drop-drop 4 at bytes) ∙ ap (λ b. drop 4 b) e in
    let tail : words_from bytes (length ws) (at + 4) ≡ ws =
    words_back ws bytes (at + 4) (All-tail (λ w'. w' < 2 ^ 32) w ws fit) next in
    cc

pub text_back : (ws : List ℕ) → All (λ w. w < 2 ^ 32) ws → words_from (text_bytes ws) (length ws) 0 ≡ ws
text_back ws fit = words_back ws (text_bytes ws) 0 fit refl
