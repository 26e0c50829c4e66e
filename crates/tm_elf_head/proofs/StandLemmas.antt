-- Fields of parts that stand in a file.
use Rattle.std.proofs.Common.{◌≡◌, ℕ, ◌+◌, ◌-◌, ◌^◌, ◌<◌, ◌≤◌, List, ◌++◌, length, take, drop, ap, ◌∙◌, sym, arith}
use Rattle.std.specs.Int.{from_le_bytes, to_le_bytes, w32, w64}
use Rattle.std.proofs.lemmas.List.{take-append-drop, take-take, drop-take, drop-drop}
use Rattle.std.proofs.lemmas.Nat.{from_le_bytes-to_le_bytes_4, from_le_bytes-to_le_bytes_8}
use Rattle.tm_elf_write.specs.Stands.{StandsAt}
use Rattle.tm_elf_head.specs.Numbers.{word_at, long_at}

pub fronts : (part bytes : List ℕ) → StandsAt 0 part bytes → bytes ≡ part ++ drop (length part) bytes
fronts part bytes s = sym (take-append-drop (length part) bytes) ∙ ap (λ f. f ++ drop (length part) bytes) s

stands_field : (w place k : ℕ) (part bytes : List ℕ) → StandsAt place part bytes → k + w ≤ length part
    → take w (drop (place + k) bytes) ≡ take w (drop k part)
stands_field w place k part bytes s within =
    let split : k + (length part - k) ≡ length part = omega arith in
    let room : w ≤ length part - k = omega arith in
    ap (take w) (sym (drop-drop k place bytes))
    ∙ sym (take-take w (length part - k) (drop k (drop place bytes)) room)
    ∙ ap (take w) (sym (drop-take k (length part - k) (drop place bytes)) ∙ ap (λ n. drop k (take n (drop place bytes)))
    split ∙ ap (drop k) s)

pub long_back : (place k n : ℕ) (part bytes : List ℕ) → StandsAt place part bytes → k + 8 ≤ length part → n < 2 ^ 64
    → take 8 (drop k part) ≡ to_le_bytes w64 n → long_at bytes (place + k) ≡ n
unfolding long_at
long_back place k n part bytes s within fits e = ap (from_le_bytes w64) (stands_field 8 place k part bytes s within ∙ e)
    ∙ from_le_bytes-to_le_bytes_8 n fits

pub word_back : (place k n : ℕ) (part bytes : List ℕ) → StandsAt place part bytes → k + 4 ≤ length part → n < 2 ^ 32
    → take 4 (drop k part) ≡ to_le_bytes w32 n → word_at bytes (place + k) ≡ n
unfolding word_at
word_back place k n part bytes s within fits e = ap (from_le_bytes w32) (stands_field 4 place k part bytes s within ∙ e)
    ∙ from_le_bytes-to_le_bytes_4 n fits
