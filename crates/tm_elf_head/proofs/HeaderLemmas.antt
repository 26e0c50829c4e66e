-- The file header, read back.
use Rattle.std.proofs.Common.{◌≡◌, ℕ, ◌+◌, ◌-◌, ◌^◌, ◌<◌, ◌≤◌, ◌==◌, true, false, nat_lt, None, is_some, List, ◌++◌}
use Rattle.std.proofs.Common.{length, take, drop, refl, ap, ◌∙◌, arith}
use Rattle.std.proofs.lemmas.Bool.Decides.{nat_tests}
use Rattle.std.proofs.lemmas.Nat.{from_le_bytes-to_le_bytes_8}
use Rattle.tm_elf_write.specs.Fields.{field_bytes, bytes_of, zeros}
use Rattle.tm_elf_write.specs.Header.{header}
use Rattle.tm_elf_head.specs.Differences.{difference_from, differ}
use Rattle.tm_elf_head.specs.HeaderFaults.{magic, bad_field, header_fault}
use Rattle.tm_elf_head.specs.Numbers.{half_at, word_at, long_at}
use Rattle.tm_elf_head.proofs.DifferenceLemmas.{no_difference}

pub alike : (xs ys : List ℕ) → xs ≡ ys → differ xs ys ≡ false
alike xs ys e = ap (λ zs. is_some (difference_from 0 zs ys)) e ∙ ap is_some (no_difference 0 ys)

record HeaderReads (bytes : List ℕ) : Type 0 where
  begins : take 7 bytes ≡ magic
  pads : take 9 (drop 7 bytes) ≡ zeros 9
  kind : half_at bytes 16 ≡ 2
  machine : half_at bytes 18 ≡ 243
  version : word_at bytes 20 ≡ 1
  entry : long_at bytes 24 ≡ 0x80000000
  phoff : long_at bytes 32 ≡ 64
  flags : word_at bytes 48 ≡ 0
  ehsize : half_at bytes 52 ≡ 64
  phentsize : half_at bytes 54 ≡ 56
  phnum : half_at bytes 56 ≡ 3
  shentsize : half_at bytes 58 ≡ 64
  shnum : half_at bytes 60 ≡ 8
  shstrndx : half_at bytes 62 ≡ 7

header_reads : (n : ℕ) (rest : List ℕ) → HeaderReads (bytes_of (header n) ++ rest)
unfolding header field_bytes half_at word_at long_at magic
header_reads n rest = record {
  begins = refl;
  pads = refl;
  kind = refl;
  machine = refl;
  version = refl;
  entry = refl;
  phoff = refl;
  flags = refl;
  ehsize = refl;
  phentsize = refl;
  phnum = refl;
  shentsize = refl;
  shnum = refl;
  shstrndx = refl;
}

sections_read : (n : ℕ) (rest : List ℕ) → n < 2 ^ 64 → long_at (bytes_of (header n) ++ rest) 40 ≡ n
unfolding header field_bytes long_at
sections_read n rest fits = from_le_bytes-to_le_bytes_8 n fits

fields_fine : (bytes : List ℕ) → HeaderReads bytes → 744 ≤ length bytes → long_at bytes 40 ≡ length bytes - 512
    → bad_field bytes ≡ None
unfolding bad_field
fields_fine bytes h long sections =
    let pads : differ (take 9 (drop 7 bytes)) (zeros 9) ≡ false = alike _ _ h.pads in
    let size : nat_lt (length bytes) 744 ≡ false = grind (arith, nat_tests) in
    let place : (long_at bytes 40 == length bytes - 512) ≡ true = grind (arith, nat_tests) in
    rw (
      pads,
      h.version,
      h.entry,
      h.phoff,
      size,
      place,
      h.flags,
      h.ehsize,
      h.phentsize,
      h.phnum,
      h.shentsize,
      h.shnum,
      h.shstrndx,
    ) refl

header_fine : (bytes : List ℕ) → HeaderReads bytes → 744 ≤ length bytes → long_at bytes 40 ≡ length bytes - 512
    → header_fault bytes ≡ None
unfolding header_fault
header_fine bytes h long sections =
    let begins : differ (take 7 bytes) magic ≡ false = alike _ _ h.begins in
    let size : nat_lt (length bytes) 64 ≡ false = grind (arith, nat_tests) in
    rw (size, begins, h.machine, h.kind, fields_fine bytes h long sections) refl

pub header_back : (n : ℕ) (bytes rest : List ℕ) → n < 2 ^ 64 → 744 ≤ length bytes → length bytes ≡ n + 512
    → bytes ≡ bytes_of (header n) ++ rest → header_fault bytes ≡ None
header_back n bytes rest fits long whole e =
    rw e (header_fine (bytes_of (header n) ++ rest) (header_reads n rest) (omega (arith, ap length e))
    (sections_read n rest fits ∙ omega (arith, ap length e)))
