-- What is at fault in a file header.
use Rattle.std.specs.Prelude.{ℕ, List, [], ◌∷◌, ◌-◌, ◌==◌, Option, Some, None, option_map, not, nat_lt, if◌then◌else◌}
use Rattle.std.specs.Prelude.{length, take}
use Rattle.tm_elf_write.specs.Fields.{zeros}
use Rattle.tm_refusals.specs.declared.elf.ElfFault.{ElfFault}
use Rattle.tm_refusals.specs.declared.elf.ElfFault.TheVariants.{Short, BadMagic, NotRiscv, NotExec, BadHeader}
use Rattle.tm_elf_head.specs.Differences.{differ}
use Rattle.tm_elf_head.specs.Numbers.{half_at, word_at, long_at, part_at}

-- e_ident 0 to 6: 0x7F and "ELF", ELFCLASS64, ELFDATA2LSB, EV_CURRENT (ELF gABI)
unfoldable pub magic : List ℕ
magic = 0x7F ∷ 0x45 ∷ 0x4C ∷ 0x46 ∷ 2 ∷ 1 ∷ 1 ∷ []

-- The least offset whose field is at fault (the fields are those of ELF gABI, "ELF Header", and their values this
-- project's): 7 stands for the rest of e_ident. The section headers are the file's last 512 bytes, and a file of
-- fewer than 744 bytes has no room for its headers.
unfoldable pub bad_field : List ℕ → Option ℕ
bad_field bytes =
    if differ (part_at 7 9 bytes) (zeros 9) then Some 7 else (
    if not (word_at bytes 20 == 1) then Some 20 else (
    if not (long_at bytes 24 == 0x80000000) then Some 24 else (
    if not (long_at bytes 32 == 64) then Some 32 else (
    if nat_lt (length bytes) 744 then Some 40 else (
    if not (long_at bytes 40 == length bytes - 512) then Some 40 else (
    if not (word_at bytes 48 == 0) then Some 48 else (
    if not (half_at bytes 52 == 64) then Some 52 else (
    if not (half_at bytes 54 == 56) then Some 54 else (
    if not (half_at bytes 56 == 3) then Some 56 else (
    if not (half_at bytes 58 == 64) then Some 58 else (
    if not (half_at bytes 60 == 8) then Some 60 else (
    if not (half_at bytes 62 == 7) then Some 62 else None))))))))))))

-- the first fault of the file header (this project): the machine is asked before the type
unfoldable pub header_fault : List ℕ → Option ElfFault
header_fault bytes =
    if nat_lt (length bytes) 64 then Some (Short (length bytes)) else (
    if differ (take 7 bytes) magic then Some BadMagic else (
    if not (half_at bytes 18 == 243) then Some (NotRiscv (half_at bytes 18)) else (
    if not (half_at bytes 16 == 2) then Some (NotExec (half_at bytes 16)) else
    option_map BadHeader (bad_field bytes))))
