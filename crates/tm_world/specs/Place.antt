-- Where a program's marks and bytes stand in the guest's memory, and what its image holds there (this project's own).
use Rattle.std.specs.Prelude.{ℕ, List, ◌+◌, ◌-◌, ◌*◌, ◌/◌, ◌%◌, ◌^◌, Bool, ◌&&◌, nat_le, nat_lt, ◌==◌, length}
use Rattle.std.specs.Prelude.{slice_get, slice_index, Option, None, if◌then◌else◌}
use Rattle.tm_plan_cases.specs.declared.cases.Case.{Case}
use Rattle.tm_plan_cases.specs.declared.cases.Stream.{Stream}
use Rattle.tm_plan_cases.specs.declared.program.Program.{Program}
use Rattle.tm_plan_map.specs.Map.{text_base, tables_base, flag_at, verdict_at, private_at, private_size, windows_base}
use Rattle.tm_plan_map.specs.Map.{windows_size, within}
use Rattle.tm_plan_cases.specs.Collected.{round_cases}
use Rattle.tm_base.specs.Lists.{any, count_from}

-- N harts, C cases, K passes
abbrev pub harts : Program → ℕ
harts p = p.cases.harts

-- C
abbrev pub case_count : Program → ℕ
case_count p = length p.cases.cases

-- K
abbrev pub passes : Program → ℕ
passes p = p.cases.passes

-- ---- round cases: the runs of a case in all its passes; so far each case is run once

-- how many round cases there are
abbrev pub round_count : Program → ℕ
round_count p = length (round_cases p.cases)

-- the case that is run in round case e
abbrev pub case_of_round : Program → ℕ → ℕ
case_of_round p e = e

-- the first registers of a hart in round case e, whose stream in the case is this one
abbrev pub first_registers : Program → ℕ → Stream → List ℕ
first_registers p e stream = stream.regs

-- the first dwords of the windows in round case e, a run of this case
abbrev pub first_dwords : Program → ℕ → Case → List ℕ
first_dwords p e case = case.first

-- ---- marks: the addresses that the image's symbols name

abbrev pub start_of : Program → ℕ → ℕ → ℕ
start_of p h c = slice_index p.marks.starts (h * case_count p + c)

-- the address behind the last word of stream (h, c)
abbrev pub end_of : Program → ℕ → ℕ → ℕ
end_of p h c = slice_index p.marks.ends (h * case_count p + c)

-- hart h's barrier exit
abbrev pub exit_of : Program → ℕ → ℕ
exit_of p h = slice_index p.marks.exits h

-- where hart h halts
abbrev pub halt_of : Program → ℕ → ℕ
halt_of p h = slice_index p.marks.halts h

-- a program counter inside stream (h, c): at least its start and below its end
abbrev pub inside : Program → ℕ → ℕ → ℕ → Bool
inside p h c pc = nat_le (start_of p h c) pc && nat_lt pc (end_of p h c)

-- ---- areas

abbrev pub is_text : Program → ℕ → Bool
is_text p = within text_base (4 * length p.text)

-- a byte of the tables
abbrev pub is_table : Program → ℕ → Bool
is_table p = within tables_base (length p.tables)

-- a byte of hart h's flag
abbrev pub is_flag : ℕ → ℕ → Bool
is_flag h = within (flag_at h) 8

-- a byte of one of hart h's verdict cells
abbrev pub is_verdict : Program → ℕ → ℕ → Bool
is_verdict p h b = any (λ c. within (verdict_at c h) 8 b) (count_from 0 (case_count p))

-- a byte of hart h's private area
abbrev pub is_private : ℕ → ℕ → Bool
is_private h = within (private_at h) private_size

-- a byte of one of the three windows, declared or not
abbrev pub is_window : ℕ → Bool
is_window = within windows_base windows_size

-- ---- the image

-- byte i of a number, the lowest first
abbrev pub byte_of : ℕ → ℕ → ℕ
byte_of value i = value / 256 ^ i % 256

-- the byte that the image holds at b: the text's words, the tables' bytes, and 0 elsewhere
abbrev pub image_byte : Program → ℕ → ℕ
image_byte p b =
    if is_text p b then byte_of (slice_index p.text ((b - text_base) / 4)) ((b - text_base) % 4)
    else (if is_table p b then slice_index p.tables (b - tables_base) else 0)

-- the text's word at an address that is a multiple of 4
abbrev pub word_at : Program → ℕ → Option ℕ
word_at p pc = if (pc % 4 == 0) && is_text p pc then slice_get p.text ((pc - text_base) / 4) else None
