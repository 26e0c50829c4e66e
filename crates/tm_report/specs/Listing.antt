-- The listing of a program: all slots, and what of each case isn't checked. Source: this project.
use Rattle.std.specs.Prelude.{ℕ, suc, ◌+◌, ◌-◌, ◌*◌, ◌/◌, ◌%◌, ◌^◌, ◌==◌, Bool, not, ◌&&◌, if◌then◌else◌}
use Rattle.std.specs.Prelude.{List, [], ◌∷◌, ◌++◌, length, take, drop, filter, Option, None, Some, codes}
use Rattle.std.specs.List.{flat_map}
use Rattle.std.specs.Fmt.{decimal}
use Rattle.tm_base.specs.Numbers.{hex_text}
use Rattle.tm_table.specs.declared.instr.Instr.{Instr}
use Rattle.tm_asm_line.specs.Printing.{printed}
use Rattle.tm_plan_cases.specs.declared.cases.Cases.{Cases}
use Rattle.tm_plan_cases.specs.declared.cases.Case.{Case}
use Rattle.tm_plan_cases.specs.declared.cases.Stream.{Stream}
use Rattle.tm_plan_cases.specs.declared.masks.CaseMask.{CaseMask}
use Rattle.tm_plan_cases.specs.declared.program.Program.{Program}
use Rattle.tm_plan_map.specs.Map.{windows_base}
use Rattle.tm_plan_map.specs.Slots.{instr_of}
use Rattle.tm_plan_cases.specs.Collected.{is_declared, window_dwords}
use Rattle.tm_base.specs.Lists.{count_from}

-- ---- slots

-- the printed form of a word's instruction; each word of a stream has one
abbrev pub word_text : Option Instr → List ℕ
word_text None = []
word_text (Some i) = printed i

-- the line of a slot: its number, its word in 8 digits, and its printed form
unfoldable pub slot_line : ℕ → ℕ → List ℕ
slot_line i word = decimal i ++ codes " " ++ hex_text 8 word ++ codes " " ++ word_text (instr_of word) ++ codes "\n"

-- the lines of slots that are numbered from i on
abbrev pub slot_lines : ℕ → List ℕ → List ℕ
slot_lines i [] = []
slot_lines i (word ∷ words) = slot_line i word ++ slot_lines (suc i) words

-- ---- what isn't checked

-- the entries of a line, each behind a blank, or ` none` where there are none
abbrev pub or_none : List ℕ → List ℕ
or_none [] = codes " none"
or_none (first ∷ more) = first ∷ more

-- bit r of a hart's mask is 0, so x r isn't checked
unfoldable pub is_unchecked : ℕ → ℕ → Bool
is_unchecked mask r = mask / 2 ^ r % 2 == 0

-- the registers whose end values are saved: x1 to x30
unfoldable pub saved_registers : List ℕ
saved_registers = count_from 1 30

-- the entry of a register
unfoldable pub register_entry : ℕ → List ℕ
register_entry r = codes " x" ++ decimal r

-- the entries of the saved registers of a hart that aren't checked, in order
abbrev pub register_entries : ℕ → List ℕ
register_entries mask = flat_map register_entry (filter (is_unchecked mask) saved_registers)

-- their line
unfoldable pub unchecked_line : ℕ → List ℕ
unchecked_line mask = codes "unchecked" ++ or_none (register_entries mask) ++ codes "\n"

-- the bits of mask bytes: bit j is set where byte j is 0, so that it isn't checked
abbrev pub unchecked_bits : List ℕ → ℕ
unchecked_bits [] = 0
unchecked_bits (b ∷ bs) = (if b == 0 then 1 else 0) + 2 * unchecked_bits bs

-- the bits of the dword at an address of the windows, by the mask bytes of all three
unfoldable pub dword_bits : List ℕ → ℕ → ℕ
dword_bits bytes a = unchecked_bits (take 8 (drop (a - windows_base) bytes))

-- the dword at an address is declared and has a byte that isn't checked; a declared line has whole dwords
unfoldable pub is_listed : Cases → List ℕ → ℕ → Bool
is_listed cases bytes a = is_declared cases a && not (dword_bits bytes a == 0)

-- the entry of a dword: its address and its bits
unfoldable pub dword_entry : List ℕ → ℕ → List ℕ
dword_entry bytes a = codes " 0x" ++ hex_text 8 a ++ codes ":" ++ hex_text 2 (dword_bits bytes a)

-- the entries of the declared dwords of which a byte isn't checked, in address order
abbrev pub dword_entries : Cases → List ℕ → List ℕ
dword_entries cases bytes = flat_map (dword_entry bytes) (filter (is_listed cases bytes) window_dwords)

-- their line
unfoldable pub bytes_line : Cases → List ℕ → List ℕ
bytes_line cases bytes = codes "bytes" ++ or_none (dword_entries cases bytes) ++ codes "\n"

-- ---- harts and cases

-- the lines of hart h: its slots, and what of it isn't checked
unfoldable pub hart_lines : ℕ → Stream → ℕ → List ℕ
hart_lines h stream mask =
    codes "hart " ++ decimal h ++ codes " slots " ++ decimal (length stream.words) ++ codes "\n"
    ++ slot_lines 0 stream.words ++ unchecked_line mask

-- the lines of harts that are numbered from h on, each with its mask
abbrev pub harts_lines : ℕ → List Stream → List ℕ → List ℕ
harts_lines h [] masks = []
harts_lines h (stream ∷ streams) [] = []
harts_lines h (stream ∷ streams) (mask ∷ masks) = hart_lines h stream mask ++ harts_lines (suc h) streams masks

-- the lines of case c: its name, its harts, and what of the windows isn't checked
unfoldable pub case_lines : Cases → ℕ → Case → CaseMask → List ℕ
case_lines cases c case mask =
    codes "case " ++ decimal c ++ codes " " ++ case.name ++ codes "\n"
    ++ harts_lines 0 case.streams mask.regs ++ bytes_line cases mask.bytes

-- the lines of cases that are numbered from c on, each with its mask
abbrev pub cases_lines : Cases → ℕ → List Case → List CaseMask → List ℕ
cases_lines all c [] masks = []
cases_lines all c (case ∷ cases) [] = []
cases_lines all c (case ∷ cases) (mask ∷ masks) = case_lines all c case mask ++ cases_lines all (suc c) cases masks

-- the first line: what the program was built of and for
unfoldable pub head_line : Program → ℕ → List ℕ
head_line p seed =
    codes "template " ++ p.cases.name ++ codes " seed " ++ decimal seed ++ codes " harts " ++ decimal p.cases.harts
    ++ codes " passes " ++ decimal p.cases.passes ++ codes " cases " ++ decimal (length p.cases.cases) ++ codes "\n"

-- the listing of a program that was built with a seed
unfoldable pub listing : Program → ℕ → List ℕ
listing p seed = head_line p seed ++ cases_lines p.cases 0 p.cases.cases p.masks.cases
