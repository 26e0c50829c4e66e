-- The symbols of a program (this project's own).
use Rattle.std.specs.Prelude.{ℕ, ◌+◌, ◌*◌, List, [], ◌∷◌, ◌++◌, length, codes, flat_map, slice_index}
use Rattle.std.specs.Fmt.{decimal}
use Rattle.tm_elf_write.specs.declared.parts.Symbol.{Symbol}
use Rattle.tm_plan_cases.specs.declared.program.Program.{Program}
use Rattle.tm_base.specs.Lists.{count_from}

-- a symbol with its name and its address
abbrev pub symbol : List ℕ → ℕ → Symbol
symbol name addr = record { name = name; addr = addr }

-- a name of hart h's stream of case c, behind a front
abbrev pub stream_name : List ℕ → (h c : ℕ) → List ℕ
stream_name front h c = front ++ decimal h ++ codes "_" ++ decimal c

-- `tm_s_H_C` and `tm_e_H_C`: where hart h's stream of case c starts and ends
abbrev pub stream_symbols : Program → ℕ → ℕ → List Symbol
stream_symbols p h c =
    symbol (stream_name (codes "tm_s_") h c) (slice_index p.marks.starts (h * length p.cases.cases + c))
    ∷ symbol (stream_name (codes "tm_e_") h c) (slice_index p.marks.ends (h * length p.cases.cases + c)) ∷ []

-- of hart h: the start and the end of its stream in each case
abbrev pub streams_symbols : Program → ℕ → List Symbol
streams_symbols p h = flat_map (stream_symbols p h) (count_from 0 (length p.cases.cases))

-- of hart h: `tm_x_H`, the barrier's exit, and `tm_halt_H`, where it halts
abbrev pub hart_marks : Program → ℕ → List Symbol
hart_marks p h =
    symbol (codes "tm_x_" ++ decimal h) (slice_index p.marks.exits h)
    ∷ symbol (codes "tm_halt_" ++ decimal h) (slice_index p.marks.halts h) ∷ []

-- of hart h: those of its streams, and its own two
abbrev pub hart_symbols : Program → ℕ → List Symbol
hart_symbols p h = streams_symbols p h ++ hart_marks p h

-- of all harts, one after another
unfoldable pub symbols_of : Program → List Symbol
symbols_of p = flat_map (hart_symbols p) (count_from 0 p.cases.harts)
