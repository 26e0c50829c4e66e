-- When a desk or a sink may answer an error. Source: this project.
use Rattle.std.specs.Prelude.{◌≡◌, ◌⊎◌, ◌+◌, ◌-◌, ◌^◌, ◌≤◌, ◌<◌, ℕ, List, [], length, take, min, Option, None}
use Rattle.std.specs.Prelude.{IsSomeAnd, Result, Ok, Err}
use Rattle.tm_desk.specs.declared.desk.DeskError.{DeskError}
use Rattle.tm_desk.specs.declared.desk.DeskError.TheVariants as desk
use Rattle.tm_desk.specs.declared.sink.SinkError.{SinkError}
use Rattle.tm_desk.specs.declared.sink.SinkError.TheVariants as sink

-- the files that a desk holds, by the bytes of their names
abbrev pub Files : Type 0
Files = List ℕ → Option (List ℕ)

-- a count of faults has risen, or stands at its last value
abbrev pub Rose : ℕ → ℕ → Type 0
Rose before now = min (before + 1) (2 ^ 64 - 1) ≤ now

-- why a read answered this error: told says that the desk tells what it holds, and file is what it holds under the name
abbrev pub ReadFault : DeskError → Type 0 → Option (List ℕ) → ℕ → ℕ → ℕ → Type 0
ReadFault desk.Failed told file max before now = Rose before now ⊎ (told × (file ≡ None) × (now ≡ before))
ReadFault (desk.TooLong limit) told file max before now =
    (limit ≡ max) × (now ≡ before) × (told → IsSomeAnd file (λ bytes. max < length bytes))
ReadFault desk.NoMemory told file max before now = now ≡ before

-- why a write answered this error
abbrev pub WriteFault : DeskError → ℕ → ℕ → Type 0
WriteFault desk.Failed before now = Rose before now
WriteFault (desk.TooLong limit) before now = ⊥
WriteFault desk.NoMemory before now = now ≡ before

-- why a put answered this error
abbrev pub PutFault : SinkError → ℕ → ℕ → Type 0
PutFault sink.Failed before now = Rose before now
PutFault sink.NoMemory before now = now ≡ before

-- the bytes of the piece that a put took
abbrev pub taken_of : List ℕ → Result ℕ SinkError → List ℕ
taken_of piece (Ok n) = take n piece
taken_of piece (Err _) = []

-- what is held is as it was, but for the file of this name
abbrev pub OthersStay : Files → Files → List ℕ → Type 0
OthersStay before now name = (other : List ℕ) → (other ≡ name → ⊥) → now other ≡ before other
