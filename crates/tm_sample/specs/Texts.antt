-- The two texts of a sample: a test of up to 4 harts and 8 drawn cases, with all three kinds of window (this project's
-- own).
use Rattle.std.specs.Prelude.{◌≡◌, ℕ, ◌+◌, ◌≤◌, ◌%◌, ◌==◌, if◌then◌else◌, List, ◌++◌, length, codes, Ok}
use Rattle.std.specs.List.{flat_map}
use Rattle.std.specs.Fmt.{decimal}
use Rattle.tm_base.specs.Lists.{count_from}
use Rattle.tm_plan_map.specs.declared.admitted.Admitted.{Admitted}
use Rattle.tm_plan_owned.specs.Lines.{lines_of}
use Rattle.tm_image_inputs.specs.Inputs.{inputs}

-- the line size of a sample: 32, 64 or 128 bytes, in turn
abbrev pub sample_line : ℕ → ℕ
sample_line turn = if turn == 0 then 32 else if turn == 1 then 64 else 128

-- a key of a topology with its number, as a line
abbrev pub key_line : List ℕ → ℕ → List ℕ
key_line key value = key ++ codes " = " ++ decimal value ++ codes "\n"

-- the topology of sample n: 1 or 2 cores of 2 threads
unfoldable pub sample_topology : ℕ → List ℕ
sample_topology n =
    key_line (codes "cores") (1 + n % 2) ++ codes "threads = 2\n" ++ key_line (codes "line") (sample_line (n % 3))
    ++ key_line (codes "bias") (n % 101)

-- the lines of case c: one body for all harts, of 100 drawn slots
abbrev pub sample_case : ℕ → List ℕ
sample_case c =
    codes "case c" ++ decimal c ++ codes "\nbody all\nmix 100 alu 4 load 3 store 3 branch 1\n"

-- the template of sample n: 2, 3 or 4 passes, and 8 cases
unfoldable pub sample_template : ℕ → List ℕ
sample_template n =
    codes "template sample\npasses " ++ decimal (2 + n % 3)
    ++ codes "\nwindow 0 true 2\nwindow 1 false 2\nwindow 2 own 8\n" ++ flat_map sample_case (count_from 0 8)

-- a topology and a template are accepted: they ask for a test, and no rule is broken
abbrev pub AreAccepted : (topo template : List ℕ) → Type 0
AreAccepted topo template = (a : Admitted) × (inputs topo template ≡ Ok a)

-- ---- the test

-- The test that a sample asks for: up to 4 harts, 4 passes, 8 cases and 12 lines.
pub record IsSampleForm (a : Admitted) : Type 0 where
  pub harts : a.harts ≤ 4
  pub passes : a.passes ≤ 4
  pub cases : length a.cases ≡ 8
  pub lines : lines_of 0 a.windows + lines_of 1 a.windows + lines_of 2 a.windows ≡ 12

-- So is each test that two texts ask for.
abbrev pub AskForASample : (topo template : List ℕ) → Type 0
AskForASample topo template = (a : Admitted) → inputs topo template ≡ Ok a → IsSampleForm a
