-- A hart's program with all its blocks in their places (this project's own).
use Rattle.std.specs.Prelude.{◌≡◌, ℕ, suc, ◌+◌, ◌-◌, ◌*◌, ◌<◌, [], ◌∷◌, length, slice_get, Some}
use Rattle.tm_plan_cases.specs.declared.masks.CaseMask.{CaseMask}
use Rattle.tm_plan_cases.specs.declared.program.Program.{Program}
use Rattle.tm_plan_map.specs.Map.{text_base}
use Rattle.tm_plan_cases.specs.Collected.{owned}
use Rattle.tm_plan_cases.specs.Shaped.{MasksFit}
use Rattle.tm_world.specs.Place.{harts, case_count, passes, start_of, end_of}
use Rattle.tm_world.specs.Course.{OnHalf}
use Rattle.tm_runs.specs.Runs.{At}
use Rattle.tm_runs.specs.World.{support_at}
use Rattle.tm_legal.specs.Tame.{Formed}
use Rattle.tm_blocks_base.specs.Blocks.{load_registers, save_registers}
use Rattle.tm_blocks_move.specs.Lines.{first_bytes, collect_all}
use Rattle.tm_pass_text.specs.Words.{reset, aim}
use Rattle.tm_pass_way.specs.Parts.{Places, Costs, Rooms}
use Rattle.tm_pass_way.specs.Calm.{Clear, StreamClear}
use Rattle.tm_pass_way.specs.Meets.{Halts, KeepsOwed}
use Rattle.tm_pass_way.specs.Pace.{pace_of, limit_at}
use Rattle.tm_stays.specs.Pace.{KeepsPace}
use Rattle.tm_pass_way.specs.Steps.{Steps}
use Rattle.tm_pass_steps.specs.Sites.{BarrierSite, CallSite}
use Rattle.tm_pass_steps.specs.Meeting.{meet_cost}
use Rattle.tm_pass_steps.specs.Setting.{FirstTable, set_cost}
use Rattle.tm_pass_steps.specs.Gathering.{collect_cost}
use Rattle.tm_pass_steps.specs.Beginning.{GateSite, begin_cost}
use Rattle.tm_pass_steps.specs.Turning.{TurnSite}
use Rattle.tm_pass_steps.specs.Entering.{RegisterTable}
use Rattle.tm_pass_steps.specs.Judging.{CompareSite, compare_cost}

-- The beginning of hart h's program: the gates of the harts before it, and its own with the base of its private area,
-- up to its first case.
pub record BeginPlaced (p : Program) (h head : ℕ) : Type 0 where
  pub base : ℕ → ℕ
  pub far : ℕ → ℕ
  pub gates : GateSite p h base far
  pub clear : Clear p h text_base (base h + 56)
  pub to : base h + 56 ≡ head

-- At the head of a case the counter of passes is set to 0.
pub record ResetPlaced (p : Program) (h head set : ℕ) : Type 0 where
  pub code : At (support_at p h) head (reset ∷ [])
  pub clear : Clear p h head (head + 4)
  pub to : head + 4 ≡ set

-- The first bytes are written from a table of the case's first dwords, up to the call of the barrier.
pub record FirstPlaced (p : Program) (h c set call : ℕ) : Type 0 where
  pub from : ℕ
  pub table : FirstTable p c from
  pub code : At (support_at p h) set (first_bytes p.cases h from)
  pub clear : Clear p h set (set + 4 * length (first_bytes p.cases h from))
  pub to : set + 4 * length (first_bytes p.cases h from) ≡ call

-- The registers are loaded from a table of the stream's first registers, up to the stream's start.
pub record LoadPlaced (p : Program) (h c load : ℕ) : Type 0 where
  pub table : ℕ
  pub registers : RegisterTable p h c table
  pub code : At (support_at p h) load (load_registers table)
  pub to : load + 168 ≡ start_of p h c
  pub clear : Clear p h load (start_of p h c - 4)

-- Behind the stream's end the registers are saved, up to the second call of the barrier.
pub record SavePlaced (p : Program) (h c recall : ℕ) : Type 0 where
  pub code : At (support_at p h) (end_of p h c) save_registers
  pub clear : Clear p h (end_of p h c) (end_of p h c + 120)
  pub to : end_of p h c + 120 ≡ recall

-- The save area of the pass is aimed at, and the end state is collected.
pub record CollectPlaced (p : Program) (h collect turn : ℕ) : Type 0 where
  pub aims : At (support_at p h) collect aim
  pub code : At (support_at p h) (collect + 24) (collect_all p.cases h)
  pub clear : Clear p h collect (collect + 24 + 4 * length (collect_all p.cases h))
  pub to : collect + 24 + 4 * length (collect_all p.cases h) ≡ turn

-- The counter goes up by one: back to the first bytes, or on to the comparison.
pub record TurnPlaced (p : Program) (h turn set compare : ℕ) : Type 0 where
  pub back : ℕ
  pub site : TurnSite p h turn set back
  pub to : turn + 24 ≡ compare

-- The passes are compared under the case's masks, and the verdict is written, up to the next case or the halt mark.
pub record ComparePlaced (p : Program) (m : CaseMask) (h c compare next : ℕ) : Type 0 where
  pub last : ℕ
  pub masks : ℕ
  pub bytes : ℕ
  pub site : CompareSite p m h c compare last masks bytes
  pub to : last + 4 ≡ next

-- All blocks of hart h stand where its parts begin.
pub record HartPlaced (p : Program) (h : ℕ) (at : Places) : Type 0 where
  pub entry : ℕ
  pub barrier : BarrierSite p h entry
  pub begin : BeginPlaced p h (at.head 0)
  pub reset : (c : ℕ) → c < case_count p → ResetPlaced p h (at.head c) (at.set c)
  pub first : (c : ℕ) → c < case_count p → FirstPlaced p h c (at.set c) (at.call c)
  pub calls : (c : ℕ) → c < case_count p → CallSite p h entry (at.call c) (at.load c)
  pub load : (c : ℕ) → c < case_count p → LoadPlaced p h c (at.load c)
  pub streams : (c : ℕ) → c < case_count p → StreamClear p h c
  pub save : (c : ℕ) → c < case_count p → SavePlaced p h c (at.recall c)
  pub recalls : (c : ℕ) → c < case_count p → CallSite p h entry (at.recall c) (at.collect c)
  pub collect : (c : ℕ) → c < case_count p → CollectPlaced p h (at.collect c) (at.turn c)
  pub turn : (c : ℕ) → c < case_count p → TurnPlaced p h (at.turn c) (at.set c) (at.compare c)
  pub compare : (c : ℕ) (m : CaseMask) → c < case_count p → slice_get p.masks.cases c ≡ Some m
      → ComparePlaced p m h c (at.compare c) (at.head (suc c))

-- how many steps of each part are work
abbrev pub costs_of : Program → ℕ → Costs
costs_of p h = record {
  begin = begin_cost (harts p);
  reset = 1;
  first = set_cost (length (owned p.cases h));
  meet = meet_cost (harts p);
  load = 42;
  save = 30;
  collect = collect_cost (length (owned p.cases h));
  turn = 6;
  compare = compare_cost (passes p) (length (owned p.cases h));
}

-- Then they make up the hart's way.
abbrev pub BlocksMakeSteps : Program → Type 0
BlocksMakeSteps p = Formed p → MasksFit p.cases p.masks → (h : ℕ) → h < harts p → (at : Places) → HartPlaced p h at
    → (limit : ℕ → ℕ) → Steps p h at (costs_of p h) limit

-- And a hart whose blocks stand so, and whose limits have room for them, keeps the course, writes its verdicts
-- exactly, works within its limits and doesn't get stuck.
abbrev pub PlacedHartKeeps : Program → Type 0
PlacedHartKeeps p = Formed p → MasksFit p.cases p.masks → (h : ℕ) → h < harts p → (at : Places) → HartPlaced p h at
    → Halts p h at
    → (limit : ℕ → ℕ) → Rooms p (costs_of p h) limit → KeepsOwed p h limit

-- What the parts of its passes work makes up the limits of its phases, and the hart keeps that pace.
abbrev pub PlacedHartKeepsPace : Program → Type 0
PlacedHartKeepsPace p = Formed p → MasksFit p.cases p.masks → (h : ℕ) → h < harts p → (at : Places)
    → HartPlaced p h at → Halts p h at
    → KeepsOwed p h (limit_at p (pace_of (costs_of p h))) × OnHalf p h (KeepsPace p h (pace_of (costs_of p h)))
