-- Built programs keep what makes them sound.
use Rattle.std.proofs.Common.{◌≡◌, ℕ, ◌+◌, ◌*◌, ◌<◌, ◌≤◌, length, arith}
use Rattle.tm_plan_cases.specs.declared.program.Program.{Program}
use Rattle.tm_plan_cases.specs.Collected.{owned}
use Rattle.tm_plan_cases.specs.Shaped.{IsProgram, IsTyped}
use Rattle.tm_plan_cases.specs.Tables.{table_bytes}
use Rattle.tm_world.specs.Place.{harts, passes}
use Rattle.tm_world.specs.Whole.{Laid}
use Rattle.tm_legal.specs.Tame.{Formed}
use Rattle.tm_meet.proofs.Dwords.{dwords-set}
use Rattle.tm_pace.specs.Pace.{PaceFits}
use Rattle.tm_stays.specs.Pace.{Pace}
use Rattle.tm_sound.specs.Parts.{HartParts}
use Rattle.tm_sound.proofs.Sound.{sound}
use Rattle.tm_pass_text.proofs.Laying.{text-laid}
use Rattle.tm_pass_way.specs.Pace.{pace_of}
use Rattle.tm_pass_text.specs.Hart.{blocks_of, IsBuilt}
use Rattle.tm_pass_steps.specs.Placed.{costs_of}
use Rattle.tm_pass_steps.proofs.Placed.{placed-paces}
use Rattle.tm_pass_place.specs.Places.{places_of}
use Rattle.tm_pass_place.specs.Sound.{KeepsParts, BuiltKeeps, BuiltIsSound}
use Rattle.tm_pass_place.proofs.Placed.{harts-placed}
use Rattle.tm_pass_place.proofs.Sizes.{stream-size}

-- what the parts of one pass cost
abbrev pace_at : Program → ℕ → Pace
pace_at p h = pace_of (costs_of p h)

fits : (p : Program) (h : ℕ) → PaceFits p h (pace_at p h)
fits p h = by (passes p) (harts p) (length (owned p.cases h))
  where
    by : (K N Q : ℕ) → K * (1 + (69 + 4 * Q) + (10 + 2 * N) + (42 + 30 + (10 + 2 * N)) + (103 + 4 * Q + 6))
        + (27 + K * (385 + 13 * Q)) ≤ 64 + K * (256 + 32 * N + 32 * (30 + Q))
    by K N Q = omega arith

module _ (p : Program) (program : IsProgram p) (typed : IsTyped p) (is : IsBuilt p) (tables : p.tables
    ≡ table_bytes p.cases p.masks) where
  laid : Laid p
  laid = text-laid p (blocks_of p.cases) is (λ h c l m. (stream-size p.cases program.cases h c l m).0)

  formed : Formed p
  formed = record { program = program; typed = typed; laid = laid }

  hart : (h : ℕ) → h < harts p → HartParts p h
  hart h number =
      let at = harts-placed p program typed is tables h number in
      let all = placed-paces p formed program.masks h number (places_of p h) at.0 at.1 in
      let k = all.0 in
      record {
        course = k.course;
        first = record { sets = dwords-set p formed h k.dwords; behind = k.behind };
        exact = k.exact;
        next = k.next;
        pace = pace_at p h;
        fits = fits p h;
        keeps = all.1;
      }

  keeps : KeepsParts p
  keeps = record { laid = laid; each = hart }

pub built-keeps : (p : Program) → BuiltKeeps p
built-keeps p program typed is tables = keeps p program typed is tables

pub built-sound : (p : Program) → BuiltIsSound p
built-sound p program typed is tables checked =
    let k = keeps p program typed is tables in
    sound p (record {
      program = program;
      typed = typed;
      laid = k.laid;
      masks = checked;
      tables = tables;
      each = k.each;
    })
