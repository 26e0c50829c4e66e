-- Where a built text has the barrier of each hart (this project's own).
use Rattle.std.specs.Prelude.{ℕ, ◌+◌, ◌<◌, ◌≤◌, [], length, slice_index_or}
use Rattle.tm_plan_cases.specs.declared.program.Program.{Program}
use Rattle.tm_world.specs.Place.{harts, case_count, halt_of}
use Rattle.tm_asm.specs.Sheet.{AllFit}
use Rattle.tm_barrier.specs.Words.{barrier}
use Rattle.tm_pass_text.specs.Words.{streams_of}
use Rattle.tm_pass_text.specs.Hart.{IsBuilt}
use Rattle.tm_pass_steps.specs.Sites.{BarrierSite}

-- Where the text is that of all harts' programs, and each stream has a word, the barrier stands behind the halt mark.
abbrev pub BarrierIsPlaced : Program → Type 0
BarrierIsPlaced p = IsBuilt p → ((h c : ℕ) → h < harts p → c < case_count p
    → 1 ≤ length (slice_index_or (streams_of p.cases h) c []))
    → (h : ℕ) → h < harts p → AllFit (barrier h (harts p)) → BarrierSite p h (halt_of p h + 4)
