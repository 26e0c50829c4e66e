-- What runs that a script has changed keep.
use Rattle.tm_plan_cases.specs.declared.program.Program.{Program}
use Rattle.tm_world.specs.Script.{change_of}
use Rattle.tm_legal.specs.Tame.{Formed}
use Rattle.tm_memory.specs.Laws.{NoLinesArePlain, CourseKeeps, SoundKeeps}
use Rattle.tm_memory.proofs.Meets.{course-meets}
use Rattle.tm_memory.proofs.Faults.{faulted-half}
use Rattle.tm_memory.proofs.Next.{all-unstuck}
use Rattle.tm_memory.proofs.Nothing.{nothing-plain}
use Rattle.tm_memory.proofs.Numbers.{small-results}

pub no-lines : (p : Program) → NoLinesArePlain p
unfolding change_of
no-lines p = let n = nothing-plain p in record { plain = n.plain; faulted = n.faulted }

pub course-keeps : (p : Program) → CourseKeeps p
course-keeps p formed course goes lines small =
    let m = course-meets p formed course in
    let s = small-results p lines small in
    record {
      half = faulted-half p m (change_of p lines) s;
      unstuck = (all-unstuck p m goes).faulted (change_of p lines) s;
    }

pub sound-keeps : (p : Program) → SoundKeeps p
sound-keeps p sound =
    let formed : Formed p = record { program = sound.program; typed = sound.typed; laid = sound.course.laid } in
    course-keeps p formed sound.course.hart (λ h l. (sound.bound h l).next)
