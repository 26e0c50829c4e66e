-- What a sound program keeps on buffered runs.
use Rattle.tm_plan_cases.specs.declared.program.Program.{Program}
use Rattle.tm_legal.specs.Tame.{Formed}
use Rattle.tm_memory.proofs.Meets.{course-meets}
use Rattle.tm_memory.proofs.Next.{all-unstuck}
use Rattle.tm_buffered.specs.Moments.{run_of}
use Rattle.tm_buffered.specs.Laws.{BufferedGoesOn, SoundBuffered}
use Rattle.tm_buffered.proofs.Halves.{buffered-half}
use Rattle.tm_buffered.proofs.Legals.{buffered-legal}

pub buffered-goes_on : (p : Program) → BufferedGoesOn p
buffered-goes_on p m goes r b = (all-unstuck p m goes).legal (run_of r) (buffered-legal p m r b)

pub sound-buffered : (p : Program) → SoundBuffered p
sound-buffered p sound r b =
    let formed : Formed p = record { program = sound.program; typed = sound.typed; laid = sound.course.laid } in
    let m = course-meets p formed sound.course.hart in
    let legal = buffered-legal p m r b in
    record {
      legal = legal;
      half = buffered-half p m r b;
      silent = sound.silent (run_of r) legal;
      unstuck = buffered-goes_on p m (λ h l. (sound.bound h l).next) r b;
    }
