-- Each legal run of a sound program is a half run.
use Rattle.tm_plan_cases.specs.declared.program.Program.{Program}
use Rattle.tm_legal.specs.Tame.{Formed}
use Rattle.tm_legal.specs.Laws.{CourseRunsAreHalf, SoundRunsAreHalf, SoundPlainRuns}
use Rattle.tm_legal.proofs.Half.{legal-runs}
use Rattle.tm_legal.proofs.Tame.{course-tame}

pub course-half : (p : Program) → CourseRunsAreHalf p
course-half p program typed course =
    let formed : Formed p = record { program = program; typed = typed; laid = course.laid } in
    legal-runs p formed (λ h l. course-tame p formed h (course.hart h l))

pub sound-half : (p : Program) → SoundRunsAreHalf p
sound-half p sound = course-half p sound.program sound.typed sound.course

pub sound-plain : (p : Program) → SoundPlainRuns p
sound-plain p sound r plain = let legal = sound.plain r plain in (legal, sound-half p sound r legal)
