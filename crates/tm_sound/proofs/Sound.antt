-- A program is sound by its parts.
use Rattle.tm_plan_cases.specs.declared.program.Program.{Program}
use Rattle.tm_world.specs.Whole.{Course}
use Rattle.tm_legal.specs.Tame.{Formed}
use Rattle.tm_memory.specs.Meet.{AllMeet}
use Rattle.tm_sound.specs.Parts.{SoundParts}
use Rattle.tm_sound.specs.Laws.{SoundByHarts}
use Rattle.tm_world.specs.Script.{change_of}
use Rattle.tm_memory.proofs.Meets.{course-meets}
use Rattle.tm_memory.proofs.Faults.{faulted-half}
use Rattle.tm_memory.proofs.Numbers.{accepted-results}
use Rattle.tm_meet.proofs.PlainLegal.{plain-legal}
use Rattle.tm_meet.proofs.First.{course-kept}
use Rattle.tm_pace.proofs.Pace.{pace-bounds}
use Rattle.tm_quiet.proofs.Silent.{silent}

formed : (p : Program) → SoundParts p → Formed p
formed p s = record { program = s.program; typed = s.typed; laid = s.laid }

meets : (p : Program) → SoundParts p → AllMeet p
meets p s = course-meets p (formed p s) (λ h l. (s.each h l).course)

course : (p : Program) → SoundParts p → Course p
course p s = course-kept p (formed p s) (λ h l. (s.each h l).course) (λ h l. (s.each h l).first)

pub sound : (p : Program) → SoundByHarts p
sound p s = record {
  program = s.program;
  typed = s.typed;
  masks = s.masks;
  tables = s.tables;
  course = course p s;
  bound = λ h l. pace-bounds p (meets p s) h l (s.each h l).pace (s.each h l).fits (s.each h l).keeps (s.each h l).next;
  silent = silent p (record { program = s.program; typed = s.typed; masks = s.masks; course = course p s })
      (λ h l. (s.each h l).exact);
  exact = λ h l. (s.each h l).exact;
  plain = plain-legal p (meets p s);
  faulted = λ lines accepted. faulted-half p (meets p s) (change_of p lines) (accepted-results p lines accepted);
}
