-- Harts that meet.
use Rattle.std.proofs.Common.{ℕ, ◌<◌}
use Rattle.tm_plan_cases.specs.declared.program.Program.{Program}
use Rattle.tm_world.specs.Place.{harts}
use Rattle.tm_legal.specs.Tame.{Tame}
use Rattle.tm_legal.proofs.Tame.{writes-spare}
use Rattle.tm_stays.proofs.Right.{legal-right}
use Rattle.tm_memory.specs.Meet.{AllMeet}
use Rattle.tm_memory.specs.Laws.{CourseMeets, LegalWritesRight}
use Rattle.tm_legal.proofs.Formed.{formed-sizes}

pub course-meets : (p : Program) → CourseMeets p
course-meets p formed c = record {
  formed = formed;
  each = λ h l. record {
    order = (c h l).order;
    fresh = (c h l).fresh;
    writes = (c h l).writes;
    barrier = (c h l).barrier;
  };
}

pub tame : (p : Program) → AllMeet p → (h : ℕ) → h < harts p → Tame p h
tame p m h l = record {
  order = (m.each h l).order;
  fresh = (m.each h l).fresh;
  spares = λ r half. writes-spare p h (formed-sizes m.formed) _ _ ((m.each h l).writes r half);
}

pub writes-right : (p : Program) → LegalWritesRight p
writes-right p m = legal-right p m.formed (tame p m) (λ h l. (m.each h l).writes)
