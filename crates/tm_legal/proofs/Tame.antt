-- A hart that keeps the course is tame.
use Rattle.std.proofs.Common.{◌≡◌, ℕ, ◌%◌, List, [], ◌∷◌, ◌||◌, Option, None, Some}
use Rattle.std.specs.Prelude.{IsTrue, IsFalse}
use Rattle.tm_table.specs.State.{Hart}
use Rattle.tm_plan_cases.specs.declared.program.Program.{Program}
use Rattle.tm_plan_cases.specs.Collected.{is_declared}
use Rattle.tm_world.specs.Writers.{may_write}
use Rattle.tm_world.specs.Place.{exit_of, is_text, is_table}
use Rattle.tm_world.specs.Run.{Step, now, access_of, phase}
use Rattle.tm_world.specs.Kinds.{stream_at}
use Rattle.tm_world.specs.Course.{KeepsWrites, OutsideWrites}
use Rattle.tm_runs.specs.World.{Sizes}
use Rattle.tm_legal.specs.Tame.{OutsideSpares, SparesImage}
use Rattle.tm_legal.specs.Laws.{CourseIsTame}
use Rattle.tm_legal.proofs.Inside.{writes-map}
use Rattle.tm_legal.proofs.Areas.{may-spares}
use Rattle.tm_legal.proofs.Formed.{formed-sizes}

outside : (p : Program) (h : ℕ) → Sizes p → (o : Option ℕ) (q : ℕ) (s : Step) → OutsideWrites p h o q s
    → OutsideSpares p o s
outside p h sizes None q s w = writes-map (λ b. IsTrue (may_write p q h b)
    × (q % 2 ≡ 1 → IsFalse (is_declared p.cases b))) (λ b. IsFalse (is_text p b || is_table p b)) (access_of s)
    (λ b m. may-spares p q h b sizes m.0) w
outside p h sizes (Some c) q s w = tt

-- Who writes only what it may spares text and tables.
pub writes-spare : (p : Program) (h : ℕ) → Sizes p → (first : Hart) (own : List Step) → KeepsWrites p h first own
    → SparesImage p h first own
writes-spare p h sizes first [] k = tt
writes-spare p h sizes first (s ∷ past) k = (
  outside p h sizes (stream_at p h (now first past).pc) (phase (exit_of p h) past) s k.0,
  writes-spare p h sizes first past k.1,
)

pub course-tame : (p : Program) → CourseIsTame p
course-tame p formed h c = record {
  order = c.order;
  fresh = c.fresh;
  spares = λ r half. writes-spare p h (formed-sizes formed) _ _ (c.writes r half);
}
