-- What is so in each state of a run of one memory, and of a plain run.
use Rattle.std.proofs.Common.{◌≤◌, Bool, true, false, arith}
use Rattle.tm_plan_cases.specs.declared.program.Program.{Program}
use Rattle.tm_world.specs.Run.{own}
use Rattle.tm_meet.specs.Laws.{FlagsCount, NoneAhead, SettledIsLast}
use Rattle.tm_meet.proofs.Counts.{one, signalled, counted}
use Rattle.tm_memory.proofs.Meets.{writes-right}
use Rattle.tm_memory.proofs.PlainMemory.{plain-memory}
use Rattle.tm_meet.proofs.Told.{told}
use Rattle.tm_meet.proofs.Meeting.{flag-holds, phases-le}
use Rattle.tm_meet.proofs.Settling.{settled-held}
use Rattle.tm_meet.proofs.Owed.{all-up_to, ordered}
use Rattle.tm_meet.proofs.PlainLegal.{plain-legal}

pub flags-count : (p : Program) → FlagsCount p
flags-count p m r memory g l = let t = told p m r memory in
    (λ i k. flag-holds p m.formed g i l k r.steps t, counted p g (own g r.steps) (t.keep g l))

at-most : (b : Bool) → one b ≤ 1
at-most true = omega arith
at-most false = omega arith

pub none-ahead : (p : Program) → NoneAhead p
none-ahead p m r memory h g l k n =
    let t = told p m r memory in
    let a = phases-le p m.formed h g l k n r.steps t in
    let b = counted p g (own g r.steps) (t.keep g k) in
    let c = at-most (signalled p g (own g r.steps)) in
    (a, omega arith)

pub settled-last : (p : Program) → SettledIsLast p
settled-last p m r plain q b v few e =
    let t = told p m r (plain-memory p m r plain) in
    let right = writes-right p m r (plain-legal p m r plain) in
    settled-held p q b v r.steps t.only (ordered p m.formed b r.steps t right) (all-up_to p q b r.steps t.only few) e
