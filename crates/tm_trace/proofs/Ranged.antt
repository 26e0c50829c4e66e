-- What is read of a text is a trace.
use Rattle.std.proofs.Common.{◌≡◌, ◌≤◌, ◌<◌, ◌+◌, ◌%◌, ◌^◌, ◌==◌, ◌&&◌, ℕ, zero, suc, Bool, true, false, cond}
use Rattle.std.proofs.Common.{refl, ap, subst, arith, List, length, Some, None, Ok, Err, All}
use Rattle.std.proofs.Common.{nat_lt}
use Rattle.std.proofs.lemmas.List.Elements.{All-nil, All-cons}
use Rattle.std.proofs.lemmas.Bool.Decides.{nat_tests}
use Rattle.tm_base.specs.declared.limits.TheConstants.{HART_ROOM, MOST_EVENTS}
use Rattle.tm_table.specs.Row.{IsWidth}
use Rattle.tm_plan_cases.specs.declared.event.Event.{Event}
use Rattle.tm_trace.specs.declared.line.Place.{Place}
use Rattle.tm_trace.specs.declared.line.Touch.{Touch}
use Rattle.tm_trace.specs.declared.line.Touch.TheVariants.{Nothing, Reads, Writes}
use Rattle.tm_trace.specs.declared.line.Line.{Line}
use Rattle.tm_trace.specs.declared.trace.TraceFault.{TraceFault}
use Rattle.tm_trace.specs.declared.trace.TraceFault.TheVariants.{OutOfRange}
use Rattle.tm_trace.specs.Traced.{IsPlaced, HasPlace, IsTraced, IsTrace}
use Rattle.tm_trace.specs.Fields.{Field, line_field}
use Rattle.tm_trace.specs.Reading.{Reading, is_width, is_placed, has_place, is_in_range, access_of, event_of}
use Rattle.tm_trace.specs.Reading.{event_reading, next_event, more, then_more, events_from, is_head}
use Rattle.std.proofs.lemmas.Bool.{ltb-true, and_parts}

-- ---- the ranges of an event

width_of : (n : ℕ) → is_width n ≡ true → IsWidth n
width_of n h = grind (arith, nat_tests)

zero_of : (a : ℕ) → (a == 0) ≡ true → a ≡ 0
zero_of a h = grind (arith, nat_tests)

placed : (p : Place) → is_placed p ≡ true → IsPlaced p.addr p.width p.value
placed p h =
    let wide = and_parts (is_width p.width) (p.addr % p.width == 0 && nat_lt p.value (256 ^ p.width)) h in
    let rest = and_parts (p.addr % p.width == 0) (nat_lt p.value (256 ^ p.width)) wide.1 in
    record {
      wide = width_of p.width wide.0;
      aligned = zero_of (p.addr % p.width) rest.0;
      fits = ltb-true p.value (256 ^ p.width) rest.1;
    }

touched : (t : Touch) → has_place t ≡ true → HasPlace (access_of t)
touched Nothing h = tt
touched (Reads p) h = placed p h
touched (Writes p) h = placed p h

traced : (n : ℕ) (l : Line) → is_in_range n l ≡ true → IsTraced n (event_of l)
traced n l h =
    let parts = and_parts (nat_lt l.hart n) (has_place l.touch) h in
    record { hart = ltb-true l.hart n parts.0; access = touched l.touch parts.1 }

-- ---- events

-- an event of one of so many harts, where one was read
abbrev IsOf : ℕ → Reading Event → Type 0
IsOf n (Ok p) = IsTraced n p.0
IsOf n (Err e) = Unit {0}

-- so many events of so many harts, where they were read
abbrev AreOf : (count : ℕ) → ℕ → Reading (List Event) → Type 0
AreOf count n (Ok p) = (length p.0 ≡ count) × All (IsTraced n) p.0
AreOf count n (Err e) = Unit {0}

in_range : (n : ℕ) (e : Event) (rest : List ℕ) (d : TraceFault) (b : Bool) → (b ≡ true → IsTraced n e)
    → IsOf n (cond {A = Reading Event} b (Ok (e, rest)) (Err d))
in_range n e rest d true f = f refl
in_range n e rest d false f = tt

field_is : (n line : ℕ) (bs : List ℕ) (f : Field Line) → IsOf n (event_reading n line bs f)
field_is n line bs None = tt
field_is n line bs (Some p) =
    in_range n (event_of p.0) p.1 (OutOfRange line) (is_in_range n p.0) (traced n p.0)

event_is : (n line : ℕ) (bs : List ℕ) → IsOf n (next_event n line bs)
unfolding next_event
event_is n line bs = field_is n line bs (line_field bs)

more_are : (count n : ℕ) (e : Event) (r : Reading (List Event)) → IsTraced n e → AreOf count n r
    → AreOf (suc count) n (more e r)
more_are count n e (Ok p) one all = (ap suc all.0, All-cons (IsTraced n) e p.0 one all.1)
more_are count n e (Err d) one all = tt

then_are : (count n : ℕ) (f : List ℕ → Reading (List Event)) (r : Reading Event)
    → ((bs : List ℕ) → AreOf count n (f bs)) → IsOf n r → AreOf (suc count) n (then_more f r)
then_are count n f (Ok p) all one = more_are count n p.0 (f p.1) one (all p.1)
then_are count n f (Err d) all one = tt

events_are : (count n line : ℕ) (bs : List ℕ) → AreOf count n (events_from count n line bs)
unfolding events_from
events_are zero n line bs = (refl, All-nil (IsTraced n))
events_are (suc count) n line bs =
    then_are count n (events_from count n (line + 1)) (next_event n line bs) (events_are count n (line + 1))
    (event_is n line bs)

-- ---- the whole

head_of : (n count : ℕ) → is_head n count ≡ true → (1 ≤ n) × (n ≤ HART_ROOM) × (count ≤ MOST_EVENTS)
head_of n count h = grind (arith, nat_tests)

-- events that were read behind a first line make a trace
pub is_trace : (n count line : ℕ) (bs rest : List ℕ) (es : List Event) → is_head n count ≡ true
    → events_from count n line bs ≡ Ok (es, rest) → IsTrace n es
is_trace n count line bs rest es h read =
    let head = head_of n count h in
    let few = head.2 in
    let all : AreOf count n (Ok (es, rest)) = subst (AreOf count n) read (events_are count n line bs) in
    let len = all.0 in
    record {
      harts = (head.0, head.1);
      few = omega (arith, few, len);
      each = all.1;
    }
