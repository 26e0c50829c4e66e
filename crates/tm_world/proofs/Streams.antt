-- The streams of cases.
use Rattle.std.proofs.Common.{◌≡◌, ℕ, ◌<◌, length, Option, None, Some, refl, sym, ◌∙◌, arith}
use Rattle.std.specs.Prelude.{slice_get}
use Rattle.tm_base.proofs.ListLemmas.{all-at, none-past}
use Rattle.tm_plan_cases.specs.declared.cases.Cases.{Cases}
use Rattle.tm_plan_cases.specs.declared.cases.Case.{Case}
use Rattle.tm_plan_cases.specs.declared.cases.Stream.{Stream}
use Rattle.tm_plan_cases.specs.Shaped.{IsShapedStream, IsShapedCase, AreShaped}
use Rattle.tm_plan_cases.specs.Streams.{stream_in}

pub stream-case : (cases : Cases) (c h : ℕ) (case : Case) → slice_get cases.cases c ≡ Some case
    → stream_in cases c h ≡ slice_get case.streams h
stream-case cases c h case e = rw e

pub case-of : (cases : Cases) (c h : ℕ) (stream : Stream) → stream_in cases c h ≡ Some stream → (case : Case)
    × (slice_get cases.cases c ≡ Some case) × (slice_get case.streams h ≡ Some stream)
case-of cases c h stream e = by (slice_get cases.cases c) refl
  where
    by : (o : Option Case) → slice_get cases.cases c ≡ o → (case : Case) × (slice_get cases.cases c ≡ Some case)
        × (slice_get case.streams h ≡ Some stream)
    by (Some case) q = (case, q, sym (stream-case cases c h case q) ∙ e)
    by None q = let f = rw q at e in cc

pub shaped-stream : (cases : Cases) (c h : ℕ) (stream : Stream) → AreShaped cases → stream_in cases c h ≡ Some stream
    → IsShapedStream cases h stream
shaped-stream cases c h stream a e =
    let (case, f, g) = case-of cases c h stream e in
    (all-at (IsShapedCase cases) cases.cases c case a.each f).each h stream g

-- each hart has a stream in each case
pub stream-of : (cases : Cases) (c h : ℕ) → AreShaped cases → c < length cases.cases → h < cases.harts
    → (stream : Stream) × (stream_in cases c h ≡ Some stream)
stream-of cases c h a l m = by (slice_get cases.cases c) refl
  where
    of : (case : Case) → slice_get cases.cases c ≡ Some case → (o : Option Stream) → slice_get case.streams h ≡ o
        → (stream : Stream) × (stream_in cases c h ≡ Some stream)
    of case q (Some stream) r = (stream, stream-case cases c h case q ∙ r)
    of case q None r =
        let n = (all-at (IsShapedCase cases) cases.cases c case a.each q).streams in
        absurd (none-past case.streams h (omega arith) r)

    by : (o : Option Case) → slice_get cases.cases c ≡ o → (stream : Stream) × (stream_in cases c h ≡ Some stream)
    by (Some case) q = of case q (slice_get case.streams h) refl
    by None q = absurd (none-past cases.cases c l q)
