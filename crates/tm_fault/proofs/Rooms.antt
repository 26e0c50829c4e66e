-- Accepted lines have an entry in the table.
use Rattle.std.proofs.Common.{◌≡◌, ◌<◌, ◌≤◌, ◌+◌, ◌*◌, ◌^◌, ℕ, refl, ap, arith, length, Option, Some, None, IfSome}
use Rattle.std.specs.Prelude.{slice_get}
use Rattle.std.proofs.lemmas.Option.{slice_get_within, none-some}
use Rattle.tm_base.proofs.ListLemmas.{all-at}
use Rattle.tm_table.specs.declared.instr.Instr.{Instr}
use Rattle.tm_plan_cases.specs.declared.cases.Cases.{Cases}
use Rattle.tm_plan_cases.specs.declared.cases.Case.{Case}
use Rattle.tm_plan_cases.specs.declared.cases.Stream.{Stream}
use Rattle.tm_plan_cases.specs.Shaped.{AreShaped, IsShapedCase}
use Rattle.tm_plan_cases.specs.Streams.{stream_in}
use Rattle.tm_plan_script.specs.declared.faults.FaultLine.{FaultLine}
use Rattle.tm_plan_script.specs.Accepted.{instr_at, slot_in, IsAccepted}
use Rattle.tm_fault.specs.Marks.{place_of, HasBit, IsTabled}
use Rattle.tm_fault.proofs.Entries.{kind_low}

-- a slot that has an instruction is one of the stream's
inside : (s : Stream) (n : ℕ) (i : Instr) (o : Option ℕ) → slice_get s.words n ≡ o → instr_at o ≡ Some i
    → n < length s.words
inside s n i None e is = absurd (none-some i is)
inside s n i (Some w) e is = slice_get_within s.words n w e

slot_low : (cases : Cases) → AreShaped cases → (c h n : ℕ) (i : Instr) → slot_in (stream_in cases c h) n ≡ Some i
    → n < 256
slot_low cases shaped c h n i is = go (slice_get cases.cases c) refl is
  where
    in_case : (case : Case) → slice_get cases.cases c ≡ Some case → (o : Option Stream) → slice_get case.streams h ≡ o
        → slot_in o n ≡ Some i → n < 256
    in_case case e None at is = absurd (none-some i is)
    in_case case e (Some s) at is =
        let few = ((all-at (IsShapedCase cases) cases.cases c case shaped.each e).each h s at).few in
        let within = inside s n i (slice_get s.words n) refl is in
        omega (arith, few, within)

    go : (o : Option Case) → slice_get cases.cases c ≡ o → slot_in (stream_in cases c h) n ≡ Some i → n < 256
    go None e is = absurd (none-some i (rw e at is))
    go (Some case) e is = in_case case e (slice_get case.streams h) refl (rw e at is)

pass_low : (most : ℕ) (pass : Option ℕ) → most ≤ 8 → IfSome pass (λ k. k < most) → HasBit pass
pass_low most None few low = low
pass_low most (Some k) few low = omega (arith, few, low)

pub tabled : (cases : Cases) (len : ℕ) (l : FaultLine) → AreShaped cases → len ≡ length cases.cases * 20480
    → IsAccepted cases l → IsTabled len l
unfolding place_of
tabled cases len l shaped entries ok =
    let harts = shaped.harts.1 in
    let hart = ok.hart in
    let case = ok.case in
    let slot = slot_low cases shaped l.case l.hart l.slot ok.instr ok.slot in
    let kind = kind_low l.action in
    record {
      hart = omega (arith, harts, hart);
      slot = slot;
      pass = pass_low cases.passes l.pass shaped.passes.1 ok.pass;
      place = omega (arith, entries, harts, hart, case, slot, kind);
    }
