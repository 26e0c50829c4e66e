-- How many slots shaped cases may have.
use Rattle.std.proofs.Common.{◌≡◌, ◌≤◌, ◌<◌, ℕ, ◌^◌, List, length, get_or, arith, Some}
use Rattle.std.specs.Prelude.{slice_get}
use Rattle.std.specs.List.{All, sum_by}
use Rattle.std.proofs.lemmas.List.Sums.{sum_by-le}
use Rattle.std.proofs.lemmas.Option.{slice_get-get_or}
use Rattle.tm_plan_cases.specs.declared.cases.Cases.{Cases}
use Rattle.tm_plan_cases.specs.declared.cases.Case.{Case}
use Rattle.tm_plan_cases.specs.declared.cases.Stream.{Stream}
use Rattle.tm_plan_cases.specs.Shaped.{AreShaped, IsShapedCase, IsShapedStream}

streams_low : (all : Cases) (streams : List Stream) → ((h : ℕ) (s : Stream) → slice_get streams h ≡ Some s
    → IsShapedStream all h s)
    → All (λ (s : Stream). length s.words ≤ 256) streams
streams_low all streams each = λ k d h. (each k (get_or streams k d) (slice_get-get_or streams k d h)).few

case_low : (all : Cases) (case : Case) → AreShaped all → IsShapedCase all case
    → sum_by (λ (s : Stream). length s.words) case.streams ≤ 2048
case_low all case shaped its =
    let sum = sum_by-le (λ (s : Stream). length s.words) 256 case.streams (streams_low all case.streams its.each) in
    let harts = shaped.harts in
    let count = its.streams in
    omega (arith, sum, harts.1, count)

-- all slots of shaped cases are few
pub slots_low : (all : Cases) → AreShaped all
    → sum_by (λ (case : Case). sum_by (λ (s : Stream). length s.words) case.streams) all.cases < 2 ^ 64
slots_low all shaped =
    let sum = sum_by-le (λ (case : Case). sum_by (λ (s : Stream). length s.words) case.streams) 2048 all.cases
    (λ k d h. case_low all (get_or all.cases k d) shaped (shaped.each k d h)) in
    let count = shaped.count in
    omega (arith, sum, count.1)
