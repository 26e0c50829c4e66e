use Rattle.std.proofs.Common.{◌≡◌, ◌+◌, ◌*◌, arith}
use Rattle.tm_plan_map.specs.Map.{windows_base}
use Rattle.tm_report.specs.Listing.{is_listed, dword_entry}
use Rattle.tm_report.proofs.Growing.{dwords_to, dwords-more, dwords-all, entries-more}
use Rattle.tm_report.proofs.dwords.put_dwords.Goals as goal

pub loop-number-preserved : goal.loop-number-preserved
loop-number-preserved c =
    rw (dwords-more c.loop-number.number)
    (entries-more (dword_entry c.args.bytes.now) (is_listed c.args.cases.now c.args.bytes.now) c.args.out.now
    c.loop-number.out c.put_dword.new.out
    (dwords_to c.loop-number.number) (windows_base + 8 * c.loop-number.number) c.loop-number.invariant
    c.in_ok-put_dword.ensures)

pub returns : goal.returns
returns c =
    let all : c.loop-number.number ≡ 768 = omega arith in
    rw (← dwords-all c.loop-number.number all) c.loop-number.invariant
