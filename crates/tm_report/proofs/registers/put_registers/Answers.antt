use Rattle.std.proofs.Common.{◌≡◌, ◌-◌, arith}
use Rattle.tm_base.specs.Lists.{count_from}
use Rattle.tm_report.specs.Listing.{is_unchecked, register_entry}
use Rattle.tm_report.proofs.Growing.{count-next, registers-all, entries-more}
use Rattle.tm_report.proofs.registers.put_registers.Goals as goal

pub loop-r-preserved : goal.loop-r-preserved
loop-r-preserved c =
    rw (count-next 1 c.loop-r.r c.loop-r.auto.r)
    (entries-more register_entry (is_unchecked c.args.mask) c.args.out.now c.loop-r.out c.put_register.new.out
    (count_from 1 (c.loop-r.r - 1)) c.loop-r.r
    c.loop-r.invariant c.in_ok-put_register.ensures)

pub returns : goal.returns
returns c =
    let all : c.loop-r.r ≡ 31 = omega arith in
    rw (← registers-all c.loop-r.r all) c.loop-r.invariant
