use Rattle.std.proofs.Common.{◌≡◌, ◌+◌, ◌-◌, ◌*◌, length, arith}
use Rattle.tm_blocks_base.specs.Blocks.{load_registers, save_registers}
use Rattle.tm_blocks_base.proofs.Lengths.{length-load_registers, length-save_registers}
use Rattle.tm_blocks_move.specs.Lines.{first_bytes, collect_all}
use Rattle.tm_pass_text.specs.Hart.{blocks_of, first_at, registers_at}
use Rattle.tm_pass_code.proofs.Case.{case_built}
use Rattle.tm_pass_code.proofs.whole.append_case.Goals as goal

pub returns : goal.returns
returns c =
    let cases = c.args.cases.now in
    let h = c.args.h in
    let first = first_bytes cases h (first_at cases c.args.c) in
    let load = load_registers (registers_at cases h c.args.c) in
    let collect = collect_all cases h in
    let n = length c.args.stream.now in
    let e0 = c.in_ok-first.ensures.is in
    let e1 = length-load_registers (registers_at cases h c.args.c) in
    let e2 = length-save_registers in
    let e3 = c.in_ok-collect.ensures.is in
    let one : c.distance-to_first.result ≡ c.args.barrier - (c.args.at + 4 * (1 + length first)) =
    omega (arith, e0, c.distance-to_first.ensures.is) in
    let two : c.distance-to_second.result ≡ c.args.barrier
    - (c.args.at + 4 * (2 + length first + length load + n + length save_registers)) =
    omega (arith, e0, e1, e2, c.distance-to_second.ensures.is) in
    let back : 4 * (85 + c.in_ok-first.first + n + c.in_ok-collect.collect)
    ≡ 4 * (2 + length first + length load + n + length save_registers + 1 + 6 + length collect + 5 - 1) =
    omega (arith, e0, e1, e2, e3) in
    case_built (blocks_of cases h) cases.passes c.args.c c.args.stream.now c.args.at c.args.barrier _ _ _ c.args.out.now
    _ _ _ one two back c.in_ok-append_before.ensures c.in_ok-append.ensures.ok c.in_ok-append_behind.ensures
