use Rattle.std.proofs.Common.{ℕ, List, length, subst, arith}
use Rattle.tm_plan_map.specs.Map.{guest_base, guest_end}
use Rattle.tm_guest.specs.Start.{HasText, HasTables}
use Rattle.tm_guest.proofs.Image.{image-memory}
use Rattle.tm_guest.proofs.start.image.Goals as goal

pub put_text-requires-clause-region : goal.put_text-requires-clause-region
unfolding guest_base guest_end
put_text-requires-clause-region c =
    let zeros = c.in_ok-ram.ensures in
    record { base = zeros.base; end = omega (arith, zeros.base, zeros.long) }

pub returns : goal.returns
returns c =
    let zeros = c.in_ok-ram.ram in
    let texts = c.put_text.new.ram in
    let all = c.put_tables.new.ram in
    image-memory c.args.program.now zeros texts all c.requires c.in_ok-ram.ensures.zeros c.put_tables.ensures.region
    (subst (λ (ws : List ℕ). HasText ws (length ws) zeros texts) c.as_slice.ensures c.put_text.ensures.text)
    (subst (λ (bs : List ℕ). HasTables bs (length bs) texts all) c.as_slice-2.ensures c.put_tables.ensures.tables)
