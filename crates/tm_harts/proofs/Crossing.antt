-- A mill, and what drives its seats, may be shared by threads.
use denote.Ref.{NamedLft}
use denote.RattleType.{RattleType}
use denote.Param.Send.{IsSync, sendable}
use Rattle.std.proofs.Crossing.{crosses}
use Rattle.tm_turn.proofs.line.Line.TheSendSync as line
use Rattle.tm_harts.specs.contracts.mill.Mill as mill
use Rattle.tm_harts.specs.contracts.threads.Driver as driver
use Rattle.tm_harts.proofs.held.Held.TheSendSync as held
use Rattle.tm_harts.proofs.waiting.Waiting.TheSendSync as waiting

mill_sync : (a : NamedLft) → IsSync (mill.the_row a)
mill_sync a = search (sendable, crosses, line.the_sync, held.the_send) depth 40

pub driver_sync : (a b : NamedLft) (R G : RattleType) → IsSync R → IsSync G → IsSync (driver.the_row a b R G)
driver_sync a b R G r g = search (sendable, mill_sync, waiting.the_sync) depth 20
