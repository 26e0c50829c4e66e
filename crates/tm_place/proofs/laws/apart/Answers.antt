use Rattle.tm_place.specs.Placed.{sharing_of}
use Rattle.tm_place.proofs.SpotLemmas.{sound-of}
use Rattle.tm_place.proofs.ApartLemmas.{one_stores, stores_are_loads, parts_fit}
use Rattle.tm_place.proofs.laws.apart.Goals as goal

pub returns-clause-one : goal.returns-clause-one
returns-clause-one c = one_stores (sharing_of c.args.p.now) (sound-of c.args.p.now)

pub returns-clause-loads : goal.returns-clause-loads
returns-clause-loads c = stores_are_loads (sharing_of c.args.p.now)

pub returns-clause-parts : goal.returns-clause-parts
returns-clause-parts c = parts_fit c.args.p.now
