use Rattle.cases.proofs.Reckoned.{cases}
use Rattle.cases.proofs.cases_hold.Goals as goal

pub returns : goal.returns
returns g c = cases g.K.Kind.laws
