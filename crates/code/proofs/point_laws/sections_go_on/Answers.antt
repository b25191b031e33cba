use Rattle.code.proofs.points.NeverStuck.{sections_go_on}
use Rattle.code.proofs.point_laws.sections_go_on.Goals as goal

pub returns : goal.returns
returns g c = sections_go_on c.points_stay_typed.ensures
