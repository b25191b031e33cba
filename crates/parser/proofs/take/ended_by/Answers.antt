use Rattle.std.proofs.Common.{refl}
use Rattle.parser.proofs.take.ended_by.Goals as goal

pub returns : goal.returns
returns g c = rw (c.in_ok-value.was, c.in_ok-rest.ensures) refl
