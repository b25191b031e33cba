use Rattle.std.proofs.Common.{refl}
use Rattle.lockorder.proofs.bindings.Bindings.of.Goals as goal

pub returns : goal.returns
returns c = record { points = refl; bindings = record { later = c.in_ok-later.ensures; listed = c.in_ok-list.ensures } }
