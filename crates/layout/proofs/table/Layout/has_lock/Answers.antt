use Rattle.std.proofs.Common.{IsTrue, ◌↔◌, subst}
use Rattle.std.specs.List.{Contains}
use Rattle.layout.specs.Layouts.{LayoutOf}
use Rattle.layout.proofs.table.Layout.has_lock.Goals as goal

pub returns : goal.returns
returns c = subst (λ (l : LayoutOf). IsTrue c.has.result ↔ Contains l.locks c.args.lock) c.self.view_is c.has.ensures
