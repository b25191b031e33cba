use Rattle.std.proofs.Common.{List, ℕ, ap}
use Rattle.core_lang.specs.declared.tree.Action.{Action}
use Rattle.points.specs.Working.Scoping.{behind_action}
use Rattle.points.proofs.Scopings.{behind_bind}
use Rattle.points.proofs.roots.Roots.behind.Goals as goal

pub returns-in-Bind : goal.returns-in-Bind
returns-in-Bind c =
    behind_bind c.args.self.now.paths.now c.args.action.now c.in-Bind.local c.args.scope c.at.result c.union.result
    (λ (locals : List ℕ). ap (λ (x : Action). behind_action x locals) c.in-Bind.is) c.at.ensures c.union.ensures
