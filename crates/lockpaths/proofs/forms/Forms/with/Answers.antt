use Rattle.std.proofs.Common.{sym, subst}
use Rattle.std.specs.Prelude.{nat_eq}
use Rattle.indexmap.specs.IndexMap.{get}
use Rattle.lockpaths.specs.Working.States.{Known, IsBoundIn}
use Rattle.lockpaths.proofs.Walked.{bound_forms}
use Rattle.lockpaths.proofs.forms.Forms.with.Goals as goal

pub invariant_of-result : goal.invariant_of-result
invariant_of-result c =
    bound_forms c.self.inside.bounds.items c.push.new.self.items c.args.bound c.self.inside.nodes (get nat_eq c.self.inside.states) (get nat_eq c.insert.new.self) c.args.state
    c.in_ok-push.ensures.items c.self.invariant (subst (λ (f : Known). IsBoundIn f c.args.bound c.args.state) (sym c.self.view_is) c.requires)
    c.in_ok-insert.ensures.updates.0
