use Rattle.std.proofs.Common.{ap}
use Rattle.std.specs.Prelude.{nat_eq}
use Rattle.indexmap.specs.IndexMap.{get}
use Rattle.lockpaths.specs.Working.States.{Known, known}
use Rattle.lockpaths.proofs.Walked.{more_nodes, forms_kept, stepped}
use Rattle.lockpaths.proofs.forms.Forms.step.Goals as goal

pub invariant_of-self : goal.invariant_of-self
invariant_of-self c =
    let bounds = c.self.inside.bounds.items in
    forms_kept (known bounds c.self.inside.nodes) (known bounds c.step.new.self) (more_nodes bounds c.self.inside.nodes c.step.new.self c.step.ensures.grown)
    (get nat_eq c.self.inside.states) c.self.invariant

pub invariant_of-self-in-From : goal.invariant_of-self-in-From
invariant_of-self-in-From c =
    let bounds = c.self.inside.bounds.items in
    forms_kept (known bounds c.self.inside.nodes) (known bounds c.step.new.self) (more_nodes bounds c.self.inside.nodes c.step.new.self c.step.ensures.grown)
    (get nat_eq c.self.inside.states) c.self.invariant

pub returns-in_ok-step-in-From-clause-state : goal.returns-in_ok-step-in-From-clause-state
returns-in_ok-step-in-From-clause-state c =
    stepped c.args.self.now (known c.self.inside.bounds.items c.step.new.self) c.self.inside.nodes c.args.state c.in-From.node c.args.number c.in_ok-step-in-From.field-0
    (ap (λ (f : Known). f.paths) c.self.view_is) c.in-From.ensures.1 c.in_ok-step-in-From.ensures.node
