use Rattle.std.proofs.Common.{◌∙◌, ap, sym}
use Rattle.std.specs.Prelude.{nat_eq}
use Rattle.std.specs.Option.{option_copied}
use Rattle.indexmap.specs.IndexMap.{get}
use Rattle.lockpaths.specs.Working.States.{known}
use Rattle.lockpaths.proofs.Walked.{more_nodes, forms_kept, fresh}
use Rattle.lockpaths.proofs.forms.Forms.state.Goals as goal

pub invariant_of-self : goal.invariant_of-self
invariant_of-self c =
    let bounds = c.self.inside.bounds.items in
    forms_kept (known bounds c.self.inside.nodes) (known bounds c.local.new.self) (more_nodes bounds c.self.inside.nodes c.local.new.self c.local.ensures.grown)
    (get nat_eq c.self.inside.states) c.self.invariant

pub invariant_of-self-in-None : goal.invariant_of-self-in-None
invariant_of-self-in-None c =
    let bounds = c.self.inside.bounds.items in
    forms_kept (known bounds c.self.inside.nodes) (known bounds c.local.new.self) (more_nodes bounds c.self.inside.nodes c.local.new.self c.local.ensures.grown)
    (get nat_eq c.self.inside.states) c.self.invariant

pub returns-in_ok-local-in-None-clause-state : goal.returns-in_ok-local-in-None-clause-state
returns-in_ok-local-in-None-clause-state c =
    let bounds = c.self.inside.bounds.items in
    fresh (known bounds c.local.new.self) (get nat_eq c.self.inside.states)
    (forms_kept (known bounds c.self.inside.nodes) (known bounds c.local.new.self) (more_nodes bounds c.self.inside.nodes c.local.new.self c.local.ensures.grown)
    (get nat_eq c.self.inside.states) c.self.invariant)
    c.args.local c.in_ok-local-in-None.field-0 (sym c.get.ensures.value ∙ ap option_copied c.in-None.is) c.in_ok-local-in-None.ensures.node
