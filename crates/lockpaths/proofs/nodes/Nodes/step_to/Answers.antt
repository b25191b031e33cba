use Rattle.std.proofs.Common.{◌∙◌, ap, sym}
use Rattle.std.specs.Option.{option_copied}
use Rattle.lockpaths.proofs.Numbered.{no_step, step_here}
use Rattle.lockpaths.proofs.nodes.Nodes.step_to.Goals as goal

pub unreachable-requires : goal.unreachable-requires
unreachable-requires c =
    no_step c.self.inside.steps.keys c.args.self.now c.self.view_is c.args.node c.requires (sym c.get_index.ensures.key ∙ ap option_copied c.in-None.is)

pub returns-clause-path : goal.returns-clause-path
returns-clause-path c = step_here c.self.inside.steps.keys c.self.invariant c.args.self.now c.self.view_is c.args.node c.in-Some.step.now c.in-Some.ensures.key
