use Rattle.lockpaths.proofs.Numbered.{same_node}
use Rattle.lockpaths.proofs.nodes.Nodes.is_same.Goals as goal

pub returns : goal.returns
returns c = same_node c.self.inside.steps.keys c.self.invariant c.args.self.now c.self.view_is c.args.a c.args.b c.requires.a c.requires.b
