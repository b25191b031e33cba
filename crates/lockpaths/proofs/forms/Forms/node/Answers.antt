use Rattle.std.proofs.Common.{[], sym, subst}
use Rattle.lockpaths.specs.declared.form.WalkState.{WalkState}
use Rattle.lockpaths.specs.Working.Nodes.{IsNodeOf}
use Rattle.lockpaths.specs.Working.States.{reads, IsState}
use Rattle.lockpaths.proofs.Walked.{node_here}
use Rattle.lockpaths.proofs.forms.Forms.node.Goals as goal

pub returns-in-Node : goal.returns-in-Node
returns-in-Node c =
    let f = c.args.self.now in
    subst (λ (s : WalkState). IsNodeOf f.paths (reads f s []) c.in-Node.node) (sym c.in-Node.is)
    (node_here f c.in-Node.node (subst (IsState f) c.in-Node.is c.requires))
