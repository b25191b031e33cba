use Rattle.std.proofs.Common.{ap}
use Rattle.explanations.specs.Names.{reads}
use Rattle.explanations.proofs.Added.{added_as}
use Rattle.explanations.proofs.Seen.{if_parts}
use Rattle.explanations.proofs.names.push_reads.Goals as goal

pub returns-in-If : goal.returns-in-If
returns-in-If c =
    added_as c.push_expr-in-If.result _ _ _ _
    (ap reads (if_parts c.args.stmt.now c.in-If.choice c.deref-in-If.result.now c.in-If.is c.deref-in-If.ensures))
    c.push_expr-in-If.ensures
