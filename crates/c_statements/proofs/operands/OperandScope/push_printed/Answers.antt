use Rattle.std.proofs.Common.{append_assoc}
use Rattle.c_statements.specs.Theory.Chains.{then}
use Rattle.c_statements.proofs.operands.OperandScope.push_printed.Goals as goal

pub returns : goal.returns
returns c =
    then c.push_assigned.result c.push_assigned.ensures (λ e. simp append_assoc (simp (c.in_ok-push_str.ensures.bytes, append_assoc) at e))
