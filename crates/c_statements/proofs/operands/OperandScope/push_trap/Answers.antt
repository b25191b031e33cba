use Rattle.std.proofs.Common.{append_assoc}
use Rattle.c_statements.specs.Theory.Chains.{then}
use Rattle.c_statements.proofs.operands.OperandScope.push_trap.Goals as goal

pub returns : goal.returns
returns c =
    then c.write.result c.write.ensures.bytes
    (λ e. simp append_assoc (simp (c.in_ok-push_test.ensures, c.in_ok-push_str.ensures.bytes, c.number-number.ensures, append_assoc) at e))
