use Rattle.std.proofs.Common.{append_assoc}
use Rattle.c_statements.specs.Theory.Chains.{then}
use Rattle.c_statements.proofs.operands.OperandScope.push_condition.Goals as goal

pub returns-in-IsLeast : goal.returns-in-IsLeast
returns-in-IsLeast c = rw c.in-IsLeast.is c.push_tested-in-IsLeast.ensures

pub returns-in_ok-push_tested-in-IsLeastByMinusOne : goal.returns-in_ok-push_tested-in-IsLeastByMinusOne
returns-in_ok-push_tested-in-IsLeastByMinusOne c =
    rw c.in-IsLeastByMinusOne.is
    (then c.push_tested-in-IsLeastByMinusOne-2.result c.push_tested-in-IsLeastByMinusOne-2.ensures
    (λ e. simp append_assoc (simp (c.in_ok-push_tested-in-IsLeastByMinusOne.ensures, append_assoc) at e)))
