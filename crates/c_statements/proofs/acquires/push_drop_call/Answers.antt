use Rattle.std.proofs.Common.{append_assoc}
use Rattle.c_statements.specs.Theory.Chains.{then}
use Rattle.c_statements.proofs.acquires.push_drop_call.Goals as goal

pub returns : goal.returns
returns c = then c.write.result c.write.ensures.bytes (λ e. simp append_assoc e)
