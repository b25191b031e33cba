use Rattle.parser.proofs.Least.{other_own}
use Rattle.parser.proofs.returns.own_return.Goals as goal

pub returns-in_default : goal.returns-in_default
returns-in_default c = other_own c.args.stmt.now c.in_default.not-Return
