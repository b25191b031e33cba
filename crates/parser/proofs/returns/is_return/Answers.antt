use Rattle.parser.proofs.Least.{other_returns}
use Rattle.parser.proofs.returns.is_return.Goals as goal

pub returns-in_default : goal.returns-in_default
returns-in_default c = other_returns c.args.stmt.now c.in_default.not-Return
