use Rattle.lexer.proofs.First.{double_taken}
use Rattle.lexer.proofs.unit.sign.Goals as goal

pub returns-in-Some : goal.returns-in-Some
returns-in-Some c = double_taken c.args.first c.args.rest.now c.in-Some.sign c.in-len1-up.len_at_least c.in-Some.ensures
