use Rattle.std.proofs.Common.{◌∙◌}
use Rattle.parser.proofs.Least.{ends_of}
use Rattle.parser.proofs.returns.ends_in_return.Goals as goal

pub returns-in-len1-up : goal.returns-in-len1-up
returns-in-len1-up c = c.is_return.ensures ∙ ends_of c.args.stmts.now c.last-item.result c.in-len1-up.len_at_least c.last-item.is
