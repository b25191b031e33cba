use Rattle.std.proofs.Common.{ap, ◌∙◌}
use Rattle.parser.specs.Working.Returning.{earlier}
use Rattle.parser.proofs.Least.{stray_of}
use Rattle.parser.proofs.returns.least_stray.Goals as goal

pub returns-in-len1-up : goal.returns-in-len1-up
returns-in-len1-up c = c.earlier.ensures ∙ ap (λ o. earlier o c.inner_return.result) c.least_return.ensures ∙ ap (earlier _) c.inner_return.ensures ∙ stray_of c.args.stmts.now c.last-item.result c.in-len1-up.len_at_least c.last-item.is
