use Rattle.std.proofs.Common.{◌∙◌}
use Rattle.types_symbols.proofs.Sums.{product_is}
use Rattle.types_symbols.proofs.totals.times.Goals as goal

pub returns-clause-product : goal.returns-clause-product
returns-clause-product c = c.min.ensures ∙ product_is c.args.limit c.args.a c.args.b c.cap-first.result c.cap-second.result c.cap-first.ensures c.cap-second.ensures
