use Rattle.std.proofs.Common.{ap, sym, Ok}
use Rattle.source.specs.Tokens.{seen}
use Rattle.syntax.specs.declared.tree.Joined.{Joined}
use Rattle.syntax.specs.Views.{joined_of}
use Rattle.parser.proofs.expr.joined.Goals as goal

pub returns : goal.returns
returns c = ap (λ (o : Joined). Ok (joined_of o, seen c.args.rest.now)) (sym c.in_ok-new.ensures.ok)
