use Rattle.source.specs.declared.token.Sign.TheVariants.{Semicolon}
use Rattle.source.specs.Tokens.{seen}
use Rattle.syntax.specs.Views.{ident}
use Rattle.parser.specs.Working.Reading.{name_at}
use Rattle.parser.specs.Working.Declarations.{lock_at}
use Rattle.parser.specs.Theory.Ended.{ended_gives}
use Rattle.parser.proofs.member.lock.Goals as goal

pub returns : goal.returns
unfolding lock_at
returns c = ended_gives Semicolon name_at (seen c.args.tokens.now) c.take_name.result ident (λ r. seen r.now) c.ended_by.result c.take_name.ensures c.ended_by.ensures
