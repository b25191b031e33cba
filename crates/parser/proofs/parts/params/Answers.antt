use Rattle.source.specs.declared.token.Sign.TheVariants.{CloseParen}
use Rattle.source.specs.Tokens.{seen}
use Rattle.std.proofs.Common.{map}
use Rattle.syntax.specs.Views.{param_of}
use Rattle.parser.specs.Working.Reading.{listed_at}
use Rattle.parser.specs.Working.Parts.{params_at, param_at}
use Rattle.std.proofs.lemmas.Result.{err_from_is_err_and}
use Rattle.parser.specs.Theory.Readers.{fails_on}
use Rattle.parser.specs.Theory.Ended.{ended_gives}
use Rattle.parser.proofs.parts.params.Goals as goal

pub returns : goal.returns
unfolding params_at
returns c = rw c.in_ok-rest.ensures.gives (ended_gives CloseParen (listed_at param_at) (seen c.in_ok-rest.rest.now) c.param_list.result (λ xs. map param_of xs.items) (λ r. seen r.now) c.ended_by.result c.param_list.ensures c.ended_by.ensures)

pub returns-in_err-rest : goal.returns-in_err-rest
unfolding params_at
returns-in_err-rest c =
    let p = err_from_is_err_and c.from_residual.result c.from_residual.ensures.1 in
    rw (p.1, p.2) (fails_on c.in_err-rest.field-0.0 _ _ c.in_err-rest.ensures.gives)
