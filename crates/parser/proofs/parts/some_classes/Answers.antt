use Rattle.source.specs.declared.token.Sign.TheVariants.{CloseParen}
use Rattle.source.specs.Tokens.{seen}
use Rattle.std.proofs.Common.{map}
use Rattle.syntax.specs.Views.{class_name_of}
use Rattle.parser.specs.Working.Parts.{whole_at, class_list_at}
use Rattle.std.proofs.lemmas.Result.{err_from_is_err_and}
use Rattle.parser.specs.Theory.Readers.{fails_on}
use Rattle.parser.specs.Theory.Ended.{ended_gives}
use Rattle.parser.proofs.parts.some_classes.Goals as goal

pub returns : goal.returns
unfolding whole_at
returns c = rw (c.in_ok-rest.ensures, c.in_ok-rest-2.ensures.gives) (ended_gives CloseParen class_list_at (seen c.in_ok-rest-2.rest.now) c.class_list.result (λ xs. map class_name_of xs.items) (λ r. seen r.now) c.ended_by.result c.class_list.ensures c.ended_by.ensures)

pub returns-in_err-rest : goal.returns-in_err-rest
unfolding whole_at
returns-in_err-rest c =
    let p = err_from_is_err_and c.from_residual.result c.from_residual.ensures.1 in
    rw (p.1, p.2) (fails_on c.in_err-rest.field-0.0 _ _ c.in_err-rest.ensures)

pub returns-in_err-rest-2 : goal.returns-in_err-rest-2
unfolding whole_at
returns-in_err-rest-2 c =
    let p = err_from_is_err_and c.from_residual-in_err-rest-2.result c.from_residual-in_err-rest-2.ensures.1 in
    rw (p.1, p.2, c.in_ok-rest.ensures) (fails_on c.in_err-rest-2.field-0.0 _ _ c.in_err-rest-2.ensures.gives)
