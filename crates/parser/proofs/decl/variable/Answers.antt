use Rattle.std.proofs.lemmas.Result.{err_from_is_err_and}
use Rattle.source.specs.declared.token.Sign.TheVariants.{Equals, Semicolon}
use Rattle.source.specs.Tokens.{mark, seen}
use Rattle.syntax.specs.Views.{const_of, option_of, type_of, ident}
use Rattle.parser.specs.Working.Reading.{after_at, maybe_at}
use Rattle.parser.specs.Working.Parts.{const_at}
use Rattle.parser.specs.Working.Declarations.{variable_at}
use Rattle.parser.specs.Theory.Readers.{fails_on}
use Rattle.parser.specs.Theory.Ended.{ended, unended}
use Rattle.parser.proofs.Done.{variable_done}
use Rattle.parser.proofs.decl.variable.Goals as goal

pub returns : goal.returns
returns c =
    let x1 = ended Semicolon (maybe_at (mark Equals) (after_at Equals (const_at c.args.room))) (seen c.in_ok-protection.rest.now) c.opening_value.result (option_of const_of) (λ r. seen r.now) c.in_ok-value.value _ c.opening_value.ensures c.in_ok-value.ensures in
    variable_done (seen c.args.tokens.now) c.args.room (type_of c.args.value_type) (ident c.args.name) c.in_ok-protection.ensures x1.read x1.sign

pub returns-in_err-protection : goal.returns-in_err-protection
unfolding variable_at
returns-in_err-protection c =
    let p = err_from_is_err_and c.from_residual.result c.from_residual.ensures.1 in
    rw (p.1, p.2) (fails_on c.in_err-protection.field-0.0 _ _ c.in_err-protection.ensures)

pub returns-in_err-value : goal.returns-in_err-value
unfolding variable_at
returns-in_err-value c =
    let p = err_from_is_err_and c.from_residual-in_err-value.result c.from_residual-in_err-value.ensures.1 in
    rw (p.1, p.2, c.in_ok-protection.ensures) (unended Semicolon (maybe_at (mark Equals) (after_at Equals (const_at c.args.room))) (seen c.in_ok-protection.rest.now) c.opening_value.result (option_of const_of) (λ r. seen r.now) c.in_err-value.field-0.0 _ c.opening_value.ensures c.in_err-value.ensures)
