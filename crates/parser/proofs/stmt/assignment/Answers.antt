use Rattle.std.proofs.Common.{refl}
use Rattle.std.proofs.lemmas.Result.{err_from_is_err_and}
use Rattle.source.specs.declared.token.Sign.TheVariants.{Equals}
use Rattle.source.specs.Tokens.{seen}
use Rattle.syntax.specs.Views.{ident, place_of}
use Rattle.parser.specs.Working.Statements.{assign_at}
use Rattle.parser.specs.Working.Expressions.{inside_at, place_at}
use Rattle.parser.specs.Theory.Readers.{fails_on}
use Rattle.parser.specs.Theory.Ended.{ended, unended}
use Rattle.parser.proofs.stmt.assignment.Goals as goal

pub returns : goal.returns
unfolding assign_at
returns c =
    let x0 = ended Equals (place_at c.args.room (inside_at c.args.room) (ident c.args.name)) (seen c.args.tokens.now) c.place.result place_of (λ r. seen r.now) c.in_ok-place.place _ c.place.ensures c.in_ok-place.ensures in
    rw (x0.read, x0.sign, c.in_ok-value.ensures) refl

pub returns-in_err-place : goal.returns-in_err-place
unfolding assign_at
returns-in_err-place c =
    let p = err_from_is_err_and c.from_residual.result c.from_residual.ensures.1 in
    rw (p.1, p.2) (unended Equals (place_at c.args.room (inside_at c.args.room) (ident c.args.name)) (seen c.args.tokens.now) c.place.result place_of (λ r. seen r.now) c.in_err-place.field-0.0 _ c.place.ensures c.in_err-place.ensures)

pub returns-in_err-value : goal.returns-in_err-value
unfolding assign_at
returns-in_err-value c =
    let x0 = ended Equals (place_at c.args.room (inside_at c.args.room) (ident c.args.name)) (seen c.args.tokens.now) c.place.result place_of (λ r. seen r.now) c.in_ok-place.place _ c.place.ensures c.in_ok-place.ensures in
    let p = err_from_is_err_and c.from_residual-in_err-value.result c.from_residual-in_err-value.ensures.1 in
    rw (p.1, p.2, x0.read, x0.sign) (fails_on c.in_err-value.field-0.0 _ _ c.in_err-value.ensures)
