use Rattle.std.proofs.Common.{refl}
use Rattle.std.proofs.lemmas.Result.{err_from_is_err_and}
use Rattle.source.specs.declared.token.Sign.TheVariants.{Colon, Equals}
use Rattle.source.specs.Tokens.{seen}
use Rattle.syntax.specs.Views.{ident, type_of}
use Rattle.parser.specs.Working.Reading.{name_at}
use Rattle.parser.specs.Working.Parts.{type_at}
use Rattle.parser.specs.Working.Statements.{typed_at}
use Rattle.parser.specs.Theory.Ended.{ended, unended}
use Rattle.parser.proofs.local.typed.Goals as goal

pub returns : goal.returns
unfolding typed_at
returns c =
    let x0 = ended Colon name_at (seen c.args.tokens.now) c.take_name.result ident (λ r. seen r.now) c.in_ok-name.name _ c.take_name.ensures c.in_ok-name.ensures in
    let x1 = ended Equals type_at (seen c.in_ok-name.rest.now) c.value_type.result type_of (λ r. seen r.now) c.in_ok-value_type.value_type _ c.value_type.ensures c.in_ok-value_type.ensures in
    rw (x0.read, x0.sign, x1.read, x1.sign) refl

pub returns-in_err-name : goal.returns-in_err-name
unfolding typed_at
returns-in_err-name c =
    let p = err_from_is_err_and c.from_residual.result c.from_residual.ensures.1 in
    rw (p.1, p.2) (unended Colon name_at (seen c.args.tokens.now) c.take_name.result ident (λ r. seen r.now) c.in_err-name.field-0.0 _ c.take_name.ensures c.in_err-name.ensures)

pub returns-in_err-value_type : goal.returns-in_err-value_type
unfolding typed_at
returns-in_err-value_type c =
    let x0 = ended Colon name_at (seen c.args.tokens.now) c.take_name.result ident (λ r. seen r.now) c.in_ok-name.name _ c.take_name.ensures c.in_ok-name.ensures in
    let p = err_from_is_err_and c.from_residual-in_err-value_type.result c.from_residual-in_err-value_type.ensures.1 in
    rw (p.1, p.2, x0.read, x0.sign) (unended Equals type_at (seen c.in_ok-name.rest.now) c.value_type.result type_of (λ r. seen r.now) c.in_err-value_type.field-0.0 _ c.value_type.ensures c.in_err-value_type.ensures)
