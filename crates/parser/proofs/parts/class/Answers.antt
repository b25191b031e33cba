use Rattle.std.proofs.Common.{refl}
use Rattle.std.proofs.lemmas.Result.{err_from_is_err_and}
use Rattle.source.specs.declared.token.Sign.TheVariants.{Dot}
use Rattle.source.specs.Tokens.{seen}
use Rattle.syntax.specs.Views.{ident}
use Rattle.parser.specs.Working.Reading.{name_at}
use Rattle.parser.specs.Working.Parts.{class_at}
use Rattle.parser.specs.Theory.Readers.{fails_on}
use Rattle.parser.specs.Theory.Ended.{ended, unended}
use Rattle.parser.proofs.parts.class.Goals as goal

pub returns : goal.returns
unfolding class_at
returns c =
    let x = ended Dot name_at (seen c.args.tokens.now) c.take_name.result ident (λ r. seen r.now) c.in_ok-structure.structure _ c.take_name.ensures c.in_ok-structure.ensures in
    rw (x.read, x.sign, c.in_ok-lock.ensures) refl

pub returns-in_err-structure : goal.returns-in_err-structure
unfolding class_at
returns-in_err-structure c =
    let p = err_from_is_err_and c.from_residual.result c.from_residual.ensures.1 in
    rw (p.1, p.2) (unended Dot name_at (seen c.args.tokens.now) c.take_name.result ident (λ r. seen r.now) c.in_err-structure.field-0.0 _ c.take_name.ensures c.in_err-structure.ensures)

pub returns-in_err-lock : goal.returns-in_err-lock
unfolding class_at
returns-in_err-lock c =
    let x = ended Dot name_at (seen c.args.tokens.now) c.take_name.result ident (λ r. seen r.now) c.in_ok-structure.structure _ c.take_name.ensures c.in_ok-structure.ensures in
    let p = err_from_is_err_and c.from_residual-in_err-lock.result c.from_residual-in_err-lock.ensures.1 in
    rw (p.1, p.2, x.read, x.sign) (fails_on c.in_err-lock.field-0.0 _ _ c.in_err-lock.ensures)
