use Rattle.std.proofs.Common.{map, refl}
use Rattle.std.proofs.lemmas.Result.{err_from_is_err_and}
use Rattle.source.specs.declared.token.Sign.TheVariants.{CloseParen, Dot}
use Rattle.source.specs.Tokens.{seen}
use Rattle.syntax.specs.Views.{ident}
use Rattle.parser.specs.Working.Reading.{after_each, name_at}
use Rattle.parser.specs.Working.Parts.{protection_at}
use Rattle.parser.specs.Theory.Readers.{fails_on}
use Rattle.parser.specs.Theory.Ended.{ended, unended}
use Rattle.parser.proofs.parts.some_protection.Goals as goal

pub returns : goal.returns
unfolding protection_at
returns c =
    let x3 = ended CloseParen (after_each Dot name_at) (seen c.in_ok-first.after.now) c.names_after_dots.result (λ xs. map ident xs.items) (λ r. seen r.now) c.in_ok-rest.rest _ c.names_after_dots.ensures c.in_ok-rest.ensures in
    rw (c.in_ok-after.ensures, c.in_ok-after-2.ensures.gives, c.in_ok-first.ensures, x3.read, x3.sign) refl

pub returns-in_err-after : goal.returns-in_err-after
unfolding protection_at
returns-in_err-after c =
    let p = err_from_is_err_and c.from_residual.result c.from_residual.ensures.1 in
    rw (p.1, p.2) (fails_on c.in_err-after.field-0.0 _ _ c.in_err-after.ensures)

pub returns-in_err-after-2 : goal.returns-in_err-after-2
unfolding protection_at
returns-in_err-after-2 c =
    let p = err_from_is_err_and c.from_residual-in_err-after-2.result c.from_residual-in_err-after-2.ensures.1 in
    rw (p.1, p.2, c.in_ok-after.ensures) (fails_on c.in_err-after-2.field-0.0 _ _ c.in_err-after-2.ensures.gives)

pub returns-in_err-first : goal.returns-in_err-first
unfolding protection_at
returns-in_err-first c =
    let p = err_from_is_err_and c.from_residual-in_err-first.result c.from_residual-in_err-first.ensures.1 in
    rw (p.1, p.2, c.in_ok-after.ensures, c.in_ok-after-2.ensures.gives) (fails_on c.in_err-first.field-0.0 _ _ c.in_err-first.ensures)

pub returns-in_err-rest : goal.returns-in_err-rest
unfolding protection_at
returns-in_err-rest c =
    let p = err_from_is_err_and c.from_residual-in_err-rest.result c.from_residual-in_err-rest.ensures.1 in
    rw (p.1, p.2, c.in_ok-after.ensures, c.in_ok-after-2.ensures.gives, c.in_ok-first.ensures) (unended CloseParen (after_each Dot name_at) (seen c.in_ok-first.after.now) c.names_after_dots.result (λ xs. map ident xs.items) (λ r. seen r.now) c.in_err-rest.field-0.0 _ c.names_after_dots.ensures c.in_err-rest.ensures)
