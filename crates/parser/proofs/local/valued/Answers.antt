use Rattle.std.proofs.Common.{refl, sym, ◌∙◌}
use Rattle.std.proofs.lemmas.Result.{err_from_is_err_and}
use Rattle.source.specs.declared.token.Sign.TheVariants.{Semicolon}
use Rattle.source.specs.Tokens.{seen}
use Rattle.syntax.specs.Views.{owner_of}
use Rattle.parser.specs.Working.Reading.{choose}
use Rattle.parser.specs.Working.Statements.{owner_at}
use Rattle.parser.specs.Theory.Readers.{fails_on}
use Rattle.parser.specs.Theory.Ended.{ended, unended}
use Rattle.parser.proofs.local.valued.Goals as goal

pub returns-in_err-value : goal.returns-in_err-value
returns-in_err-value c =
    let p = err_from_is_err_and c.from_residual.result c.from_residual.ensures.1 in
    rw (p.1, p.2) (fails_on c.in_err-value.field-0.0 _ _ c.in_err-value.ensures)

pub returns-in_err-rest : goal.returns-in_err-rest
unfolding choose
returns-in_err-rest c =
    let p = err_from_is_err_and c.from_residual-in_err-rest.result c.from_residual-in_err-rest.ensures.1 in
    rw (p.1, p.2, c.in_ok-value.ensures, sym c.is_word_next.ensures ∙ c.if-not-is_word_next.true) (fails_on c.in_err-rest.field-0.0 _ _ c.in_err-rest.ensures)

pub returns-then-not-is_word_next : goal.returns-then-not-is_word_next
unfolding choose
returns-then-not-is_word_next c =
    rw (c.in_ok-new.ensures.ok, c.with_value-local.ensures, c.in_ok-value.ensures, sym c.is_word_next.ensures ∙ c.if-not-is_word_next.true, c.in_ok-rest.ensures) refl

pub returns-in_err-owner : goal.returns-in_err-owner
unfolding choose
returns-in_err-owner c =
    let p = err_from_is_err_and c.from_residual-in_err-owner.result c.from_residual-in_err-owner.ensures.1 in
    rw (p.1, p.2, c.in_ok-value.ensures, sym c.is_word_next.ensures ∙ c.if-not-is_word_next.false) (unended Semicolon owner_at (seen c.in_ok-value.rest.now) c.owner.result owner_of (λ r. seen r.now) c.in_err-owner.field-0.0 _ c.owner.ensures c.in_err-owner.ensures)

pub returns : goal.returns
unfolding choose
returns c =
    let x0 = ended Semicolon owner_at (seen c.in_ok-value.rest.now) c.owner.result owner_of (λ r. seen r.now) c.in_ok-owner.owner _ c.owner.ensures c.in_ok-owner.ensures in
    rw (c.in_ok-new-2.ensures.ok, c.with_value-local.ensures, c.in_ok-value.ensures, sym c.is_word_next.ensures ∙ c.if-not-is_word_next.false, x0.read, x0.sign) refl
