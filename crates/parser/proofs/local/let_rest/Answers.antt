use Rattle.std.proofs.Common.{sym, ◌∙◌}
use Rattle.std.proofs.lemmas.Result.{err_from_is_err_and}
use Rattle.parser.specs.Working.Reading.{choose}
use Rattle.parser.specs.Working.Statements.{let_at}
use Rattle.parser.specs.Theory.Readers.{fails_on}
use Rattle.parser.proofs.local.let_rest.Goals as goal

pub returns-in_err-typed : goal.returns-in_err-typed
unfolding let_at
returns-in_err-typed c =
    let p = err_from_is_err_and c.from_residual.result c.from_residual.ensures.1 in
    rw (p.1, p.2) (fails_on c.in_err-typed.field-0.0 _ _ c.in_err-typed.ensures)

pub returns-then-is_word_next : goal.returns-then-is_word_next
unfolding let_at choose
returns-then-is_word_next c = rw (c.in_ok-typed.ensures, sym c.is_word_next.ensures ∙ c.if-is_word_next.true) c.called.ensures

pub returns : goal.returns
unfolding let_at choose
returns c = rw (c.in_ok-typed.ensures, sym c.is_word_next.ensures ∙ c.if-is_word_next.false) c.valued.ensures
