use Rattle.std.proofs.Common.{refl}
use Rattle.std.proofs.lemmas.Result.{err_from_is_err_and}
use Rattle.parser.specs.Working.Declarations.{lock_member_at}
use Rattle.parser.specs.Theory.Readers.{fails_on}
use Rattle.parser.proofs.member.lock_member.Goals as goal

pub returns : goal.returns
unfolding lock_member_at
returns c =
    rw (c.in_ok-rest.ensures, c.in_ok-name.ensures) refl

pub returns-in_err-rest : goal.returns-in_err-rest
unfolding lock_member_at
returns-in_err-rest c =
    let p = err_from_is_err_and c.from_residual.result c.from_residual.ensures.1 in
    rw (p.1, p.2) (fails_on c.in_err-rest.field-0.0 _ _ c.in_err-rest.ensures)

pub returns-in_err-name : goal.returns-in_err-name
unfolding lock_member_at
returns-in_err-name c =
    let p = err_from_is_err_and c.from_residual-in_err-name.result c.from_residual-in_err-name.ensures.1 in
    rw (p.1, p.2, c.in_ok-rest.ensures) (fails_on c.in_err-name.field-0.0 _ _ c.in_err-name.ensures)
