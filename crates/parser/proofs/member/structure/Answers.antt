use Rattle.std.proofs.Common.{map, refl, ◌-◌}
use Rattle.std.proofs.lemmas.Result.{err_from_is_err_and}
use Rattle.source.specs.declared.token.Sign.TheVariants.{CloseBrace}
use Rattle.source.specs.Tokens.{seen}
use Rattle.syntax.specs.Views.{member_of}
use Rattle.parser.specs.Working.Declarations.{member_at, members_with, struct_at}
use Rattle.parser.specs.Theory.Readers.{fails_on}
use Rattle.parser.proofs.Done.{members_in_some}
use Rattle.parser.specs.Theory.Ended.{ended, unended}
use Rattle.parser.proofs.member.structure.Goals as goal

pub returns : goal.returns
unfolding struct_at
returns c =
    let x2 = ended CloseBrace (members_with (member_at (c.args.room - 1))) (seen c.in_ok-rest.rest.now) c.members.result (λ xs. map member_of xs.items) (λ r. seen r.now) c.in_ok-members.members _ c.members.ensures c.in_ok-members.ensures in
    rw (c.in_ok-name.ensures, c.in_ok-rest.ensures.gives, members_in_some c.args.room c.in_ok-rest.ensures.room, x2.read, x2.sign) refl

pub returns-in_err-name : goal.returns-in_err-name
unfolding struct_at
returns-in_err-name c =
    let p = err_from_is_err_and c.from_residual.result c.from_residual.ensures.1 in
    rw (p.1, p.2) (fails_on c.in_err-name.field-0.0 _ _ c.in_err-name.ensures)

pub returns-in_err-rest : goal.returns-in_err-rest
unfolding struct_at
returns-in_err-rest c =
    let p = err_from_is_err_and c.from_residual-in_err-rest.result c.from_residual-in_err-rest.ensures.1 in
    rw (p.1, p.2, c.in_ok-name.ensures) (fails_on c.in_err-rest.field-0.0 _ _ c.in_err-rest.ensures.gives)

pub returns-in_err-members : goal.returns-in_err-members
unfolding struct_at
returns-in_err-members c =
    let p = err_from_is_err_and c.from_residual-in_err-members.result c.from_residual-in_err-members.ensures.1 in
    rw (p.1, p.2, c.in_ok-name.ensures, c.in_ok-rest.ensures.gives, members_in_some c.args.room c.in_ok-rest.ensures.room) (unended CloseBrace (members_with (member_at (c.args.room - 1))) (seen c.in_ok-rest.rest.now) c.members.result (λ xs. map member_of xs.items) (λ r. seen r.now) c.in_err-members.field-0.0 _ c.members.ensures c.in_err-members.ensures)
