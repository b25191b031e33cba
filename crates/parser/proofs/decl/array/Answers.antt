use Rattle.std.proofs.lemmas.Result.{err_from_is_err_and}
use Rattle.source.specs.declared.token.Sign.TheVariants.{Semicolon}
use Rattle.source.specs.Tokens.{seen}
use Rattle.syntax.specs.Views.{option_of, protection_of, type_of, ident}
use Rattle.parser.specs.Working.Declarations.{array_at}
use Rattle.parser.specs.Working.Parts.{maybe_protection}
use Rattle.parser.specs.Theory.Readers.{fails_on}
use Rattle.parser.specs.Theory.Ended.{ended, unended}
use Rattle.parser.proofs.Done.{array_done}
use Rattle.parser.proofs.decl.array.Goals as goal

pub returns : goal.returns
returns c =
    let x1 = ended Semicolon (maybe_protection c.args.room) (seen c.in_ok-length.rest.now) c.protection.result (option_of protection_of) (λ r. seen r.now) c.in_ok-protection.protection _ c.protection.ensures c.in_ok-protection.ensures in
    array_done (seen c.args.tokens.now) c.args.room (type_of c.args.value_type) (ident c.args.name) c.in_ok-length.ensures x1.read x1.sign

pub returns-in_err-length : goal.returns-in_err-length
unfolding array_at
returns-in_err-length c =
    let p = err_from_is_err_and c.from_residual.result c.from_residual.ensures.1 in
    rw (p.1, p.2) (fails_on c.in_err-length.field-0.0 _ _ c.in_err-length.ensures)

pub returns-in_err-protection : goal.returns-in_err-protection
unfolding array_at
returns-in_err-protection c =
    let p = err_from_is_err_and c.from_residual-in_err-protection.result c.from_residual-in_err-protection.ensures.1 in
    rw (p.1, p.2, c.in_ok-length.ensures) (unended Semicolon (maybe_protection c.args.room) (seen c.in_ok-length.rest.now) c.protection.result (option_of protection_of) (λ r. seen r.now) c.in_err-protection.field-0.0 _ c.protection.ensures c.in_err-protection.ensures)
