use Rattle.std.proofs.Common.{sym}
use Rattle.std.proofs.lemmas.Result.{err_from_is_err_and}
use Rattle.source.specs.declared.token.Sign.TheVariants.{Colon}
use Rattle.source.specs.Tokens.{seen}
use Rattle.parser.specs.Working.Parts.{type_at}
use Rattle.parser.proofs.Optional.{without_part, part_read, part_stops}
use Rattle.parser.proofs.parts.result_type.Goals as goal

pub returns-in_default : goal.returns-in_default
returns-in_default c = without_part Colon type_at (seen c.args.tokens.now) (sym c.in_default.ensures)

pub returns-in_err-value_type : goal.returns-in_err-value_type
returns-in_err-value_type c =
    let p = err_from_is_err_and c.from_residual.result c.from_residual.ensures.1 in
    rw (p.1, p.2) (part_stops Colon type_at (seen c.args.tokens.now) _ c.in_err-value_type.field-0.0 (sym c.in-Some.ensures) c.in_err-value_type.ensures)

pub returns : goal.returns
returns c = part_read Colon type_at (seen c.args.tokens.now) _ _ _ (sym c.in-Some.ensures) c.in_ok-value_type.ensures
