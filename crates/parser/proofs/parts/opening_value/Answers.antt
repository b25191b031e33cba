use Rattle.std.proofs.Common.{sym}
use Rattle.std.proofs.lemmas.Result.{err_from_is_err_and}
use Rattle.source.specs.declared.token.Sign.TheVariants.{Equals}
use Rattle.source.specs.Tokens.{seen}
use Rattle.parser.specs.Working.Parts.{const_at}
use Rattle.parser.proofs.Optional.{without_part, part_read, part_stops}
use Rattle.parser.proofs.parts.opening_value.Goals as goal

pub returns-in_default : goal.returns-in_default
returns-in_default c = without_part Equals (const_at c.args.room) (seen c.args.tokens.now) (sym c.in_default.ensures)

pub returns-in_err-value : goal.returns-in_err-value
returns-in_err-value c =
    let p = err_from_is_err_and c.from_residual.result c.from_residual.ensures.1 in
    rw (p.1, p.2) (part_stops Equals (const_at c.args.room) (seen c.args.tokens.now) _ c.in_err-value.field-0.0 (sym c.in-Some.ensures) c.in_err-value.ensures)

pub returns : goal.returns
returns c = part_read Equals (const_at c.args.room) (seen c.args.tokens.now) _ _ _ (sym c.in-Some.ensures) c.in_ok-value.ensures
