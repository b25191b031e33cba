use Rattle.std.proofs.Common.{sym}
use Rattle.std.proofs.lemmas.Result.{err_from_is_err_and}
use Rattle.source.specs.declared.token.Sign.TheVariants.{Dot}
use Rattle.source.specs.Tokens.{seen}
use Rattle.syntax.specs.Views.{ident}
use Rattle.parser.specs.Working.Reading.{name_at}
use Rattle.parser.specs.Theory.Loops.{each_goes_on, each_ends, each_stops}
use Rattle.parser.specs.Theory.Shorter.{name_shortens, next_name_shortens, each_less}
use Rattle.parser.proofs.parts.names_after_dots.Goals as goal

pub returns-in_err-next : goal.returns-in_err-next
returns-in_err-next c =
    let p = err_from_is_err_and c.from_residual.result c.from_residual.ensures.1 in
    rw (p.1, p.2) (each_stops ident Dot name_at next_name_shortens c.loop-after.names.items (seen c.loop-after.rest.now) _ c.in_err-next.field-0.0 (seen c.in-Some.after.now) (sym c.in-Some.ensures) c.in_err-next.ensures c.loop-after.invariant)

pub loop-after-smaller : goal.loop-after-smaller
loop-after-smaller c = each_less Dot name_at name_shortens c.loop-after.rest.now c.in-Some.after.now c.in_ok-next.after.now (ident c.in_ok-next.next) (sym c.in-Some.ensures) c.in_ok-next.ensures

pub loop-after-preserved : goal.loop-after-preserved
loop-after-preserved c =
    rw c.in_ok-push.ensures.items (each_goes_on ident Dot name_at next_name_shortens c.loop-after.names.items (seen c.loop-after.rest.now) _ c.in_ok-next.next (seen c.in-Some.after.now) (seen c.in_ok-next.after.now) (sym c.in-Some.ensures) c.in_ok-next.ensures c.loop-after.invariant)

pub returns : goal.returns
returns c = each_ends ident Dot name_at next_name_shortens c.loop-after.names.items (seen c.loop-after.rest.now) _ (sym c.in_default.ensures) c.loop-after.invariant
