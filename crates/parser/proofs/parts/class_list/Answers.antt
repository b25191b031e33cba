use Rattle.std.proofs.Common.{sym, refl}
use Rattle.std.proofs.lemmas.Result.{err_from_is_err_and}
use Rattle.source.specs.declared.token.Sign.TheVariants.{Comma}
use Rattle.source.specs.Tokens.{seen}
use Rattle.syntax.specs.Views.{class_name_of}
use Rattle.parser.specs.Working.Parts.{class_at, class_list_at}
use Rattle.parser.specs.Theory.Readers.{fails_on}
use Rattle.parser.specs.Theory.Loops.{each_goes_on, each_ends, each_stops}
use Rattle.parser.specs.Theory.Shorter.{class_shortens, next_class_shortens, each_less}
use Rattle.parser.proofs.parts.class_list.Goals as goal

pub returns-in_err-next : goal.returns-in_err-next
returns-in_err-next c =
    let p = err_from_is_err_and c.from_residual-in_err-next.result c.from_residual-in_err-next.ensures.1 in
    rw (p.1, p.2) (each_stops class_name_of Comma class_at next_class_shortens c.loop-after.classes.items (seen c.loop-after.rest.now) _ c.in_err-next.field-0.0 (seen c.in-Some.after.now) (sym c.in-Some.ensures) c.in_err-next.ensures c.loop-after.invariant)

pub loop-after-smaller : goal.loop-after-smaller
loop-after-smaller c = each_less Comma class_at class_shortens c.loop-after.rest.now c.in-Some.after.now c.in_ok-next.after.now (class_name_of c.in_ok-next.next) (sym c.in-Some.ensures) c.in_ok-next.ensures

pub loop-after-preserved : goal.loop-after-preserved
loop-after-preserved c =
    rw c.in_ok-push-2.ensures.items (each_goes_on class_name_of Comma class_at next_class_shortens c.loop-after.classes.items (seen c.loop-after.rest.now) _ c.in_ok-next.next (seen c.in-Some.after.now) (seen c.in_ok-next.after.now) (sym c.in-Some.ensures) c.in_ok-next.ensures c.loop-after.invariant)

pub returns : goal.returns
returns c = each_ends class_name_of Comma class_at next_class_shortens c.loop-after.classes.items (seen c.loop-after.rest.now) _ (sym c.in_default.ensures) c.loop-after.invariant

pub returns-in_err-first : goal.returns-in_err-first
unfolding class_list_at
returns-in_err-first c =
    let p = err_from_is_err_and c.from_residual.result c.from_residual.ensures.1 in
    rw (p.1, p.2) (fails_on c.in_err-first.field-0.0 _ _ c.in_err-first.ensures)

pub loop-after-init : goal.loop-after-init
unfolding class_list_at
loop-after-init c = rw (c.in_ok-push.ensures.items, c.new-classes.ensures.items, c.in_ok-first.ensures) refl
