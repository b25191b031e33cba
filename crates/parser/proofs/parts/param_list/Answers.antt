use Rattle.std.proofs.Common.{sym, ◌∙◌}
use Rattle.std.proofs.lemmas.Result.{err_from_is_err_and}
use Rattle.source.specs.declared.token.Sign.TheVariants.{Comma}
use Rattle.source.specs.Tokens.{seen}
use Rattle.syntax.specs.Views.{param_of}
use Rattle.parser.specs.Working.Parts.{param_at}
use Rattle.parser.specs.Theory.Loops.{each_goes_on, each_ends, each_stops, none_listed_at, first_stops, first_listed}
use Rattle.parser.specs.Theory.Shorter.{param_shortens, next_param_shortens, each_less}
use Rattle.parser.proofs.parts.param_list.Goals as goal

pub returns-in_err-next : goal.returns-in_err-next
returns-in_err-next c =
    let p = err_from_is_err_and c.from_residual-in_err-next.result c.from_residual-in_err-next.ensures.1 in
    rw (p.1, p.2) (each_stops param_of Comma param_at next_param_shortens c.loop-after.params.items (seen c.loop-after.rest.now) _ c.in_err-next.field-0.0 (seen c.in-Some.after.now) (sym c.in-Some.ensures) c.in_err-next.ensures c.loop-after.invariant)

pub loop-after-smaller : goal.loop-after-smaller
loop-after-smaller c = each_less Comma param_at param_shortens c.loop-after.rest.now c.in-Some.after.now c.in_ok-next.after.now (param_of c.in_ok-next.next) (sym c.in-Some.ensures) c.in_ok-next.ensures

pub loop-after-preserved : goal.loop-after-preserved
loop-after-preserved c =
    rw c.in_ok-push-2.ensures.items (each_goes_on param_of Comma param_at next_param_shortens c.loop-after.params.items (seen c.loop-after.rest.now) _ c.in_ok-next.next (seen c.in-Some.after.now) (seen c.in_ok-next.after.now) (sym c.in-Some.ensures) c.in_ok-next.ensures c.loop-after.invariant)

pub returns : goal.returns
returns c = each_ends param_of Comma param_at next_param_shortens c.loop-after.params.items (seen c.loop-after.rest.now) _ (sym c.in_default.ensures) c.loop-after.invariant

pub returns-then-is_sign_next : goal.returns-then-is_sign_next
returns-then-is_sign_next c = rw c.new-params.ensures.items (none_listed_at param_of param_at (seen c.args.tokens.now) (sym c.is_sign_next.ensures ∙ c.if-is_sign_next.true))

pub returns-in_err-first : goal.returns-in_err-first
returns-in_err-first c =
    let p = err_from_is_err_and c.from_residual.result c.from_residual.ensures.1 in
    rw (p.1, p.2) (first_stops param_of param_at (seen c.args.tokens.now) c.in_err-first.field-0.0 (sym c.is_sign_next.ensures ∙ c.if-is_sign_next.false) c.in_err-first.ensures)

pub loop-after-init : goal.loop-after-init
loop-after-init c = rw (c.in_ok-push.ensures.items, c.new-params.ensures.items) (first_listed param_of param_at (seen c.args.tokens.now) c.in_ok-first.first (seen c.in_ok-first.rest.now) (sym c.is_sign_next.ensures ∙ c.if-is_sign_next.false) c.in_ok-first.ensures)
