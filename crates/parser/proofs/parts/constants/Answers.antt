use Rattle.std.proofs.Common.{sym, ◌∙◌}
use Rattle.std.proofs.lemmas.Result.{err_from_is_err_and}
use Rattle.source.specs.declared.token.Sign.TheVariants.{Comma}
use Rattle.source.specs.Tokens.{seen}
use Rattle.syntax.specs.Views.{const_of}
use Rattle.parser.specs.Working.Parts.{const_at}
use Rattle.parser.specs.Theory.Loops.{each_goes_on, each_ends, each_stops, none_listed_at, first_stops, first_listed}
use Rattle.parser.specs.Theory.Shorter.{const_shortens, next_const_shortens, each_less}
use Rattle.parser.proofs.parts.constants.Goals as goal

pub returns-in_err-next : goal.returns-in_err-next
returns-in_err-next c =
    let p = err_from_is_err_and c.from_residual-in_err-next.result c.from_residual-in_err-next.ensures.1 in
    rw (p.1, p.2) (each_stops const_of Comma (const_at c.args.room) (next_const_shortens c.args.room) c.loop-after.constants.items (seen c.loop-after.rest.now) _ c.in_err-next.field-0.0 (seen c.in-Some.after.now) (sym c.in-Some.ensures) c.in_err-next.ensures c.loop-after.invariant)

pub loop-after-smaller : goal.loop-after-smaller
loop-after-smaller c = each_less Comma (const_at c.args.room) (const_shortens c.args.room) c.loop-after.rest.now c.in-Some.after.now c.in_ok-next.after.now (const_of c.in_ok-next.next) (sym c.in-Some.ensures) c.in_ok-next.ensures

pub loop-after-preserved : goal.loop-after-preserved
loop-after-preserved c =
    rw c.in_ok-push-2.ensures.items (each_goes_on const_of Comma (const_at c.args.room) (next_const_shortens c.args.room) c.loop-after.constants.items (seen c.loop-after.rest.now) _ c.in_ok-next.next (seen c.in-Some.after.now) (seen c.in_ok-next.after.now) (sym c.in-Some.ensures) c.in_ok-next.ensures c.loop-after.invariant)

pub returns : goal.returns
returns c = each_ends const_of Comma (const_at c.args.room) (next_const_shortens c.args.room) c.loop-after.constants.items (seen c.loop-after.rest.now) _ (sym c.in_default.ensures) c.loop-after.invariant

pub returns-then-is_sign_next : goal.returns-then-is_sign_next
returns-then-is_sign_next c = rw c.new-constants.ensures.items (none_listed_at const_of (const_at c.args.room) (seen c.args.tokens.now) (sym c.is_sign_next.ensures ∙ c.if-is_sign_next.true))

pub returns-in_err-first : goal.returns-in_err-first
returns-in_err-first c =
    let p = err_from_is_err_and c.from_residual.result c.from_residual.ensures.1 in
    rw (p.1, p.2) (first_stops const_of (const_at c.args.room) (seen c.args.tokens.now) c.in_err-first.field-0.0 (sym c.is_sign_next.ensures ∙ c.if-is_sign_next.false) c.in_err-first.ensures)

pub loop-after-init : goal.loop-after-init
loop-after-init c = rw (c.in_ok-push.ensures.items, c.new-constants.ensures.items) (first_listed const_of (const_at c.args.room) (seen c.args.tokens.now) c.in_ok-first.first (seen c.in_ok-first.rest.now) (sym c.is_sign_next.ensures ∙ c.if-is_sign_next.false) c.in_ok-first.ensures)
