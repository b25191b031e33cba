use Rattle.std.proofs.Common.{ℕ, List, ◌-◌, length, sym, ap, ◌∙◌, arith}
use Rattle.source.specs.declared.token.Token.TheVariants.{End}
use Rattle.lexer.specs.Working.Reading.{seen_kind}
use Rattle.source.specs.Texts.{too_big}
use Rattle.lexer.proofs.Steps.{begun, skip_le, unit_shortens}
use Rattle.lexer.proofs.Ends.{tok_of, none_left, some_left, end_seen, went_on, all_found, all_rise, all_sliced}
use Rattle.lexer.proofs.Ends.{all_only, none_refused, stop_fault, stop_only, stop_refused}
use Rattle.lexer.proofs.First.{less_behind, here_within, behind_within, can_stand}
use Rattle.lexer.proofs.whole.lex.Goals as goal

pub returns-then-text-gt-SOURCE_LIMIT-clause-fault : goal.returns-then-text-gt-SOURCE_LIMIT-clause-fault
returns-then-text-gt-SOURCE_LIMIT-clause-fault c = (rw (c.at.ensures.code, c.at.ensures.start) (too_big (omega arith)), c.at.ensures.detail)

pub tokens-init : goal.tokens-init
tokens-init c = rw c.new-tokens.ensures.items (record { state = begun (length c.args.text.now) c.args.text.now; short = omega arith })

pub returns-then-is_empty-clause-found : goal.returns-then-is_empty-clause-found
returns-then-is_empty-clause-found c =
    let done = none_left c.after_gap-here.result.now c.is_empty.result c.is_empty.ensures c.if-is_empty.true in
    rw c.in_ok-push.ensures.items (all_found c.args.text.now c.tokens.rest.now c.tokens.tokens.items c.tokens.invariant.state (End (length c.args.text.now - length c.after_gap-here.result.now)) (end_seen c.args.text.now c.after_gap-here.result.now done) (sym c.after_gap-here.ensures ∙ done))

pub returns-then-is_empty-clause-rise : goal.returns-then-is_empty-clause-rise
returns-then-is_empty-clause-rise c =
    let done = none_left c.after_gap-here.result.now c.is_empty.result c.is_empty.ensures c.if-is_empty.true in
    rw c.in_ok-push.ensures.items (all_rise c.args.text.now c.tokens.rest.now c.tokens.tokens.items c.tokens.invariant.state (End (length c.args.text.now - length c.after_gap-here.result.now)) (end_seen c.args.text.now c.after_gap-here.result.now done) (sym c.after_gap-here.ensures ∙ done))

pub returns-then-is_empty-clause-slices : goal.returns-then-is_empty-clause-slices
returns-then-is_empty-clause-slices c =
    let done = none_left c.after_gap-here.result.now c.is_empty.result c.is_empty.ensures c.if-is_empty.true in
    rw c.in_ok-push.ensures.items (all_sliced c.args.text.now c.tokens.rest.now c.tokens.tokens.items c.tokens.invariant.state (End (length c.args.text.now - length c.after_gap-here.result.now)) (end_seen c.args.text.now c.after_gap-here.result.now done) (sym c.after_gap-here.ensures ∙ done))

pub returns-then-is_empty-clause-only : goal.returns-then-is_empty-clause-only
returns-then-is_empty-clause-only c = λ ts l h.
    let done = none_left c.after_gap-here.result.now c.is_empty.result c.is_empty.ensures c.if-is_empty.true in
    rw c.in_ok-push.ensures.items (all_only c.args.text.now c.tokens.rest.now c.tokens.tokens.items c.tokens.invariant.state (End (length c.args.text.now - length c.after_gap-here.result.now)) (end_seen c.args.text.now c.after_gap-here.result.now done) (sym c.after_gap-here.ensures ∙ done) ts h)

pub returns-then-is_empty-clause-refused : goal.returns-then-is_empty-clause-refused
returns-then-is_empty-clause-refused c =
    let done = none_left c.after_gap-here.result.now c.is_empty.result c.is_empty.ensures c.if-is_empty.true in
    none_refused c.args.text.now c.tokens.rest.now c.tokens.tokens.items c.tokens.invariant.state (sym c.after_gap-here.ensures ∙ done) (omega arith)

pub returns-in-Err-clause-fault : goal.returns-in-Err-clause-fault
returns-in-Err-clause-fault c =
    let some = some_left c.after_gap-here.result.now c.is_empty.result c.is_empty.ensures c.if-is_empty.false in
    stop_fault c.args.text.now c.tokens.rest.now c.tokens.tokens.items c.tokens.invariant.state (λ e. some (c.after_gap-here.ensures ∙ e)) (omega arith) c.in-Err.stop c.at-in-Err.result (rw c.after_gap-here.ensures at c.in-Err.ensures) (rw c.after_gap-here.ensures at c.at-in-Err.ensures)

pub returns-in-Err-clause-only : goal.returns-in-Err-clause-only
returns-in-Err-clause-only c = λ ts l h.
    let some = some_left c.after_gap-here.result.now c.is_empty.result c.is_empty.ensures c.if-is_empty.false in
    stop_only c.args.text.now c.tokens.rest.now c.tokens.tokens.items c.tokens.invariant.state (λ e. some (c.after_gap-here.ensures ∙ e)) (omega arith) c.in-Err.stop c.at-in-Err.result (rw c.after_gap-here.ensures at c.in-Err.ensures) (rw c.after_gap-here.ensures at c.at-in-Err.ensures) ts h

pub returns-in-Err-clause-refused : goal.returns-in-Err-clause-refused
returns-in-Err-clause-refused c = λ code start h.
    let some = some_left c.after_gap-here.result.now c.is_empty.result c.is_empty.ensures c.if-is_empty.false in
    stop_refused c.args.text.now c.tokens.rest.now c.tokens.tokens.items c.tokens.invariant.state (λ e. some (c.after_gap-here.ensures ∙ e)) (omega arith) c.in-Err.stop c.at-in-Err.result (rw c.after_gap-here.ensures at c.in-Err.ensures) (rw c.after_gap-here.ensures at c.at-in-Err.ensures) code start h

pub tokens-preserved : goal.tokens-preserved
tokens-preserved c = record {
  state = rw c.in_ok-push-2.ensures.items (went_on c.args.text.now c.tokens.rest.now c.tokens.tokens.items c.tokens.invariant.state _ c.in-Ok.token.1.now c.in_ok-token_at.field-0 (rw c.after_gap-here.ensures at c.in-Ok.ensures) (c.in_ok-token_at.ensures ∙ ap (λ (at : List ℕ). tok_of (seen_kind c.in-Ok.token.0) (length c.args.text.now - length at) (length c.args.text.now - length c.in-Ok.token.1.now)) c.after_gap-here.ensures));
  short = omega (arith, unit_shortens c.after_gap-here.result.now _ c.in-Ok.token.1.now c.in-Ok.ensures, skip_le c.tokens.rest.now, ap length c.after_gap-here.ensures);
}

pub tokens-smaller : goal.tokens-smaller
tokens-smaller c = less_behind c.args.text.now c.tokens.rest.now c.after_gap-here.result.now c.after_gap-here.ensures c.tokens.invariant.short (seen_kind c.in-Ok.token.0) c.in-Ok.token.1.now c.in-Ok.ensures

pub overflow_sub-start : goal.overflow_sub-start
overflow_sub-start c = here_within c.args.text.now c.tokens.rest.now c.after_gap-here.result.now c.after_gap-here.ensures c.tokens.invariant.short

pub overflow_sub-end : goal.overflow_sub-end
overflow_sub-end c = behind_within c.args.text.now c.tokens.rest.now c.after_gap-here.result.now c.after_gap-here.ensures c.tokens.invariant.short (seen_kind c.in-Ok.token.0) c.in-Ok.token.1.now c.in-Ok.ensures

pub token_at-requires : goal.token_at-requires
token_at-requires c =
    can_stand c.args.text.now c.tokens.rest.now c.after_gap-here.result.now c.after_gap-here.ensures c.tokens.invariant.short (seen_kind c.in-Ok.token.0) c.in-Ok.token.1.now c.in-Ok.ensures c.if-text-gt-SOURCE_LIMIT.false
