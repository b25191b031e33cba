use Rattle.std.proofs.Common.{◌≡◌, ◌∙◌, ℕ, List, reverse, ◌<◌, ◌-◌, ◌++◌, [], suc, length, get_or, slice_get, Some}
use Rattle.std.proofs.Common.{ap, sym, refl, arith}
use Rattle.std.proofs.lemmas.Option.{slice_get_read}
use Rattle.outcomes.specs.Working.Trails.{orders_of}
use Rattle.outcomes.proofs.TrailLemmas.{length-orders, first_order, order_at, found_more}
use Rattle.outcomes.proofs.trail.Trail.order.Goals as goal

pub index-step-requires : goal.index-step-requires
index-step-requires c =
    let steps = c.self.inside.steps.items in
    let same : length (orders_of steps) ≡ length c.args.self.now = ap length c.self.view_is in
    let long : length (orders_of steps) ≡ suc (length steps) = length-orders steps in
    let within : c.loop-at.at < length c.args.self.now = c.loop-at.invariant.0 in
    omega arith

pub loop-at-smaller : goal.loop-at-smaller
loop-at-smaller c =
    let steps = c.self.inside.steps.items in
    let same : length (orders_of steps) ≡ length c.args.self.now = ap length c.self.view_is in
    let long : length (orders_of steps) ≡ suc (length steps) = length-orders steps in
    let within : c.loop-at.at < length c.args.self.now = c.loop-at.invariant.0 in
    let inside : c.loop-at.at - 1 < length steps = omega arith in
    let is : slice_get steps (c.loop-at.at - 1) ≡ Some c.index-step.result.now =
    slice_get_read steps (length steps) (c.loop-at.at - 1) c.index-step.result.now refl inside c.index-step.ensures in
    (order_at steps c.loop-at.at c.index-step.result.now c.self.invariant c.loop-at-test.true is).0

pub loop-at-preserved : goal.loop-at-preserved
loop-at-preserved c =
    let steps = c.self.inside.steps.items in
    let same : length (orders_of steps) ≡ length c.args.self.now = ap length c.self.view_is in
    let long : length (orders_of steps) ≡ suc (length steps) = length-orders steps in
    let within : c.loop-at.at < length c.args.self.now = c.loop-at.invariant.0 in
    let inside : c.loop-at.at - 1 < length steps = omega arith in
    let is : slice_get steps (c.loop-at.at - 1) ≡ Some c.index-step.result.now =
    slice_get_read steps (length steps) (c.loop-at.at - 1) c.index-step.result.now refl inside c.index-step.ensures in
    let there = order_at steps c.loop-at.at c.index-step.result.now c.self.invariant c.loop-at-test.true is in
    let smaller : c.index-step.result.now.before < c.loop-at.at = there.0 in
    let order = rw c.self.view_is at there.1 in
    (omega arith, rw c.in_ok-push.ensures.items (found_more _ _ _ c.index-step.result.now.thread c.loop-at.order.items c.loop-at.invariant.1 order))

pub returns : goal.returns
returns c =
    let zero_at : c.loop-at.at ≡ 0 = omega (arith, c.loop-at-test.false) in
    let first = first_order c.self.inside.steps.items in
    c.reverse.ensures.items ∙ sym (c.loop-at.invariant.1 ∙ ap (λ (o : List ℕ). o ++ reverse c.loop-at.order.items) (ap (λ (k : ℕ). get_or c.args.self.now k []) zero_at ∙ ap (λ (v : List (List ℕ)). get_or v 0 []) (sym c.self.view_is) ∙ first))
