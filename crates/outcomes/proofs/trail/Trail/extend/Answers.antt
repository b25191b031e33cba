use Rattle.std.proofs.Common.{◌≡◌, ◌≤◌, [], ◌∷◌, suc, length, ap, arith}
use Rattle.outcomes.specs.Working.Trails.{orders_of}
use Rattle.outcomes.proofs.TrailLemmas.{grown_one_more, length-orders, backward_one_more}
use Rattle.outcomes.proofs.trail.Trail.extend.Goals as goal

pub invariant_of-self-2 : goal.invariant_of-self-2
invariant_of-self-2 c =
    let steps = c.self.inside.steps.items in
    let same : length (orders_of steps) ≡ length c.args.self.now = ap length c.self.view_is in
    let long : length (orders_of steps) ≡ suc (length steps) = length-orders steps in
    let within : c.args.order ≤ length steps = omega arith in
    rw c.in_ok-push.ensures.items (backward_one_more steps (record { before = c.args.order; thread = c.args.thread }) c.self.invariant within)

pub returns-clause-ok : goal.returns-clause-ok
returns-clause-ok c =
    let steps = c.self.inside.steps.items in
    rw (c.in_ok-push.ensures.items, ← c.self.view_is) (grown_one_more ([] ∷ []) steps (record { before = c.args.order; thread = c.args.thread }))

pub returns-clause-number : goal.returns-clause-number
returns-clause-number c =
    let steps = c.self.inside.steps.items in
    let same : length (orders_of steps) ≡ length c.args.self.now = ap length c.self.view_is in
    let long : length (orders_of steps) ≡ suc (length steps) = length-orders steps in
    omega (arith, c.in_ok-push.ensures.len)
