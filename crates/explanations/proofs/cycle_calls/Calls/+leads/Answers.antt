use Rattle.std.proofs.Common.{◌≡◌, ◌∙◌, ◌-◌, List, suc, ap, arith, length, map, refl, rules, sym}
use Rattle.std.proofs.lemmas.List.{take_all}
use Rattle.std.proofs.lemmas.Option.{slice_get_read}
use Rattle.std.specs.List.{list_any}
use Rattle.std.specs.Prelude.{slice_get}
use Rattle.core_lang.specs.declared.tree.Section.{Section}
use Rattle.flow.specs.Working.PointList.{point_at}
use Rattle.explanations.specs.CycleCalls.{leads}
use Rattle.explanations.proofs.Leading.{any_at, led_by_start, led_by_call, not_led}
use Rattle.explanations.proofs.cycle_calls.Calls.+leads.Goals as goal

pub returns-then-starts_in : goal.returns-then-starts_in
returns-then-starts_in t c =
    let program = c.args.self.now.program.now in
    let some : c.args.depth ≡ suc (c.args.depth - 1) = omega (arith, c.if-depth-eq0.false) in
    let found = c.in-Some-get.ensures.lookup in
    let there = ap (λ (xs : List Section). slice_get xs c.in-Some.number) (sym c.deref.ensures.value)
    ∙ slice_get_read c.deref.result.now (length c.deref.result.now) c.in-Some.number c.in-Some-get.helper.now refl found.3.0 found.1 in
    sym (ap (λ n. leads program n c.args.at (point_at c.args.point)) some
    ∙ led_by_start program c.args.at (point_at c.args.point) c.in-Some.number c.in-Some-get.helper.now (search rules) there
    (c.args.depth - 1) (map point_at c.in_ok-points.points.items) c.in_ok-points.ensures (search rules))

pub returns-then-branch : goal.returns-then-branch
returns-then-branch t c =
    let program = c.args.self.now.program.now in
    let some : c.args.depth ≡ suc (c.args.depth - 1) = omega (arith, c.if-depth-eq0.false) in
    let found = c.in-Some-get.ensures.lookup in
    let there = ap (λ (xs : List Section). slice_get xs c.in-Some.number) (sym c.deref.ensures.value)
    ∙ slice_get_read c.deref.result.now (length c.deref.result.now) c.in-Some.number c.in-Some-get.helper.now refl found.3.0 found.1 in
    sym (ap (λ n. leads program n c.args.at (point_at c.args.point)) some
    ∙ led_by_call program c.args.at (point_at c.args.point) c.in-Some.number c.in-Some-get.helper.now (search rules) there
    (c.args.depth - 1) (map point_at c.deref-inner-items.result.now) (ap (map point_at) c.deref-inner-items.ensures.value ∙ c.in_ok-points.ensures)
    (any_at point_at (leads program (c.args.depth - 1) c.args.at) c.deref-inner-items.result.now c.loop-inner.inner-index c.inner-item.result
    (slice_get_read c.deref-inner-items.result.now (length c.deref-inner-items.result.now) c.loop-inner.inner-index c.inner-item.result refl c.loop-inner-test.true c.inner-item.is)
    (search rules)))

pub returns : goal.returns
returns t c =
    let program = c.args.self.now.program.now in
    let some : c.args.depth ≡ suc (c.args.depth - 1) = omega (arith, c.if-depth-eq0.false) in
    let found = c.in-Some-get.ensures.lookup in
    let there = ap (λ (xs : List Section). slice_get xs c.in-Some.number) (sym c.deref.ensures.value)
    ∙ slice_get_read c.deref.result.now (length c.deref.result.now) c.in-Some.number c.in-Some-get.helper.now refl found.3.0 found.1 in
    sym (ap (λ n. leads program n c.args.at (point_at c.args.point)) some
    ∙ not_led program c.args.at (point_at c.args.point) c.in-Some.number c.in-Some-get.helper.now (search rules) there
    (c.args.depth - 1) (map point_at c.deref-inner-items.result.now) (ap (map point_at) c.deref-inner-items.ensures.value ∙ c.in_ok-points.ensures) (search rules)
    (ap (λ l. list_any (leads program (c.args.depth - 1) c.args.at) (map point_at l))
    (sym (take_all c.loop-inner.inner-index c.deref-inner-items.result.now c.loop-inner-test.false)) ∙ c.loop-inner.invariant))
