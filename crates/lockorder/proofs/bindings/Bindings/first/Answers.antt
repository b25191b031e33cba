use Rattle.std.proofs.Common.{ℕ, ◌<◌, length, sym, subst, arith}
use Rattle.std.proofs.lemmas.Bool.{both_ways}
use Rattle.lockorder.proofs.Bound.{first_found, none_found, none_more, roots_within}
use Rattle.lockorder.proofs.bindings.Bindings.first.Goals as goal

pub loop-i-preserved : goal.loop-i-preserved
loop-i-preserved c =
    let b = c.args.self.now in
    let lt : c.loop-i.i < length b.list.items = omega (arith, c.loop-i-test.true, c.len-i-end.ensures, b.list.ok.0) in
    none_more b.points.now c.args.class c.paths_of-roots.result c.paths_of-roots.ensures c.args.point b.list.items c.requires.bindings.listed c.loop-i.i c.index-bound.result.now
    lt c.index-bound.ensures c.loop-i.invariant (λ h. both_ways c.is_for.result c.if-is_for.false (c.is_for.ensures.1 h))

pub returns : goal.returns
returns c =
    let b = c.args.self.now in
    none_found b.points.now c.args.class c.paths_of-roots.result c.paths_of-roots.ensures c.args.point b.list.items c.requires.bindings.listed c.loop-i.i
    (omega (arith, c.loop-i-test.false, c.len-i-end.ensures, b.list.ok.0)) c.loop-i.invariant

pub returns-then-is_for : goal.returns-then-is_for
returns-then-is_for c =
    let b = c.args.self.now in
    let lt : c.loop-i.i < length b.list.items = omega (arith, c.loop-i-test.true, c.len-i-end.ensures, b.list.ok.0) in
    first_found b.points.now c.args.class c.paths_of-roots.result c.paths_of-roots.ensures c.args.point b.list.items c.requires.bindings.listed c.loop-i.i
    c.index-bound.result.now lt c.index-bound.ensures c.loop-i.invariant (c.is_for.ensures.0 c.if-is_for.true)

pub is_for-requires-clause-roots : goal.is_for-requires-clause-roots
is_for-requires-clause-roots c =
    roots_within c.args.self.now.points.now c.args.class c.paths_of-roots.result c.paths_of-roots.ensures c.args.point

pub is_for-requires-clause-bound : goal.is_for-requires-clause-bound
is_for-requires-clause-bound c =
    let b = c.args.self.now in
    let lt : c.loop-i.i < length b.list.items = omega (arith, c.loop-i-test.true, c.len-i-end.ensures, b.list.ok.0) in
    subst (λ (n : ℕ). n < length b.points.now.bound.items) (sym c.index-bound.ensures) (c.requires.bindings.listed.within c.loop-i.i c.index-bound.result.now lt)
