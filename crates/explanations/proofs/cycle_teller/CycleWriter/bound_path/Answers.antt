use Rattle.std.proofs.Common.{length, arith, subst, ◌≤◌, ◌<◌, ℕ}
use Rattle.flow.specs.Working.PointList.{point_at}
use Rattle.explanations.specs.Working.Tellers.{BeginsAt}
use Rattle.explanations.proofs.Found.{bound_found}
use Rattle.explanations.proofs.cycle_teller.CycleWriter.bound_path.Goals as goal

pub unreachable-requires : goal.unreachable-requires
unreachable-requires c =
    let program = c.args.self.now.program.now in
    let section = c.args.self.now.section.now in
    let x = c.args.self.now.found.now in
    let many : length x.paths.items ≤ c.loop-path.path = omega (arith, c.loop-path-test.false, c.len-path-end.ensures) in
    bound_found program section x c.requires.paths c.each_path_once.ensures.listed c.args.number c.args.class c.requires.binds
    (point_at c.args.point) c.requires.point c.loop-path.path many
    (subst (λ local. (k : ℕ) → k < c.loop-path.path → BeginsAt program section local c.args.class k → ⊥) c.bound_local-local.ensures
    c.loop-path.invariant)
