use Rattle.std.proofs.Common.{refl, length, arith, ◌≤◌}
use Rattle.std.proofs.lemmas.Option.{slice_get_read}
use Rattle.explanations.proofs.Found.{used_found, used_within}
use Rattle.explanations.proofs.cycle_teller.CycleWriter.used_path.Goals as goal

pub unreachable-requires : goal.unreachable-requires
unreachable-requires c =
    let program = c.args.self.now.program.now in
    let section = c.args.self.now.section.now in
    let x = c.args.self.now.found.now in
    let are = c.requires.paths in
    let listed = c.each_path_once.ensures.listed in
    let u = c.requires.used in
    let lt = used_within program section x are listed c.args.point u.0 u.1 in
    let there = slice_get_read x.used.items (length x.used.items) c.args.point c.index-used.result.now refl lt c.index-used.ensures in
    let many : length x.paths.items ≤ c.loop-number.number = omega (arith, c.loop-number-test.false, c.len-number-end.ensures) in
    used_found program section x are listed c.args.point c.args.class u c.index-used.result.now there c.loop-number.number many
    c.loop-number.invariant
