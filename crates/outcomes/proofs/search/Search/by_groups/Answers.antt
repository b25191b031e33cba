use Rattle.std.proofs.Common.{arith}
use Rattle.outcomes.proofs.Remaining.{one_leaves_all}
use Rattle.outcomes.proofs.search.Search.by_groups.Goals as goal

pub returns-then-are_one : goal.returns-then-are_one
returns-then-are_one c =
    let same = one_leaves_all c.args.self.now.program.now c.args.groups.now c.requires.groups.threads (c.are_one.ensures c.if-are_one.true) in
    omega (arith, same, c.requires.more)
