use Rattle.std.proofs.Common.{take, arith}
use Rattle.outcomes.proofs.Drawn.{calls_before, calls_from}
use Rattle.outcomes.proofs.search.Search.call_number.Goals as goal

pub overflow_add-before : goal.overflow_add-before
overflow_add-before c =
    let few = calls_before c.args.self.now.program.now.threads.items c.args.thread in
    let here = calls_from (take c.args.thread c.deref.result.now) c.loop-other.other-index c.other-item.result c.loop-other-test.true c.other-item.is in
    omega (arith, few, here, c.loop-other.invariant, c.len-before.ensures, c.requires.search.checked.within.calls)

pub overflow_add-result : goal.overflow_add-result
overflow_add-result c =
    let few = calls_before c.args.self.now.program.now.threads.items c.args.thread in
    omega (arith, few, c.loop-other.invariant, c.requires.step, c.requires.search.checked.within.calls)
