use Rattle.core_lang.specs.Serial.{invocation}
use Rattle.std.proofs.Common.{length, sym, arith}
use Rattle.outcomes.proofs.Covering.{ready_stays}
use Rattle.outcomes.proofs.search.Search.first_ready.Goals as goal

pub returns-in-Some : goal.returns-in-Some
returns-in-Some c =
    let threads = c.args.self.now.program.now.threads.items in
    let there = c.in-Some.ensures in
    sym (ready_stays c.args.self.now.program.now c.args.done.now (length threads) c.loop-thread.thread (invocation c.in-Some._next.now) c.loop-thread.invariant
    there.next (omega (arith, c.loop-thread-test.true, c.len-thread-end.ensures)))
