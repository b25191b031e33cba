use Rattle.std.proofs.Common.{◌∙◌, map, take}
use Rattle.std.proofs.lemmas.List.{map-append}
use Rattle.driver.specs.Working.Running.{scheduled_of}
use Rattle.driver.proofs.CallLemmas.{can_make_at, drop_next, map_parts}
use Rattle.driver.proofs.RunningLemmas.{goes_further, goes_beyond}
use Rattle.driver.proofs.running.run_calls.Goals as goal

pub run_whole-requires-clause-call : goal.run_whole-requires-clause-call
run_whole-requires-clause-call c =
    rw c.deref.ensures.value
    (can_make_at scheduled_of c.args.prepared.now.program.now c.args.calls.now c.loop-next.next-index c.next-item.result c.requires.calls c.loop-next-test.true c.next-item.is)

pub returns-in_default-clause-ran : goal.returns-in_default-clause-ran
returns-in_default-clause-ran c =
    let items = c.args.calls.now in
    let next = drop_next scheduled_of items c.loop-next.next-index c.next-item.result c.loop-next-test.true c.next-item.is in
    let parts = map_parts scheduled_of items c.loop-next.next-index c.next-item.result c.loop-next-test.true c.next-item.is in
    let same = rw c.in_default.is at c.in_ok-run.ensures.answer in
    let beyond = rw (c.in_default.is, c.deref.ensures.value) at (c.in_ok-run.ensures.beyond c.requires.checked c.loop-next.invariant.typed) in
    let stop = goes_beyond _ _ _ _ _ (map scheduled_of (take c.loop-next.next-index items)) (scheduled_of c.next-item.result) _ (rw next at c.loop-next.invariant.goes) parts beyond in
    record { records = stop.0; heap = same.1 ∙ stop.1; stop = stop.2 }

pub loop-next-preserved : goal.loop-next-preserved
loop-next-preserved c =
    let next = drop_next scheduled_of c.args.calls.now c.loop-next.next-index c.next-item.result c.loop-next-test.true c.next-item.is in
    let over = rw (c.in-Some.is, c.deref.ensures.value) at c.in_ok-run.ensures.answer in
    let further = goes_further _ _ _ _ _ (scheduled_of c.next-item.result) _ _ (rw next at c.loop-next.invariant.goes) over in
    record {
      goes = rw (c.in_ok-push.ensures.items, map-append, c.record_of.ensures) further;
      cells = c.in_ok-run.ensures.cells;
      typed = c.in_ok-run.ensures.typed c.requires.checked c.loop-next.invariant.typed;
    }
