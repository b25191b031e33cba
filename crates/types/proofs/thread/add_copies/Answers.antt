use Rattle.std.proofs.Common.{arith}
use Rattle.std.proofs.lemmas.List.{length-map}
use Rattle.resolution.specs.CoreViews.{core_call}
use Rattle.types.specs.Working.ConstantValues.{cores}
use Rattle.types.proofs.Threads.{copy_more, no_copies, no_fewer}
use Rattle.types.proofs.thread.add_copies.Goals as goal

pub returns-then-count-eq0 : goal.returns-then-count-eq0
returns-then-count-eq0 c =
    let e = length-map c.args.calls.now.items core_call in
    let n = c.if-count-eq0.true in
    let m = c.len.ensures in
    no_copies (cores c.args.calls.now.items) c.args.from c.args.times (omega (arith, e, n, m))

pub loop-turn-preserved : goal.loop-turn-preserved
loop-turn-preserved c =
    let e = length-map c.args.calls.now.items core_call in
    let m = c.len.ensures in
    let r = c.requires in
    let f = no_fewer c.loop-turn.calls.items c.add_again.new.calls.items _ c.in_ok-add_again.ensures in
    let i = c.loop-turn.invariant.room in
    record {
      added = copy_more (cores c.args.calls.now.items) (cores c.loop-turn.calls.items) (cores c.add_again.new.calls.items) c.args.from _ c.loop-turn.turn (omega (arith, e, m, r)) c.loop-turn.invariant.added c.in_ok-add_again.ensures;
      room = omega (arith, f, i);
    }
