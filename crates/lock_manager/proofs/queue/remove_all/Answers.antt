use Rattle.std.proofs.Common.{◌≢◌, ◌∙◌, ◌+◌, ◌<◌, ◌≤◌, length, take, drop, sym, ap, subst, arith}
use Rattle.std.specs.List.{All}
use Rattle.std.proofs.lemmas.List.{take_all}
use Rattle.lock_manager.specs.declared.queue.Waiter.{Waiter}
use Rattle.lock_manager.specs.Working.Queues.{leaving}
use Rattle.lock_manager.proofs.Queued.{leaving-removed, take-removed, leaving-others}
use Rattle.std.proofs.lemmas.List.Elements.{All-more}
use Rattle.lock_manager.proofs.queue.remove_all.Goals as goal

pub loop-i-preserved-then-index-thread : goal.loop-i-preserved-then-index-thread
loop-i-preserved-then-index-thread c =
    let items = c.loop-i.waiters.items in
    let i = c.loop-i.i in
    let lt : i < length items = omega (arith, c.loop-i-test.true, c.len.ensures, c.loop-i.waiters.ok.0) in
    record {
      left = ap (leaving c.args.thread) c.remove.ensures.by_index.2
          ∙ leaving-removed c.args.thread items i c.index.result.now lt (ap (λ (w : Waiter). w.thread) (sym c.index.ensures) ∙ c.if-index-thread.true)
          ∙ c.loop-i.invariant.left;
      others = subst (All (λ (w : Waiter). w.thread ≢ c.args.thread)) (sym (ap (take i) c.remove.ensures.by_index.2 ∙ take-removed items (drop (i + 1) items) i lt)) c.loop-i.invariant.others;
      within = omega (arith, c.remove.ensures.len, c.loop-i-test.true, c.len.ensures);
      capacity = c.remove.ensures.capacity ∙ c.loop-i.invariant.capacity;
    }

pub returns-clause-items : goal.returns-clause-items
returns-clause-items c =
    let items = c.loop-i.waiters.items in
    let le : length items ≤ c.loop-i.i = omega (arith, c.loop-i-test.false, c.len.ensures, c.loop-i.waiters.ok.0) in
    sym (leaving-others c.args.thread items (subst (All (λ (w : Waiter). w.thread ≢ c.args.thread)) (take_all c.loop-i.i items le) c.loop-i.invariant.others)) ∙ c.loop-i.invariant.left

pub loop-i-preserved : goal.loop-i-preserved
loop-i-preserved c =
    let items = c.loop-i.waiters.items in
    let lt : c.loop-i.i < length items = omega (arith, c.loop-i-test.true, c.len.ensures, c.loop-i.waiters.ok.0) in
    record {
      left = c.loop-i.invariant.left;
      others = All-more (λ (w : Waiter). w.thread ≢ c.args.thread) items c.loop-i.i c.index.result.now lt c.loop-i.invariant.others
          (λ e. c.if-index-thread.false (ap (λ (w : Waiter). w.thread) c.index.ensures ∙ e));
      within = omega (arith, c.loop-i-test.true, c.len.ensures);
      capacity = c.loop-i.invariant.capacity;
    }
