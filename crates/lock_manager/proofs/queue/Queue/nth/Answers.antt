use Rattle.std.proofs.Common.{sym, ◌∙◌, ◌≤◌, length, List, subst}
use Rattle.lock_manager.specs.declared.queue.Waiter.{Waiter}
use Rattle.lock_manager.proofs.Queued.{nth_found}
use Rattle.std.specs.Prelude.{slice_get}
use Rattle.std.proofs.lemmas.List.{at_drop_all}
use Rattle.lock_manager.specs.Working.Queues.{waiting_in}
use Rattle.lock_manager.proofs.queue.Queue.nth.Goals as goal

pub returns-then-left-eq0 : goal.returns-then-left-eq0
returns-then-left-eq0 c =
    let d : Waiter = record { thread = 0; lock = record { class = 0; object = 0 } } in
    nth_found c.deref-waiter-items.result.now c.args.self.now c.loop-waiter.waiter-index c.loop-waiter.left c.args.i d c.args.lock (c.deref-waiter-items.ensures.value ∙ c.self.view_is)
    c.loop-waiter-test.true (sym c.eq.ensures ∙ c.if-eq.true) c.if-left-eq0.true c.loop-waiter.invariant

pub returns : goal.returns
returns c =
    let all = subst (λ (ws : List Waiter). length ws ≤ c.loop-waiter.waiter-index) (c.deref-waiter-items.ensures.value ∙ c.self.view_is) c.loop-waiter-test.false in
    sym (c.loop-waiter.invariant
    ∙ at_drop_all (λ (ws : List Waiter). slice_get (waiting_in ws c.args.lock) c.loop-waiter.left) c.args.self.now c.loop-waiter.waiter-index all)
