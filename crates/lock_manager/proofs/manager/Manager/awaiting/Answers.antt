use Rattle.std.proofs.Common.{◌≤◌, ◌<◌, List, ◌∙◌, ap, arith, length, subst, sym}
use Rattle.lock_manager.specs.declared.queue.Waiter.{Waiter}
use Rattle.lock_manager.specs.Manager.{Managed}
use Rattle.lock_manager.specs.Working.Ties.{awaiting, one_if}
use Rattle.lock_manager.proofs.Awaited.{awaiting_few, one_counted}
use Rattle.lock_manager.proofs.manager.Manager.awaiting.Goals.{then-has, else-has}
use Rattle.lock_manager.proofs.manager.Manager.awaiting.Goals as goal

pub returns-then-held-le-FEW : goal.returns-then-held-le-FEW
returns-then-held-le-FEW c =
    let same = c.waiters-waiters.ensures ∙ ap (λ (v : Managed). v.waiters) c.self.view_is in
    subst (λ (ws : List Waiter). awaiting c.args.self.now.waiters c.args.ticket.now.session.held ≤ length ws) (sym same)
    (awaiting_few c.args.self.now.waiters c.args.ticket.now.session.held)

pub loop-waiter-preserved : goal.loop-waiter-preserved
loop-waiter-preserved c =
    let d : Waiter = record { thread = 0; lock = record { class = 0; object = 0 } } in
    let ws = c.args.self.now.waiters in
    let i = c.loop-waiter.waiter-index in
    let same = c.waiters-waiters.ensures ∙ ap (λ (v : Managed). v.waiters) c.self.view_is in
    let lt = subst (λ (xs : List Waiter). i < length xs) same c.loop-waiter-test.true in
    elim c.if-has.branch [
      | then-has w ↦ record {
        so_far = one_counted c.waiters-waiters.result.now ws i d c.args.ticket.now.session.held c.has.result c.loop-waiter.count c.if-has.count same lt c.has.ensures
            c.loop-waiter.invariant.so_far (omega (arith, w.count-is, ap one_if w.if-has.true));
        few = omega (arith, w.count-is, c.loop-waiter.invariant.few);
      }
      | else-has w ↦ record {
        so_far = one_counted c.waiters-waiters.result.now ws i d c.args.ticket.now.session.held c.has.result c.loop-waiter.count c.if-has.count same lt c.has.ensures
            c.loop-waiter.invariant.so_far (omega (arith, w.count-is, ap one_if w.if-has.false));
        few = omega (arith, w.count-is, c.loop-waiter.invariant.few);
      }
    ]
