use Rattle.std.proofs.Common.{List, sym, ap, ◌∙◌, subst}
use Rattle.locks.specs.Locks.{among}
use Rattle.runner_machine.specs.declared.held_lock.HeldLock.{HeldLock}
use Rattle.runner_machine.specs.Working.Held.{HoldingOf}
use Rattle.runner_machine.specs.Working.Finding.{AreInRuns, AreHeld}
use Rattle.runner_machine.proofs.Holds.{found_among}
use Rattle.runner_machine.proofs.holding.Holding.holds.Goals as goal

pub find-requires : goal.find-requires
find-requires c = subst AreInRuns (sym c.deref.ensures.value) c.self.invariant.4

pub returns : goal.returns
returns c =
    c.is_some.ensures
    ∙ found_among c.self.inside.grants.items c.deref.result.now c.args.lock c.find.result
    (subst (λ (hs : List HeldLock). AreHeld c.self.inside.grants.items hs) (sym c.deref.ensures.value) c.self.invariant.3)
    c.find.ensures.none c.find.ensures.some
    ∙ ap (λ (h : HoldingOf). among h.locks c.args.lock) c.self.view_is
