use Rattle.std.proofs.Common.{true≢false, sym, ◌∙◌, subst}
use Rattle.std.specs.List.{Contains}
use Rattle.workers.specs.Working.LockEnds.{LockEndsOf}
use Rattle.workers.proofs.LockEnds.{not_given}
use Rattle.workers.proofs.lock_ends.LockEnds.give_one.Goals as goal

pub returns-else-has_lock : goal.returns-else-has_lock
returns-else-has_lock c =
    not_given c.args.self.now c.args.lock c.args.long (λ there.
    true≢false (sym (c.has_lock.ensures.1 (subst (λ (e : LockEndsOf). Contains e.layout.locks c.args.lock) (sym c.self.view_is) there)) ∙ c.if-has_lock.false))
