use Rattle.std.proofs.Common.{◌≡◌, ℕ, Option, Some, None, subst}
use Rattle.std.specs.Option.{MatchOption}
use Rattle.lock_manager.specs.Manager.{Managed}
use Rattle.lock_manager.specs.Working.Managers.{managed, IsKept, Holds, holder_of}
use Rattle.locks.specs.declared.lock.Lock.{Lock}
use Rattle.lock_manager.proofs.Rules.{held_by, held_by_none}
use Rattle.lock_manager.proofs.manager.Manager.holder.Goals as goal

by_answer : (m : Managed) (lock : Lock) (answer : Option ℕ) → IsKept m →
    MatchOption answer ((t : ℕ) → Holds m.slots t lock → ⊥) (λ (t : ℕ). Holds m.slots t lock) →
    answer ≡ holder_of m lock
by_answer m lock None k told = held_by_none m lock k told
by_answer m lock (Some t) k told = held_by m lock t k told

pub returns : goal.returns
returns c =
    let x = c.self.inside in
    let m = managed x.committed x.ranks.now x.places.items x.queue x.sections x.history.commits in
    subst (λ (v : Managed). c.holder.result ≡ holder_of v c.args.lock) c.self.view_is (by_answer m c.args.lock c.holder.result c.self.invariant.0 c.holder.ensures)
