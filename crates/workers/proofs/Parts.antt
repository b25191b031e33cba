-- The cells of an open section are part of what the log leaves, from one hold of the Mutex to the next.
use Rattle.std.proofs.Common.{◌≡◌, ℕ, List, sym, ap, ◌∙◌, subst}
use Rattle.std.specs.List.{All}
use Rattle.std.proofs.lemmas.Option.{none-some}
use Rattle.core_lang.specs.declared.value.Value.{Value}
use Rattle.locks.specs.declared.lock.Lock.{Lock}
use Rattle.layout.specs.Layouts.{LayoutOf}
use Rattle.code.specs.Memory.{IsPartOf, none_held}
use Rattle.history.specs.Commits.{Commit, committed}
use Rattle.lock_manager.specs.Manager.{Managed}
use Rattle.lock_manager.specs.Working.Managers.{IsKept}
use Rattle.lock_manager.specs.Working.Calls.{IsOwnWrite, KeepsEntries}
use Rattle.lowering.specs.Plans.{Plan}
use Rattle.runner.specs.declared.states.Asked.{Asked}
use Rattle.runner.specs.declared.states.Asked.TheVariants.{Got, Waits}
use Rattle.runner.specs.Working.Opens.{OpenOf, ReadyOf, IsOpen, IsItsEntry, CanBeReleased, Released, Ran}
use Rattle.runner.specs.Working.Answers.{Answered}
use Rattle.runner.specs.Working.Laws.{SectionsStayPart, AreSameOn, memory_of}
use Rattle.lock_manager.specs.Working.Sessions.{ReceiptOf}
use Rattle.workers.specs.Working.Guarding.{IsManagerOf}
use Rattle.workers.specs.Working.LockEnds.{LockEndsOf, AreEndsOf, AreAsSeen, IsPartAt}
use Rattle.workers.proofs.Guarding.{manager_kept}

-- a section that begins holds nothing
pub begins_part : (plan : Plan) (log : List Commit) (o : OpenOf) → o.activation.machine.memory ≡ none_held → IsPartAt plan log o
begins_part plan log o none =
    let nothing : IsPartOf (committed plan.layout.opening log) none_held = record { now = λ cell v h. absurd (none-some v h); reads = tt } in
    subst (IsPartOf (committed plan.layout.opening log)) (sym none) nothing

-- the cells stay part of the heap while the section runs
pub ran_part : SectionsStayPart → (plan : Plan) (log : List Commit) (most count : ℕ) (o o' : OpenOf) → Ran most o count o' →
    IsPartAt plan log o → IsPartAt plan log o'
ran_part laws plan log most count o o' ran part =
    let heap = committed plan.layout.opening log in
    subst (λ (p : OpenOf). IsPartOf heap (memory_of p)) (sym ran.is) (laws.moves o count heap part)

-- the answer to a section's request keeps the entries
pub answered_kept : (m m' : Managed) (o : OpenOf) (asked : Asked) → Answered m o asked m' → KeepsEntries m m'
answered_kept m m' o (Got next) a = record {
  layout = ap (λ (v : Managed). v.layout) a.manager;
  ranks = ap (λ (v : Managed). v.ranks) a.manager;
  history = ap (λ (v : Managed). v.history) a.manager;
  values = ap (λ (v : Managed). v.values) a.manager;
}
answered_kept m m' o (Waits o' holder) a = record {
  layout = ap (λ (v : Managed). v.layout) a.manager;
  ranks = ap (λ (v : Managed). v.ranks) a.manager;
  history = ap (λ (v : Managed). v.history) a.manager;
  values = ap (λ (v : Managed). v.values) a.manager;
}

-- the state under the Mutex, when no entry is added
pub guarded_kept : (plan : Plan) (m m' : Managed) (log : List Commit) (e : LockEndsOf) → KeepsEntries m m' → IsManagerOf plan m →
    log ≡ m.history → e.layout ≡ plan.layout → AreEndsOf e m.history →
    IsManagerOf plan m' × (log ≡ m'.history) × (e.layout ≡ plan.layout) × AreEndsOf e m'.history
guarded_kept plan m m' log e kept of is layout ends =
    (manager_kept plan m m' of kept, is ∙ sym kept.history, layout, subst (AreEndsOf e) (sym kept.history) ends)

module _ (laws : SectionsStayPart) (plan : Plan) (m : Managed) (of : IsManagerOf plan m) (kept : IsKept m) where
  -- the heap that the entries leave
  left : m.values ≡ committed plan.layout.opening m.history
  left = kept.values ∙ ap (λ (l : LayoutOf). committed l.opening m.history) of.layout

  -- cells that are part of the heap are part of what the log leaves
  pub part_at : (log : List Commit) (o : OpenOf) → log ≡ m.history → IsPartOf m.values (memory_of o) → IsPartAt plan log o
  part_at log o same part =
      subst (λ (l : List Commit). IsPartOf (committed plan.layout.opening l) (memory_of o)) (sym same)
      (subst (λ (h : List Value). IsPartOf h (memory_of o)) left part)

  module _ (o : OpenOf) (is : o.plan ≡ plan) (is_open : IsOpen o) where
    pub same_layout : m.layout ≡ o.plan.layout
    same_layout = of.layout ∙ ap (λ (p : Plan). p.layout) (sym is)

    -- no other section has written the cells since
    pub still_part : (locks : List Lock) (seen : List Commit) → locks ≡ o.activation.held → AreAsSeen plan locks seen m.history →
        IsPartAt plan seen o → IsPartOf m.values (memory_of o)
    still_part locks seen its as_seen part =
        let old = committed plan.layout.opening seen in
        let new = committed plan.layout.opening m.history in
        let here : AreSameOn o.plan.layout o.activation.held old new =
        subst (λ (ls : List Lock). AreSameOn o.plan.layout ls old new) its
        (subst (λ (p : Plan). AreSameOn p.layout locks old new) (sym is) as_seen) in
        subst (λ (h : List Value). IsPartOf h (memory_of o)) (sym left) (laws.later o old new is_open here part)

    -- the section wrote only cells of its locks
    pub own_entry : (e : Commit) (ready : ReadyOf) (receipt : ReceiptOf) (m' : Managed) → CanBeReleased m o → Released m o ready receipt m' →
        IsItsEntry o e → All (IsOwnWrite m.layout.cell_locks o.activation.held) e.writes
    own_entry e ready receipt m' can r its =
        let fits = (can.back r.grants r.outcome r.its r.over).1 in
        subst (λ (c : Commit). All (IsOwnWrite m.layout.cell_locks o.activation.held) c.writes) (sym its.is) fits.writes
