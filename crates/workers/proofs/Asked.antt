-- A section that asks for several locks in one hold of the Mutex.
use Rattle.std.proofs.Common.{◌≡◌, ◌<◌, ℕ, List, length, sym, ap, ◌∙◌, subst, Option, Some, Result, Ok, Err, IfOk}
use Rattle.std.specs.Prelude.{slice_get, slice_set}
use Rattle.std.proofs.lemmas.Option.{slice_get_within}
use Rattle.core_lang.specs.declared.value.Value.{Value}
use Rattle.core_lang.specs.Theory.Items.{lookup_some, set_same}
use Rattle.core_lang.specs.Typing.{IsHeap, lookup}
use Rattle.code.specs.Memory.{IsPartOf}
use Rattle.lock_manager.specs.Manager.{Managed, SessionOf, session_in}
use Rattle.lock_manager.specs.Working.Managers.{IsKept}
use Rattle.lock_manager.specs.Working.Sessions.{with_lock}
use Rattle.lock_manager.specs.Working.Calls.{KeepsEntries, after_grant}
use Rattle.lowering.specs.Plans.{Plan}
use Rattle.runner.specs.declared.states.Asked.{Asked}
use Rattle.runner.specs.declared.states.Asked.TheVariants.{Got, Waits}
use Rattle.runner.specs.Working.Opens.{OpenOf, PoisedOf, IsOpen, IsKnown, IsSame, Gets, session_of_open, ticket_of}
use Rattle.runner.specs.Working.Answers.{Answered, GoesOnSame}
use Rattle.runner.specs.Working.Laws.{SectionsStayPart, memory_of}
use Rattle.workers.specs.Working.LockEnds.{asked_open}
use Rattle.workers.specs.Working.Within.{IsBegun, IsBegunOn}

pub kept-trans : (m n o : Managed) → KeepsEntries m n → KeepsEntries n o → KeepsEntries m o
kept-trans m n o a b = record {
  layout = b.layout ∙ a.layout;
  ranks = b.ranks ∙ a.ranks;
  history = b.history ∙ a.history;
  values = b.values ∙ a.values;
}

-- ---- the manager knows the section after a grant

set_session : (slots : List (Option SessionOf)) (t : ℕ) (s s' : SessionOf) → session_in slots t ≡ Some s →
    session_in (slice_set slots t (Some s')) t ≡ Some s'
set_session slots t s s' is =
    let r = lookup_some (slice_get slots t) (λ x. x) s is in
    let within : t < length slots = slice_get_within slots t (Some s) (r.1 ∙ ap Some r.2) in
    ap (λ o. lookup o (λ x. x)) (set_same slots t (Some s') within)

pub known_on : (m m' : Managed) (o o' : OpenOf) → IsKnown m o → IsSame o o' → Gets m o o' m' → KeepsEntries m m' → IsKnown m' o'
known_on m m' o o' known same gets kept =
    let s = with_lock (session_of_open o) gets.lock in
    let after = after_grant m (ticket_of o) gets.lock in
    let there : session_in after.slots o.thread ≡ Some s = set_session m.slots o.thread (session_of_open o) s known.known in
    let its : session_of_open o' ≡ s = ap session_of_open gets.is in
    let knows : session_in m'.slots o'.thread ≡ Some (session_of_open o') =
    ap (session_in m'.slots) same.thread ∙ ap (λ (v : Managed). session_in v.slots o.thread) gets.manager ∙ there ∙ ap Some (sym its) in
    record {
      layout = kept.layout ∙ known.layout ∙ ap (λ (p : Plan). p.layout) (sym same.plan);
      ranks = kept.ranks ∙ known.ranks ∙ ap (λ (p : Plan). p.ranks) (sym same.plan);
      known = knows;
      heap =
          subst (λ (p : Plan). IsHeap p.program m'.values) (sym same.plan)
          (subst (IsHeap o.plan.program) (sym kept.values) known.heap);
    }

-- ---- its cells stay part of what the entries leave

pub asked_on : SectionsStayPart → (m₀ m m' : Managed) (o : OpenOf) (asked : Asked) → IsKept m → IsKnown m o → IsOpen o →
    Answered m o asked m' → KeepsEntries m₀ m → IsPartOf m₀.values (memory_of o) → IsPartOf m₀.values (memory_of (asked_open asked))
asked_on laws m₀ m m' o (Got next) kept known is_open answered entries part =
    let o' = asked_open (Got next) in
    subst (λ (h : List Value). IsPartOf h (memory_of o')) entries.values
    (laws.gets m m' o o' kept known.layout is_open answered (subst (λ (h : List Value). IsPartOf h (memory_of o)) (sym entries.values) part))
asked_on laws m₀ m m' o (Waits o' holder) kept known is_open answered entries part = laws.waits m m' o o' holder m₀.values answered part

-- ---- a call that has begun

pub begun_on : (p : PoisedOf) (b o : OpenOf) → IsBegun p b → IsSame b o → IsBegunOn p o
begun_on p b o begun same = record {
  plan = same.plan ∙ begun.plan;
  thread = same.thread ∙ begun.thread;
  step = same.step ∙ begun.step;
  call = same.call ∙ begun.call;
}

-- the section after an answer is the same section
pub goes_on : (o : OpenOf) (asked : Asked) → GoesOnSame o asked → IsSame o (asked_open asked)
goes_on o (Got next) same = same
goes_on o (Waits o' holder) same = same

-- the same of an answer that may be missing
pub goes_on_ok : {E : Type 0} (o : OpenOf) (r : Result (Asked × ℕ) E) → IfOk r (λ (a : Asked × ℕ). GoesOnSame o a.0) →
    IfOk r (λ (a : Asked × ℕ). IsSame o (asked_open a.0))
goes_on_ok o (Ok a) same = goes_on o a.0 same
goes_on_ok o (Err e) same = tt
