-- A call run whole by steps of its thread alone.
use Rattle.std.proofs.Common.{◌≡◌, ◌∙◌, ℕ, zero, suc, ◌+◌, List, [], ◌∷◌, ◌++◌, length, map, replicate, Option, Some}
use Rattle.std.proofs.Common.{None, slice_get, slice_set, refl, sym, ap, subst, arith, inl, inr}
use Rattle.std.specs.Option.{option_map_or}
use Rattle.std.proofs.lemmas.Bool.{cases_eq}
use Rattle.std.proofs.lemmas.Option.{slice_get_within}
use Rattle.core_lang.specs.Theory.Checked.{calls_nothing}
use Rattle.core_lang.specs.declared.value.Value.{Value}
use Rattle.core_lang.specs.declared.value.Outcome.{Outcome}
use Rattle.core_lang.specs.declared.tree.Section.{Section}
use Rattle.core_lang.specs.Whole.{Finished, opening}
use Rattle.core_lang.specs.Serial.{Invocation, Scheduled, WholeCall, end_of}
use Rattle.locks.specs.declared.lock.Lock.{Lock}
use Rattle.layout.specs.LockCells.{cells_of}
use Rattle.code.specs.Machine.{At, Halted, Effect, Moves, Asks, Finishes, Undefined, act, proceed, exec}
use Rattle.code.specs.Memory.{HeldCells, load_from, store_to, overwritten, Agrees, IsCovered}
use Rattle.code.specs.Alone.{alone, halted}
use Rattle.code.specs.Lowering.{section_code, lists_at}
use Rattle.code.specs.Working.Laws.{MovesAlike, AsksAlike, FinishesAlike, on_heap}
use Rattle.code.specs.Working.RunLaws.{EndsAsSection}
use Rattle.history.specs.Commits.{Commit, script_call, answer_of, committed}
use Rattle.history.specs.Working.Laws.{CommittedOfOneMore, CommittedKeepsSize}
use Rattle.lowering.specs.Plans.{Plan, IsCompiled}
use Rattle.worlds.specs.declared.event.Event.{Event}
use Rattle.worlds.specs.declared.event.Event.TheVariants as event
use Rattle.worlds.specs.Worlds.{World, ThreadState, Activation, HasOpen, activation, commit, call_at, code_at}
use Rattle.worlds.specs.Worlds.{locals_at, granted, taken, without, with_back, holder, asks, goes_on, thread_steps}
use Rattle.worlds.specs.Worlds.{begins, instructed, next_effect, happens, world_after, opening_world, final}
use Rattle.worlds.specs.Working.States.{IsSound, OpeningIsSound, StepsKeepSound}
use Rattle.worlds.specs.Working.Ahead.{IsReadyWorld, WorldsStayReady}
use Rattle.worlds.specs.Waiting.{IsNoWait, RisingGoesOn}
use Rattle.theorems.specs.ClosedRuns.{IsAtRest, IsNext, HasRunWhole, CallsEndAlone}

-- the laws on which this stands
pub record Laws : Type 0 where
  pub moves : MovesAlike
  pub asks : AsksAlike
  pub finishes : FinishesAlike
  pub ends : EndsAsSection ℕ
  pub heap : CommittedOfOneMore
  pub size : CommittedKeepsSize
  pub opening : OpeningIsSound
  pub step : StepsKeepSound
  pub ready : WorldsStayReady
  pub goes_on : RisingGoesOn

-- ---- places of lists

pub set_other : {X : Type 0} (xs : List X) (i j : ℕ) (y : X) → (i ≡ j → ⊥) →
    slice_get (slice_set xs i y) j ≡ slice_get xs j
set_other [] i j y ne = refl
set_other (x ∷ xs) zero zero y ne = absurd (ne refl)
set_other (x ∷ xs) zero (suc j) y ne = refl
set_other (x ∷ xs) (suc i) zero y ne = refl
set_other (x ∷ xs) (suc i) (suc j) y ne = set_other xs i j y (λ e. ne (ap suc e))

pub set_same : {X : Type 0} (xs : List X) (i : ℕ) (x y : X) → slice_get xs i ≡ Some x →
    slice_get (slice_set xs i y) i ≡ Some y
set_same [] i x y h = absurd cc
set_same (z ∷ xs) zero x y h = refl
set_same (z ∷ xs) (suc i) x y h = set_same xs i x y h

-- all cells are in the world, with these values
full : (cells : List (Option Value)) (heap : List Value) → length cells ≡ length heap →
    ((k : ℕ) → slice_get cells k ≡ Some None → ⊥) →
    ((k : ℕ) (v : Value) → slice_get cells k ≡ Some (Some v) → slice_get heap k ≡ Some v) → cells ≡ map (λ (v : Value). Some v) heap
full [] [] long there same = refl
full [] (v ∷ heap) long there same = cc
full (x ∷ cells) [] long there same = cc
full (None ∷ cells) (v ∷ heap) long there same = absurd (there 0 refl)
full (Some u ∷ cells) (v ∷ heap) long there same =
    let here : Some v ≡ Some u = same 0 u refl in
    let first : u ≡ v = cc here in
    let rest = full cells heap (omega (arith, long)) (λ k h. there (suc k) h) (λ k x h. same (suc k) x h) in
    ap (λ (x : Value). Some x ∷ cells) first ∙ ap (λ (xs : List (Option Value)). Some v ∷ xs) rest

-- ---- worlds that steps lead to

abbrev pub SoundAndReady : Plan → World → Type 0
SoundAndReady plan w = IsSound plan w × IsReadyWorld plan w

pub leads_on : Laws → (plan : Plan) → IsCompiled plan → (w : World) (t : ℕ) → SoundAndReady plan w →
    SoundAndReady plan (happens plan w t).1
leads_on laws plan ok w t is = (laws.step plan w t ok is.0, laws.ready.step plan w t ok is.0 is.1)

pub stay : Laws → (plan : Plan) → IsCompiled plan → (w : World) (steps : List ℕ) → SoundAndReady plan w →
    SoundAndReady plan (world_after plan w steps)
stay laws plan ok w [] is = is
stay laws plan ok w (t ∷ ts) is = stay laws plan ok (happens plan w t).1 ts (leads_on laws plan ok w t is)

-- where no section is open, the cells are what the history leaves
pub at_rest : Laws → (plan : Plan) (w : World) (heap : List Value) → IsSound plan w →
    ((t : ℕ) (a : Activation) → HasOpen w t a → ⊥) →
    committed plan.layout.opening w.history ≡ heap → IsAtRest w heap
at_rest laws plan w heap sound none is =
    let size = laws.size plan.layout.opening w.history in
    let cells = full w.cells (committed plan.layout.opening w.history) (sound.size ∙ sym size)
    (λ k h. (let by = sound.somewhere k h in none by.0 by.1 by.2)) sound.values in
    record { none_open = none; cells = cells ∙ ap (λ (h : List Value). map (λ (v : Value). Some v) h) is }

-- ---- the turn of a call

-- a thread with an open section, and a thread without one
abbrev pub open_at : ℕ → Activation → ThreadState
open_at s a = record { step = s; active = Some a }

abbrev pub closed_at : ℕ → ThreadState
closed_at s = record { step = s; active = None }

-- the world after a step of an open section
abbrev moved_to : World → ℕ → ℕ → List (Option Value) → Activation → World
moved_to w t s cells a = record { cells = cells; history = w.history; threads = slice_set w.threads t (open_at s a) }

-- the world after the call
pub record IsOver (plan : Plan) (first : World) (next : Scheduled) (finished : Finished) (w : World) : Type 0 where
  pub is : SoundAndReady plan w
  pub none_open : (u : ℕ) (b : Activation) → HasOpen w u b → ⊥
  pub own : slice_get w.threads next.thread ≡ Some (closed_at (next.step + 1))
  pub others : (u : ℕ) → (next.thread ≡ u → ⊥) → slice_get w.threads u ≡ slice_get first.threads u
  pub entry : Commit
  pub history : w.history ≡ first.history ++ entry ∷ []
  pub call_is : script_call entry ≡ next
  pub ends : answer_of entry ≡ end_of finished
  pub begun : entry.begun ≡ length first.history
  pub left : committed plan.layout.opening w.history ≡ finished.heap

module _ (laws : Laws) (plan : Plan) (ok : IsCompiled plan) (first : World) (next : Scheduled) (finished : Finished) where
  abbrev heap : List Value
  heap = committed plan.layout.opening first.history

  -- some number of the thread's steps ends the section
  abbrev Leads : World → Type 0
  Leads w = (count : ℕ) × IsOver plan first next finished (world_after plan w (replicate count next.thread))

  earlier : (w : World) → Leads (happens plan w next.thread).1 → Leads w
  earlier w l = (suc l.0, l.1)

  -- the section is the only open one, and all else is as it was
  record Along (w : World) (a : Activation) : Type 0 where
    is : SoundAndReady plan w
    at : slice_get w.threads next.thread ≡ Some (open_at next.step a)
    only : (u : ℕ) (b : Activation) → HasOpen w u b → u ≡ next.thread
    others : (u : ℕ) → (next.thread ≡ u → ⊥) → slice_get w.threads u ≡ slice_get first.threads u
    history : w.history ≡ first.history
    call : a.call ≡ next.call
    begun : a.begun ≡ length first.history

  -- alone, the section ends this way after at most `r` more instructions
  abbrev Left : ℕ → Activation → Type 0
  Left r a =
      exec load_from store_to plan.program.shape (code_at plan a.call.section) r (on_heap heap a.machine) ≡ halted finished

  is_open : (w : World) (a : Activation) → Along w a → HasOpen w next.thread a
  is_open w a along = (open_at next.step a, along.at, refl)

  -- ---- a step after which the section is still open

  others_only : (w after : World) (a b : Activation) → Along w a →
      ((u : ℕ) → (next.thread ≡ u → ⊥) → slice_get after.threads u ≡ slice_get w.threads u) →
      (u : ℕ) → HasOpen after u b → u ≡ next.thread
  others_only w after a b along same u o = elim (cases_eq next.thread u) [
    | inl e ↦ sym e
    | inr ne ↦ along.only u b (o.0, sym (same u ne) ∙ o.1, o.2)
  ]

  stepped : (w : World) (a b : Activation) (e : Event) (cells : List (Option Value)) → Along w a →
      happens plan w next.thread ≡ (e, moved_to w next.thread next.step cells b) → b.call ≡ a.call → b.begun ≡ a.begun →
      Along (happens plan w next.thread).1 b
  stepped w a b e cells along step call begun =
      let world = ap (λ (r : Event × World). r.1) step in
      let t = next.thread in
      let same : (u : ℕ) → (t ≡ u → ⊥) → slice_get (happens plan w t).1.threads u ≡ slice_get w.threads u =
      λ u ne. ap (λ (x : World). slice_get x.threads u) world ∙ set_other w.threads t u (open_at next.step b) ne in
      record {
        is = leads_on laws plan ok w t along.is;
        at = ap (λ (x : World). slice_get x.threads t) world ∙ set_same w.threads t (open_at next.step a) (open_at next.step b) along.at;
        only = λ u c o. others_only w (happens plan w t).1 a c along same u o;
        others = λ u ne. same u ne ∙ along.others u ne;
        history = ap (λ (x : World). x.history) world ∙ along.history;
        call = call ∙ along.call;
        begun = begun ∙ along.begun;
      }

  -- the step of an open section
  its_step : (w : World) (a : Activation) → Along w a →
      happens plan w next.thread ≡ goes_on plan w next.thread (open_at next.step a) a a.pending a.outcome
  its_step w a along = ap (λ x. thread_steps plan w next.thread x) along.at

  -- ---- locks

  free_lock : (w : World) (a : Activation) (lock : Lock) (rest : List Lock) (x : Option ℕ) →
      IsNoWait (asks plan w next.thread (open_at next.step a) a lock rest x).0 → x ≡ None
  free_lock w a lock rest None moves_on = refl
  free_lock w a lock rest (Some h) moves_on = absurd moves_on

  -- no other thread could hold the lock
  goes : (w : World) (a : Activation) → Along w a → IsNoWait (happens plan w next.thread).0
  goes w a along =
      let on = laws.goes_on plan w (laws.ready.rises plan w along.is.1) next.thread a (is_open w a along) in
      subst (λ (u : ℕ). IsNoWait (happens plan w u).0) (along.only on.0 on.1 on.2) on.3

  asking : (w : World) (a : Activation) (lock : Lock) (rest : List Lock) → Along w a → a.pending ≡ lock ∷ rest →
      happens plan w next.thread ≡ asks plan w next.thread (open_at next.step a) a lock rest (holder w lock)
  asking w a lock rest along pending =
      its_step w a along ∙ ap (λ locks. goes_on plan w next.thread (open_at next.step a) a locks a.outcome) pending

  gets : (w : World) (a : Activation) (lock : Lock) (rest : List Lock) → Along w a → a.pending ≡ lock ∷ rest →
      happens plan w next.thread ≡ asks plan w next.thread (open_at next.step a) a lock rest None
  gets w a lock rest along pending =
      let step = asking w a lock rest along pending in
      let free = subst (λ (r : Event × World). IsNoWait r.0) step (goes w a along) in
      step ∙ ap (asks plan w next.thread (open_at next.step a) a lock rest) (free_lock w a lock rest (holder w lock) free)

  -- the section goes on once it is granted all that it asked for
  abbrev GoesOn : ℕ → Type 0
  GoesOn r =
      (w : World) (a : Activation) → Along w a → a.pending ≡ [] → a.outcome ≡ None → Left r a → Leads w

  granted_all : (r : ℕ) → GoesOn r → (locks : List Lock) (w : World) (a : Activation) → Along w a → a.pending ≡ locks →
      a.outcome ≡ None → Left r a → Leads w
  granted_all r go [] w a along pending none left = go w a along pending none left
  granted_all r go (lock ∷ rest) w a along pending none left =
      let numbers = cells_of plan.layout.cell_locks lock in
      let b = granted a lock rest (taken w.cells numbers) in
      let now = stepped w a b (event.Got lock) (without w.cells numbers) along (gets w a lock rest along pending) refl refl in
      earlier w (granted_all r go rest (happens plan w next.thread).1 b now refl none left)

  -- ---- instructions

  moves : (w : World) (a : Activation) → Along w a → a.pending ≡ [] → a.outcome ≡ None →
      happens plan w next.thread ≡ (event.Moved, moved_to w next.thread next.step w.cells (instructed plan a (next_effect plan a)))
  moves w a along pending none =
      its_step w a along
      ∙ ap (λ locks. goes_on plan w next.thread (open_at next.step a) a locks a.outcome) pending
      ∙ ap (λ x. goes_on plan w next.thread (open_at next.step a) a [] x) none

  same_call : (a : Activation) (x : Effect HeldCells) → (instructed plan a x).call ≡ a.call
  same_call a (Moves m) = refl
  same_call a (Asks point) = refl
  same_call a (Finishes outcome) = refl
  same_call a Undefined = refl

  same_begun : (a : Activation) (x : Effect HeldCells) → (instructed plan a x).begun ≡ a.begun
  same_begun a (Moves m) = refl
  same_begun a (Asks point) = refl
  same_begun a (Finishes outcome) = refl
  same_begun a Undefined = refl

  behind : (w : World) (a : Activation) → Along w a → a.pending ≡ [] → a.outcome ≡ None → (x : Effect HeldCells) →
      next_effect plan a ≡ x →
      Along (happens plan w next.thread).1 (instructed plan a x)
  behind w a along pending none x is =
      subst (λ (y : Effect HeldCells). Along (happens plan w next.thread).1 (instructed plan a y)) is
      (stepped w a (instructed plan a (next_effect plan a)) event.Moved w.cells along (moves w a along pending none)
      (same_call a (next_effect plan a)) (same_begun a (next_effect plan a)))

  -- the effect of the instruction alone, on the heap
  alike : (a : Activation) (r : ℕ) (x : Effect (List Value)) → Left (suc r) a →
      act load_from store_to plan.program.shape (slice_get (code_at plan a.call.section) a.machine.place) (on_heap heap a.machine) ≡ x →
      proceed load_from store_to plan.program.shape (on_heap heap a.machine) x
      (exec load_from store_to plan.program.shape (code_at plan a.call.section) r) ≡ halted finished
  alike a r x left is =
      ap (λ y. proceed load_from store_to plan.program.shape (on_heap heap a.machine) y
      (exec load_from store_to plan.program.shape (code_at plan a.call.section) r)) (sym is) ∙ left

  -- the cells of the section are cells of the heap
  covered : (w : World) (a : Activation) → Along w a → IsCovered a.machine.memory.cells heap
  covered w a along cell v there =
      let sound = along.is.0 in
      let away = (sound.fit next.thread a (is_open w a along)).moved cell (v, there) in
      let within = slice_get_within w.cells cell None away in
      let size = laws.size plan.layout.opening first.history in
      let long = sound.size in
      omega (arith, within, size, long)

  -- the heap agrees with what the section has read
  agrees : (w : World) (a : Activation) → Along w a → Agrees heap a.machine.memory.reads
  agrees w a along =
      subst (λ (h : List Commit). Agrees (committed plan.layout.opening h) a.machine.memory.reads) along.history
      (along.is.0.fit next.thread a (is_open w a along)).part.reads

  -- ---- the end

  over : (w : World) (a : Activation) (outcome : Outcome) → Along w a → a.pending ≡ [] → a.outcome ≡ Some outcome →
      happens plan w next.thread ≡ (
        event.Ended (length w.history),
        record {
          cells = with_back w.cells a.machine.memory.cells;
          history = w.history ++ commit next.thread next.step a outcome ∷ [];
          threads = slice_set w.threads next.thread (closed_at (next.step + 1));
        },
      )
  over w a outcome along pending out =
      its_step w a along
      ∙ ap (λ locks. goes_on plan w next.thread (open_at next.step a) a locks a.outcome) pending
      ∙ ap (λ x. goes_on plan w next.thread (open_at next.step a) a [] x) out

  none_left_open : (w after : World) (a b : Activation) → Along w a →
      slice_get after.threads next.thread ≡ Some (closed_at (next.step + 1)) →
      ((u : ℕ) → (next.thread ≡ u → ⊥) → slice_get after.threads u ≡ slice_get w.threads u) →
      (u : ℕ) → HasOpen after u b → ⊥
  none_left_open w after a b along own same u o = elim (cases_eq next.thread u) [
    | inl e ↦ (let here : Some (closed_at (next.step + 1)) ≡ Some o.0 = sym own ∙ ap (slice_get after.threads) e ∙ o.1 in
        let closed : closed_at (next.step + 1) ≡ o.0 = cc here in
        let bad : None ≡ Some b = ap (λ (x : ThreadState). x.active) closed ∙ o.2 in cc bad)
    | inr ne ↦ ne (sym (along.only u b (o.0, sym (same u ne) ∙ o.1, o.2)))
  ]

  -- the section ends as it does alone
  abbrev EndsSo : Activation → Outcome → Type 0
  EndsSo a outcome =
      Halted outcome (overwritten heap a.machine.memory.writes) a.machine.prints ≡ halted finished

  ends_so : (w : World) (a : Activation) (outcome : Outcome) → Along w a → a.pending ≡ [] → a.outcome ≡ Some outcome →
      EndsSo a outcome →
      IsOver plan first next finished (happens plan w next.thread).1
  ends_so w a outcome along pending out so =
      let world = ap (λ (r : Event × World). r.1) (over w a outcome along pending out) in
      let t = next.thread in
      let entry = commit t next.step a outcome in
      let own : slice_get (happens plan w t).1.threads t ≡ Some (closed_at (next.step + 1)) =
      ap (λ (x : World). slice_get x.threads t) world ∙ set_same w.threads t (open_at next.step a) (closed_at (next.step + 1)) along.at in
      let same : (u : ℕ) → (t ≡ u → ⊥) → slice_get (happens plan w t).1.threads u ≡ slice_get w.threads u =
      λ u ne. ap (λ (x : World). slice_get x.threads u) world ∙ set_other w.threads t u (closed_at (next.step + 1)) ne in
      let history : (happens plan w t).1.history ≡ first.history ++ entry ∷ [] =
      ap (λ (x : World). x.history) world ∙ ap (λ (h : List Commit). h ++ entry ∷ []) along.history in
      let all : Halted outcome (overwritten heap a.machine.memory.writes) a.machine.prints
      ≡ Halted finished.outcome finished.heap finished.prints = so in
      let as_told : outcome ≡ finished.outcome = cc all in
      let printed : a.machine.prints ≡ finished.prints = cc all in
      let written : overwritten heap a.machine.memory.writes ≡ finished.heap = cc all in
      record {
        is = leads_on laws plan ok w t along.is;
        none_open = λ u b o. none_left_open w (happens plan w t).1 a b along own same u o;
        own = own;
        others = λ u ne. same u ne ∙ along.others u ne;
        entry = entry;
        history = history;
        call_is = ap (λ (x : Invocation). record { thread = t; step = next.step; call = x }) along.call;
        ends = λ i. record { outcome = as_told i; prints = printed i };
        begun = along.begun;
        left = ap (λ (h : List Commit). committed plan.layout.opening h) history
            ∙ laws.heap plan.layout.opening first.history entry ∙ written;
      }

  -- ---- the whole

  abbrev Goal : ℕ → Type 0
  Goal r = (w : World) (a : Activation) → Along w a → a.outcome ≡ None → Left r a → Leads w

  by_effect : (r : ℕ) → Goal r → (w : World) (a : Activation) → Along w a → a.pending ≡ [] → a.outcome ≡ None →
      Left (suc r) a →
      (x : Effect HeldCells) → next_effect plan a ≡ x → Leads w
  by_effect r go w a along pending none left (Moves m) is =
      let now = behind w a along pending none (Moves m) is in
      let instr = slice_get (code_at plan a.call.section) a.machine.place in
      let well = along.is.0.well next.thread a (is_open w a along) in
      let same = laws.moves plan.program.shape instr a.machine m heap is well.consistent (covered w a along)
      (agrees (happens plan w next.thread).1 (record a { machine = m }) now) in
      earlier w (go (happens plan w next.thread).1 (record a { machine = m }) now none (alike a r (Moves (on_heap heap m)) left same))
  by_effect r go w a along pending none left (Asks point) is =
      let now = behind w a along pending none (Asks point) is in
      let instr = slice_get (code_at plan a.call.section) a.machine.place in
      let same = laws.asks plan.program.shape instr a.machine point heap is in
      earlier w (go (happens plan w next.thread).1 (instructed plan a (Asks point)) now none (alike a r (Asks point) left same))
  by_effect r go w a along pending none left (Finishes outcome) is =
      let now = behind w a along pending none (Finishes outcome) is in
      let instr = slice_get (code_at plan a.call.section) a.machine.place in
      let same = laws.finishes plan.program.shape instr a.machine outcome heap is in
      let last = (happens plan w next.thread).1 in
      earlier w (1, ends_so last (record a { outcome = Some outcome }) outcome now pending refl (alike a r (Finishes outcome) left same))
  by_effect r go w a along pending none left Undefined is =
      let has = laws.ready.next plan w ok along.is.0 along.is.1 next.thread a (is_open w a along) pending none in
      absurd (has.defined is)

  granted_then : (r : ℕ) → GoesOn r
  granted_then zero w a along pending none left =
      let bad : At (on_heap heap a.machine) ≡ Halted finished.outcome finished.heap finished.prints = left in absurd (cc bad)
  granted_then (suc r) w a along pending none left =
      by_effect r (λ v b further still rest. granted_all r (granted_then r) b.pending v b further refl still rest)
      w a along pending none left (next_effect plan a) refl

  leads : (r : ℕ) → Goal r
  leads r w a along none left = granted_all r (granted_then r) a.pending w a along refl none left

  -- ---- the begin

  began : SoundAndReady plan first → ((u : ℕ) (b : Activation) → HasOpen first u b → ⊥) →
      slice_get first.threads next.thread ≡ Some (closed_at next.step) → call_at plan next.thread next.step ≡ Some next.call →
      Along (happens plan first next.thread).1 (activation plan (length first.history) next.call)
  began is none here call =
      let t = next.thread in
      let b = activation plan (length first.history) next.call in
      let step : happens plan first t ≡ (event.Began, moved_to first t next.step first.cells b) =
      ap (thread_steps plan first t) here ∙ ap (begins plan first t (closed_at next.step)) call in
      let world = ap (λ (r : Event × World). r.1) step in
      let same : (u : ℕ) → (t ≡ u → ⊥) → slice_get (happens plan first t).1.threads u ≡ slice_get first.threads u =
      λ u ne. ap (λ (x : World). slice_get x.threads u) world ∙ set_other first.threads t u (open_at next.step b) ne in
      record {
        is = leads_on laws plan ok first t is;
        at = ap (λ (x : World). slice_get x.threads t) world ∙ set_same first.threads t (closed_at next.step) (open_at next.step b) here;
        only = λ u c o. elim (cases_eq t u) [
          | inl e ↦ sym e
          | inr ne ↦ absurd (none u c (o.0, sym (same u ne) ∙ o.1, o.2))
        ];
        others = same;
        history = ap (λ (x : World). x.history) world;
        call = refl;
        begun = refl;
      }

  all_left : WholeCall plan.program next.call heap finished →
      (r : ℕ) × Left r (activation plan (length first.history) next.call)
  all_left whole =
      let section = whole.0 in
      let call = next.call in
      let lists = lists_at plan.lists call.section in
      let shape = plan.program.shape in
      let ends = laws.ends lists section shape call.arguments heap finished (calls_nothing plan.program call.section section ok.well_formed whole.1) whole.2 in
      let code : code_at plan call.section ≡ section_code lists section =
      ap (λ x. option_map_or (λ (s : Section). section_code (lists_at plan.lists call.section) s) x []) whole.1 in
      let locals : locals_at plan call ≡ (opening section call.arguments heap).locals =
      ap (λ x. option_map_or (λ (s : Section). (opening s call.arguments []).locals) x []) whole.1 in (
        ends.0,
        ap (λ l. alone shape (code_at plan call.section) ends.0 l heap) locals
            ∙ ap (λ c. alone shape c ends.0 (opening section call.arguments heap).locals heap) code ∙ ends.1,
      )

  pub runs_whole : SoundAndReady plan first → ((u : ℕ) (b : Activation) → HasOpen first u b → ⊥) →
      slice_get first.threads next.thread ≡ Some (closed_at next.step) → call_at plan next.thread next.step ≡ Some next.call →
      WholeCall plan.program next.call heap finished → Leads first
  runs_whole is none here call whole =
      let left = all_left whole in
      let b = activation plan (length first.history) next.call in
      earlier first (leads left.0 (happens plan first next.thread).1 b (began is none here call) refl left.1)

-- ---- the law

pub run_whole : Laws → (plan : Plan) (first : World) (next : Scheduled) (finished : Finished) (w : World) →
    IsOver plan first next finished w → HasRunWhole first w next (end_of finished) finished.heap
run_whole laws plan first next finished w over = record {
  entry = over.entry;
  history = over.history;
  call_is = over.call_is;
  ends = over.ends;
  begun = over.begun;
  rest = at_rest laws plan w finished.heap over.is.0 over.none_open over.left;
}

-- a thread at rest with its next call
pub is_closed : (plan : Plan) (w : World) (next : Scheduled) (x : Option Activation) (is : IsNext plan w next) →
    is.thread.active ≡ x →
    ((u : ℕ) (b : Activation) → HasOpen w u b → ⊥) → slice_get w.threads next.thread ≡ Some (closed_at next.step)
is_closed plan w next None is active none =
    let here : is.thread ≡ closed_at next.step = λ i. record { step = is.step i; active = active i } in
    is.here ∙ ap (λ (x : ThreadState). Some x) here
is_closed plan w next (Some b) is active none = absurd (none next.thread b (is.thread, is.here, active))

same_values : (xs ys : List Value) → map (λ (v : Value). Some v) xs ≡ map (λ (v : Value). Some v) ys → xs ≡ ys
same_values [] [] same = refl
same_values [] (y ∷ ys) same = cc
same_values (x ∷ xs) [] same = cc
same_values (x ∷ xs) (y ∷ ys) same =
    let first : Some x ≡ Some y = cc same in
    let rest : map (λ (v : Value). Some v) xs ≡ map (λ (v : Value). Some v) ys = cc same in
    let one : x ≡ y = cc first in
    ap (λ z. z ∷ xs) one ∙ ap (λ zs. y ∷ zs) (same_values xs ys rest)

pub calls_end_alone : Laws → CallsEndAlone
calls_end_alone laws plan steps next heap finished ok rest is whole =
    let w = final plan steps in
    let sr = stay laws plan ok (opening_world plan) steps (laws.opening plan, laws.ready.opening plan ok) in
    let at = at_rest laws plan w (committed plan.layout.opening w.history) sr.0 rest.none_open refl in
    let same : heap ≡ committed plan.layout.opening w.history = same_values heap (committed plan.layout.opening w.history) (sym rest.cells ∙ at.cells) in
    let leads = runs_whole laws plan ok w next finished sr rest.none_open (is_closed plan w next is.thread.active is refl rest.none_open) is.call
    (subst (λ (h : List Value). WholeCall plan.program next.call h finished) same whole) in
    (leads.0, run_whole laws plan w next finished (world_after plan w (replicate leads.0 next.thread)) leads.1)
