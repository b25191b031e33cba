-- Each step keeps a world ready. In a ready world pending locks rise, and the next instruction has its case.
use Rattle.std.proofs.Common.{◌≡◌, ℕ, ◌+◌, true, List, [], ◌∷◌, ◌++◌, length, Option, Some, None, sym, ◌∙◌, subst}
use Rattle.std.proofs.Common.{inl, inr}
use Rattle.std.proofs.lemmas.Bool.{cases_eq}
use Rattle.std.specs.List.{Contains}
use Rattle.core_lang.specs.declared.value.Value.{Value}
use Rattle.core_lang.specs.declared.value.Outcome.{Outcome}
use Rattle.core_lang.specs.declared.tree.Section.{Section}
use Rattle.core_lang.specs.Laws.{StaysTyped, NeverGoAstray}
use Rattle.core_lang.specs.Theory.Checked.{checked}
use Rattle.core_lang.specs.Typing.{cell_types, IsHeap, Fit}
use Rattle.locks.specs.declared.lock.Lock.{Lock}
use Rattle.locks.specs.Locks.{lock_of_cell}
use Rattle.locks.specs.Order.{Precedes}
use Rattle.layout.specs.LockCells.{cells_of}
use Rattle.code.specs.Machine.{Effect, Moves, Asks, Finishes, Undefined}
use Rattle.code.specs.Memory.{HeldCells, value_at, overwritten, Agrees}
use Rattle.code.specs.Working.Seen.{held_value, IsSeen}
use Rattle.code.specs.Working.RunLaws.{EndsOnlyAsSection}
use Rattle.history.specs.Commits.{Commit, committed}
use Rattle.history.specs.Working.Laws.{CommittedOfOneMore, CommittedKeepsSize}
use Rattle.code.specs.Lowering.{lists_at}
use Rattle.lowering.specs.Plans.{Plan, IsCompiled}
use Rattle.worlds.specs.declared.event.Event.{Event}
use Rattle.worlds.specs.Worlds.{World, ThreadState, Activation, HasOpen, commit, activation, granted, taken, without}
use Rattle.worlds.specs.Worlds.{with_back, instructed, next_effect, happens, opening_world, scripts}
use Rattle.worlds.specs.Working.States.{IsWell, IsSound}
use Rattle.worlds.specs.Working.InTurn.{RiseBehind}
use Rattle.worlds.specs.Waiting.{PendingRises, AllHaveNext}
use Rattle.worlds.specs.Working.Ahead.{SeesTyped, CanGoOn, running, asking, over, IsReady, IsReadyWorld}
use Rattle.worlds.specs.Working.Ahead.{WorldsStayReady}
use Rattle.worlds.proofs.Turns.{Turn, idles, starts, gets, waits, over as ends, moves, turn}
use Rattle.worlds.proofs.Cells.{taken_only}
use Rattle.locks.specs.Theory.Order.{contains_among}
use Rattle.worlds.proofs.Sound.{changed, now_open, still_open}
use Rattle.worlds.proofs.Well.{opening_size, true_commit}
use Rattle.worlds.proofs.Steps.{section_of_call, none_open}
use Rattle.worlds.proofs.Heaps.{type_at}
use Rattle.worlds.proofs.Going.{GoingLaws, instructed_on, has_case, has_room, granted_on, asked_on, begun_on}

pub record ReadyLaws : Type 0 where
  pub going : GoingLaws
  pub astray : NeverGoAstray
  pub ends_only : EndsOnlyAsSection ℕ
  pub heap : CommittedOfOneMore
  pub size : CommittedKeepsSize

-- a change of one thread, the cells and the history
ready_changed : (plan : Plan) (w : World) (t : ℕ) (thread : ThreadState) (cells : List (Option Value)) (history : List Commit) → IsReadyWorld plan w →
    IsHeap plan.program (committed plan.layout.opening history) → ((a : Activation) → thread.active ≡ Some a → IsReady plan a) →
    IsReadyWorld plan (changed w t thread cells history)
ready_changed plan w t thread cells history r heap mine = record {
  heap = heap;
  sections = λ u b o. elim (cases_eq t u) [
    | inl e ↦ mine b (now_open w t thread cells history u b e o)
    | inr ne ↦ r.sections u b (still_open w t thread cells history u b ne o)
  ];
}

-- a change of the thread's section, and of the world's cells with it
section_changed : (plan : Plan) (w : World) (t : ℕ) (thread : ThreadState) (a : Activation) (cells : List (Option Value)) → IsReadyWorld plan w →
    IsReady plan a → IsReadyWorld plan (changed w t (record { step = thread.step; active = Some a }) cells w.history)
section_changed plan w t thread a cells r ready =
    ready_changed plan w t (record { step = thread.step; active = Some a }) cells w.history r r.heap
    (λ b e. (let same : a ≡ b = cc e in subst (IsReady plan) same ready))

-- the section has each cell of a held lock
pub has_cells : (plan : Plan) → IsCompiled plan → (a : Activation) → IsWell plan a → (cell : ℕ) (lock : Lock) →
    lock_of_cell plan.program cell ≡ Some lock →
    Contains a.held lock → IsSeen (held_value a.machine.memory) cell
has_cells plan ok a well cell lock is c = well.all cell (lock, ok.laid_out.cell_locks cell ∙ is, contains_among a.held lock c)

-- ---- the steps

pub ready_instructed : (plan : Plan) (a : Activation) (r : IsReady plan a) (x : Effect HeldCells) →
    CanGoOn plan r.section (lists_at plan.lists a.call.section) (instructed plan a x) → IsReady plan (instructed plan a x)
ready_instructed plan a r (Moves m) can = record { section = r.section; is = r.is; fit = r.fit; goes_on = can }
ready_instructed plan a r (Asks point) can = record { section = r.section; is = r.is; fit = r.fit; goes_on = can }
ready_instructed plan a r (Finishes outcome) can = record { section = r.section; is = r.is; fit = r.fit; goes_on = can }
ready_instructed plan a r Undefined can = record { section = r.section; is = r.is; fit = r.fit; goes_on = can }

-- a finished section leaves a typed heap, if the heap agrees with what it read
pub heap_overwritten : ReadyLaws → (plan : Plan) → IsCompiled plan →
    (a : Activation) (outcome : Outcome) (heap : List Value) → IsWell plan a →
    IsReady plan a → a.outcome ≡ Some outcome → length heap ≡ length plan.program.cells.items → IsHeap plan.program heap →
    Agrees heap a.machine.memory.reads → IsHeap plan.program (overwritten heap a.machine.memory.writes)
heap_overwritten laws plan ok a outcome heap well ready out size is_heap reads =
    let whole = true_commit laws.ends_only plan ok 0 0 a outcome well out heap size reads in
    let both : Some ready.section ≡ Some whole.0 = sym ready.is ∙ whole.1 in
    let same : ready.section ≡ whole.0 = cc both in
    let fit : Fit plan.program whole.0 a.call.arguments = subst (λ section. Fit plan.program section a.call.arguments) same ready.fit in
    let stays = laws.astray plan.program a.call.section whole.2.0 whole.0 a.call.arguments heap (checked plan.program ok.well_formed) whole.1 fit is_heap in
    let after = subst (StaysTyped plan.program whole.0.result_type) whole.2.1 stays in
    after.0

heap_after : ReadyLaws → (plan : Plan) → IsCompiled plan →
    (w : World) (t step : ℕ) (a : Activation) (outcome : Outcome) → IsSound plan w →
    HasOpen w t a → a.outcome ≡ Some outcome → IsReadyWorld plan w →
    IsHeap plan.program (committed plan.layout.opening (w.history ++ commit t step a outcome ∷ []))
heap_after laws plan ok w t step a outcome s it out r =
    let heap = committed plan.layout.opening w.history in
    let size : length heap ≡ length plan.program.cells.items = laws.size plan.layout.opening w.history ∙ opening_size plan ok in
    let after = heap_overwritten laws plan ok a outcome heap (s.well t a it) (r.sections t a it) out size r.heap (s.fit t a it).part.reads in
    subst (IsHeap plan.program) (sym (laws.heap plan.layout.opening w.history (commit t step a outcome))) after

turn_ready : ReadyLaws → (plan : Plan) (w : World) (t : ℕ) (e : Event) (after : World) → IsCompiled plan →
    IsSound plan w → IsReadyWorld plan w →
    Turn plan w t e after → IsReadyWorld plan after
turn_ready laws plan w t e after ok s r idles = r
turn_ready laws plan w t e after ok s r (starts {thread} {call} at none called) =
    let section = section_of_call plan ok.well_formed t thread.step call called in
    section_changed plan w t thread (activation plan (length w.history) call) w.cells r (record {
      section = section.0;
      is = section.1;
      fit = section.2;
      goes_on = begun_on laws.going plan ok (length w.history) call section.0 section.1 section.2;
    })
turn_ready laws plan w t e after ok s r (gets {thread} {a} {lock} {rest} at want free) =
    let numbers = cells_of plan.layout.cell_locks lock in
    let heap = committed plan.layout.opening w.history in
    let old = r.sections t a (thread, at.at, at.is) in
    let typed : SeesTyped plan.program (λ c. value_at (taken w.cells numbers) c) =
    λ c v h. type_at plan.program.shape (cell_types plan.program) heap r.heap c v (s.values c v (taken_only w.cells numbers c v h).1) in
    section_changed plan w t thread (granted a lock rest (taken w.cells numbers)) (without w.cells numbers) r (record {
      section = old.section;
      is = old.is;
      fit = old.fit;
      goes_on = granted_on laws.going plan ok a old.section old.is lock rest (taken w.cells numbers) old.goes_on want typed;
    })
turn_ready laws plan w t e after ok s r (waits {thread} {a} at want busy) =
    let old = r.sections t a (thread, at.at, at.is) in
    section_changed plan w t thread (record a { asked = true }) w.cells r (record {
      section = old.section;
      is = old.is;
      fit = old.fit;
      goes_on = asked_on laws.going plan ok a old.section old.is old.goes_on;
    })
turn_ready laws plan w t e after ok s r (ends {thread} {a} {outcome} at none out) =
    ready_changed plan w t (record { step = thread.step + 1; active = None }) (with_back w.cells a.machine.memory.cells)
    (w.history ++ commit t thread.step a outcome ∷ []) r
    (heap_after laws plan ok w t thread.step a outcome s (thread, at.at, at.is) out r) (λ b is. absurd cc)
turn_ready laws plan w t e after ok s r (moves {thread} {a} at none out) =
    let mine : HasOpen w t a = (thread, at.at, at.is) in
    let old = r.sections t a mine in
    section_changed plan w t thread (instructed plan a (next_effect plan a)) w.cells r
    (ready_instructed plan a old (next_effect plan a)
    (instructed_on laws.going plan ok a old.section old.is old.goes_on none out (has_cells plan ok a (s.well t a mine))))

-- ---- before any step

opening_ready : (plan : Plan) → IsCompiled plan → IsReadyWorld plan (opening_world plan)
opening_ready plan ok = record {
  heap = subst (IsHeap plan.program) (sym ok.laid_out.opening) ok.well_formed.opens;
  sections = λ t a o. absurd (none_open (scripts plan) t o.0 a o.1 o.2);
}

-- ---- the consequences

pub rises_in : (plan : Plan) (a : Activation) (section : Section) (lists : List (List ℕ)) →
    CanGoOn plan section lists a → (lock other : Lock) (rest : List Lock) →
    a.pending ≡ lock ∷ rest → Contains a.held other → Precedes plan.ranks other lock
rises_in plan a section lists (running p m) lock other rest e c = absurd (let bad : [] ≡ lock ∷ rest = sym p ∙ e in cc bad)
rises_in plan a section lists (over p o) lock other rest e c = absurd (let bad : [] ≡ lock ∷ rest = sym p ∙ e in cc bad)
rises_in plan a section lists (asking f) lock other rest e c = (subst (RiseBehind plan.ranks a.held) e f.rise).0 other c

pending_rises : (plan : Plan) (w : World) → IsReadyWorld plan w → PendingRises plan.ranks w
pending_rises plan w r t a lock other rest it e c =
    let mine = r.sections t a it in
    rises_in plan a mine.section (lists_at plan.lists a.call.section) mine.goes_on lock other rest e c

have_next : ReadyLaws → (plan : Plan) (w : World) → IsCompiled plan → IsSound plan w → IsReadyWorld plan w →
    AllHaveNext plan w
have_next laws plan w ok s r t a it none out =
    let mine = r.sections t a it in
    let cells = has_cells plan ok a (s.well t a it) in
    record {
      section = mine.section;
      is = mine.is;
      defined = has_case laws.going plan ok a mine.section mine.is mine.goes_on none out cells;
      fits = has_room laws.going plan ok a mine.section mine.is mine.goes_on none out cells;
    }

pub stay_ready : ReadyLaws → WorldsStayReady
stay_ready laws = record {
  opening = opening_ready;
  step = λ plan w t ok s r. turn_ready laws plan w t (happens plan w t).0 (happens plan w t).1 ok s r (turn plan w t);
  rises = pending_rises;
  next = have_next laws;
}
