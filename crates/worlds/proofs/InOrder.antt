-- A section that is in order stays so along its own steps.
use Rattle.std.proofs.Common.{◌≡◌, ℕ, true, List, [], ◌∷◌, ◌++◌, length, Some, None, refl, sym, ap, ◌∙◌, subst, arith}
use Rattle.std.specs.List.{Contains}
use Rattle.std.proofs.lemmas.Option.{same_Some, slice_get_within, get_or_from_slice_get}
use Rattle.core_lang.specs.declared.value.Value.{Value}
use Rattle.core_lang.specs.declared.tree.Section.{Section}
use Rattle.core_lang.specs.Serial.{Invocation}
use Rattle.core_lang.specs.WellFormed.{CanCall}
use Rattle.core_lang.specs.Typing.{HaveTypes, local_types}
use Rattle.core_lang.specs.Theory.Items.{contains_at}
use Rattle.locks.specs.declared.lock.Lock.{Lock}
use Rattle.locks.specs.LockPaths.{LockPath, lock_paths, locks_named, Names}
use Rattle.locks.specs.Theory.Members.{in_flat_map}
use Rattle.locks.specs.Working.Laws.{NamedAreLocks, UsedAreListed}
use Rattle.inserter.specs.Placement.{IsPath}
use Rattle.inserter.specs.Working.Laws.{InRuns, HeldAreNamed, FewAreHeld}
use Rattle.layout.specs.declared.room.Room.{Room}
use Rattle.layout.specs.LockCells.{cells_of}
use Rattle.code.specs.Lowering.{lists_at}
use Rattle.lowering.specs.Plans.{Plan, IsCompiled}
use Rattle.worlds.specs.Worlds.{Activation, activation, section_at, granted, instructed, next_effect}
use Rattle.worlds.specs.Working.Ahead.{IsAsking, CanGoOn, running, asking, over, IsReady}
use Rattle.worlds.specs.Working.InOrder.{IsInOrder, AreCellsOf, Suffices, FitRoom, SectionsStayInOrder}
use Rattle.worlds.proofs.Cells.{Among, cells_of_has, cells_of_only, key_only, key_has}
use Rattle.worlds.proofs.Well.{Laws, well_begun, well_instructed, well_granted, well_asked, true_commit}
use Rattle.worlds.proofs.Steps.{can_call}
use Rattle.worlds.proofs.Going.{ordered, instructed_on, has_case, has_room, granted_on, asked_on, begun_on}
use Rattle.worlds.proofs.Ready.{ReadyLaws, has_cells, ready_instructed, rises_in, heap_overwritten}
use Rattle.worlds.proofs.Sums.{locks_fit, locks_within}

pub record InOrderLaws : Type 0 where
  pub well : Laws
  pub ready : ReadyLaws
  pub named : InRuns HeldAreNamed
  pub few : InRuns FewAreHeld
  pub locks : NamedAreLocks
  pub listed : UsedAreListed

-- ---- steps

begins : InOrderLaws → (plan : Plan) (begun : ℕ) (call : Invocation) → IsCompiled plan →
    CanCall plan.program call.section call.arguments →
    IsInOrder plan (activation plan begun call)
begins laws plan begun call ok can =
    let found = can_call plan.program call.section call.arguments can in
    record {
      well = well_begun plan begun call found.0 found.1;
      ready = record {
        section = found.0;
        is = found.1;
        fit = found.2;
        goes_on = begun_on laws.ready.going plan ok begun call found.0 found.1 found.2;
      };
    }

moves : InOrderLaws → (plan : Plan) (a : Activation) → IsCompiled plan → IsInOrder plan a → a.pending ≡ [] →
    a.outcome ≡ None →
    IsInOrder plan (instructed plan a (next_effect plan a))
moves laws plan a ok order none out =
    let r = order.ready in
    record {
      well = well_instructed laws.well plan ok a order.well out (next_effect plan a) refl;
      ready = ready_instructed plan a r (next_effect plan a)
          (instructed_on laws.ready.going plan ok a r.section r.is r.goes_on none out (has_cells plan ok a order.well));
    }

gets : InOrderLaws → (plan : Plan) (a : Activation) (lock : Lock) (rest : List Lock) (values : List (ℕ × Value)) →
    IsCompiled plan → IsInOrder plan a →
    a.pending ≡ lock ∷ rest → AreCellsOf plan lock values → IsInOrder plan (granted a lock rest values)
gets laws plan a lock rest values ok order want cells =
    let r = order.ready in
    let locks = plan.layout.cell_locks in
    record {
      well = well_granted plan a lock rest values order.well
          (λ c v h. cells_of_only locks lock c (subst (λ ks. Among ks c) cells.cells (key_only values c v h)))
          (λ c is. key_has values c (subst (λ ks. Among ks c) (sym cells.cells) (cells_of_has locks lock c is)));
      ready = record {
        section = r.section;
        is = r.is;
        fit = r.fit;
        goes_on = granted_on laws.ready.going plan ok a r.section r.is lock rest values r.goes_on want cells.typed;
      };
    }

asks : InOrderLaws → (plan : Plan) (a : Activation) → IsCompiled plan → IsInOrder plan a →
    IsInOrder plan (record a { asked = true })
asks laws plan a ok order =
    let r = order.ready in
    record {
      well = well_asked plan a order.well;
      ready = record {
        section = r.section;
        is = r.is;
        fit = r.fit;
        goes_on = asked_on laws.ready.going plan ok a r.section r.is r.goes_on;
      };
    }

-- ---- pending locks

module _ (laws : InOrderLaws) (plan : Plan) (a : Activation) (ok : IsCompiled plan) (r : IsReady plan a) where
  abbrev lists : List (List ℕ)
  lists = lists_at plan.lists a.call.section

  abbrev locks_by : LockPath → List Lock
  locks_by path = locks_named path plan.program.shape a.machine.locals

  -- a lock that a lock path of the section names is one of the program's
  module _ (locals : HaveTypes plan.program.shape (local_types r.section.locals.items) a.machine.locals) where
    path_lock : (path : LockPath) (lock : Lock) → Contains (lock_paths plan.program r.section) path →
        Names path plan.program.shape a.machine.locals lock → Contains plan.layout.locks lock
    path_lock path lock at names =
        let user = (laws.listed plan.program r.section path).0 at in
        (ok.laid_out.listed lock).1
        (laws.locks plan.program r.section user.0 path a.machine.locals lock ok.well_formed (a.call.section, r.is) locals user.1 names)

  module _ (f : IsAsking plan r.section lists a.held a.pending a.machine) where
    abbrev all : List Lock
    all = a.held ++ a.pending

    named : (lock : Lock) → Contains all lock →
        (i : ℕ) × (path : LockPath) × IsPath plan.program r.section i path × Names path plan.program.shape a.machine.locals lock
    named lock c =
        laws.named plan.program r.section plan.ranks lists f.point.number a.machine.locals all
        (ordered laws.ready.going plan ok a.call.section r.section r.is) f.come.run lock c

    listed_one : (lock : Lock) → Contains all lock → Contains plan.layout.locks lock
    listed_one lock c =
        let x = named lock c in
        path_lock f.come.locals x.1 lock (contains_at (lock_paths plan.program r.section) x.0 x.1 x.2) x.3

    fit_all : (section : Section) (room : Room) → section_at plan a.call.section ≡ Some section →
        Suffices plan.program plan.layout section room →
        FitRoom plan all room
    fit_all section room is suffices =
        let same : section ≡ r.section = same_Some section r.section (sym is ∙ r.is) in
        let mine : Suffices plan.program plan.layout r.section room = subst (λ s. Suffices plan.program plan.layout s room) same suffices in
        let few = laws.few plan.program r.section plan.ranks lists f.point.number a.machine.locals all
        (ordered laws.ready.going plan ok a.call.section r.section r.is) f.come.run in
        let sum = locks_fit plan.layout plan.program.shape a.machine.locals all (lock_paths plan.program r.section) few.0
        (λ lock c. let x = named lock c in in_flat_map locks_by (lock_paths plan.program r.section) x.0 x.1 lock x.2 x.3)
        (path_lock f.come.locals) in
        let within = locks_within plan.layout.cell_locks all few.0 in
        let count = ap (λ (r : Room). r.locks) mine.is ∙ mine.is_whole.locks in
        let cells_count = ap (λ (r : Room). r.cells) mine.is in
        let whole_count = mine.is_whole.cells in
        record {
          locks_fit = let n = few.1 in omega (arith, n, count);
          cells_fit = omega (arith, sum, within, cells_count, whole_count);
        }

  -- a section with a pending lock asks
  is_asking : (first : Lock) (rest : List Lock) → a.pending ≡ first ∷ rest → CanGoOn plan r.section lists a →
      IsAsking plan r.section lists a.held a.pending a.machine
  is_asking first rest e (running p m) = absurd (let bad : [] ≡ first ∷ rest = sym p ∙ e in cc bad)
  is_asking first rest e (over p o) = absurd (let bad : [] ≡ first ∷ rest = sym p ∙ e in cc bad)
  is_asking first rest e (asking f) = f

pub stay_in_order : InOrderLaws → SectionsStayInOrder
stay_in_order laws = record {
  begins = begins laws;
  moves = moves laws;
  next = λ plan a ok order none out. (let r = order.ready in
      let cells = has_cells plan ok a order.well in
      record {
        section = r.section;
        is = r.is;
        defined = has_case laws.ready.going plan ok a r.section r.is r.goes_on none out cells;
        fits = has_room laws.ready.going plan ok a r.section r.is r.goes_on none out cells;
      });
  gets = gets laws;
  asks = asks laws;
  rises = λ plan a lock other rest order e c. (let r = order.ready in
      rises_in plan a r.section (lists_at plan.lists a.call.section) r.goes_on lock other rest e c);
  listed = λ plan a first lock rest ok order e c. (let r = order.ready in
      listed_one laws plan a ok r (is_asking laws plan a ok r first rest e r.goes_on) lock c);
  fit = λ plan a first rest section room ok order e is room_is. (let r = order.ready in
      fit_all laws plan a ok r (is_asking laws plan a ok r first rest e r.goes_on) section room is room_is);
  ends = λ plan thread step a outcome ok order out. true_commit laws.ready.ends_only plan ok thread step a outcome order.well out;
  leaves = λ plan a outcome heap ok order out size is_heap reads.
      heap_overwritten laws.ready plan ok a outcome heap order.well order.ready out size is_heap reads;
}
