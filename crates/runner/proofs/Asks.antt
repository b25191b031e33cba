use Rattle.std.specs.Prelude.{◌≡◌, ◌≢◌, ◌+◌, ◌<◌, ◌≤◌, ℕ, zero, suc, Bool, true, false, nat_eq, if◌then◌else◌, List, []}
use Rattle.std.specs.Prelude.{◌∷◌, ◌++◌, length, drop, slice_get, Option, Some}
use Rattle.std.specs.List.{Contains, sum_by}
use Rattle.std.proofs.Common.{refl, sym, ap, ◌∙◌, subst, arith, eqb-true, length-append}
use Rattle.std.proofs.lemmas.List.Elements.{Contains-append_right, Contains-get_or}
use Rattle.std.proofs.lemmas.List.{length-map}
use Rattle.std.proofs.lemmas.Option.{same_Some}
use Rattle.std.proofs.lemmas.List.Sums.{sum_by-append, sum_by-cons}
use Rattle.core_lang.specs.declared.value.Value.{Value}
use Rattle.core_lang.specs.declared.value.ValueType.{ValueType}
use Rattle.core_lang.specs.declared.shape.Shape.{Shape}
use Rattle.core_lang.specs.declared.typed.Cell.{Cell}
use Rattle.core_lang.specs.Typing.{HasType, HaveTypes, IsHeap, cell_types}
use Rattle.core_lang.specs.Theory.Openings.{have_length}
use Rattle.locks.specs.declared.lock.Lock.{Lock}
use Rattle.locks.specs.Order.{PrecedesIsStrict}
use Rattle.layout.specs.LockCells.{cells_of}
use Rattle.layout.specs.Layouts.{LayoutOf}
use Rattle.code.specs.Memory.{value_at, Agrees}
use Rattle.moved_cells.specs.Working.Grants.{GrantOf, IsWhole, numbered, values_on}
use Rattle.moved_cells.specs.Working.Laws.{ValuesAreWhole, ValuesAgree, HasItsCells}
use Rattle.runner_machine.specs.Working.Held.{CanHold, with_grant}
use Rattle.lock_manager.specs.declared.places.LockPlace.TheVariants.{Free}
use Rattle.lock_manager.specs.Working.Sessions.{TicketOf}
use Rattle.lock_manager.specs.Manager.{Managed}
use Rattle.lock_manager.specs.Working.Managers.{place_of, IsKept, ComesAfter}
use Rattle.lock_manager.specs.Working.Calls.{CanAsk}
use Rattle.worlds.specs.Worlds.{granted}
use Rattle.worlds.specs.Waiting.{first_if}
use Rattle.worlds.specs.Working.InOrder.{SectionsStayInOrder, FitRoom, AreCellsOf}
use Rattle.runner_machine.specs.Working.Machines.{RunOf, holding_of, with_holding}
use Rattle.runner.specs.Working.Opens.{OpenOf, IsOpen, IsKnown, further, ticket_of}
use Rattle.runner.specs.Working.Ties.{IsKeptOpen}

-- an open section that is to be granted a lock
pub record IsAsking (o : OpenOf) (lock : Lock) (rest : List Lock) : Type 0 where
  pub is_open : IsOpen o
  pub pending : o.activation.pending ≡ lock ∷ rest

pub first_and_rest : (xs : List Lock) (x : Lock) → xs ≢ [] → slice_get xs 0 ≡ Some x →
    xs ≡ x ∷ drop 1 xs
first_and_rest [] x some is = absurd (some refl)
first_and_rest (y ∷ ys) x some is = ap (λ (z : Lock). z ∷ ys) (same_Some y x is)

-- ---- the section may ask for the lock

both_fit : (o : OpenOf) (lock : Lock) (rest : List Lock) → SectionsStayInOrder → IsAsking o lock rest →
    FitRoom o.plan (o.activation.held ++ lock ∷ rest) o.room
both_fit o lock rest laws a =
    let well = a.is_open.in_order.well in
    subst (λ (ps : List Lock). FitRoom o.plan (o.activation.held ++ ps) o.room) a.pending
    (laws.fit o.plan o.activation lock rest well.section o.room a.is_open.compiled a.is_open.in_order a.pending well.is
    (a.is_open.room well.section well.is))

pub lock_fits : (o : OpenOf) (lock : Lock) (rest : List Lock) → SectionsStayInOrder → IsAsking o lock rest →
    length o.activation.held < o.room.locks
lock_fits o lock rest laws a =
    let fit = both_fit o lock rest laws a in
    let both : length (o.activation.held ++ lock ∷ rest) ≡ length o.activation.held + suc (length rest) =
    length-append o.activation.held (lock ∷ rest) in
    omega (arith, fit.locks_fit, both)

same_first : (b : Bool) (lock other : Lock) (rest : List Lock) → first_if b (lock ∷ rest) ≡ Some other → other ≡ lock
same_first true lock other rest e = cc
same_first false lock other rest e = absurd (cc)

pub may_ask : (m : Managed) (o : OpenOf) (lock : Lock) (rest : List Lock) → SectionsStayInOrder → IsKnown m o →
    IsAsking o lock rest →
    CanAsk m (ticket_of o) lock
may_ask m o lock rest laws known a =
    let act = o.activation in
    let among : Contains (act.held ++ act.pending) lock =
    subst (λ (ps : List Lock). Contains (act.held ++ ps) lock) (sym a.pending)
    (Contains-append_right act.held (lock ∷ rest) lock (Contains-get_or (lock ∷ rest) 0 lock (omega arith))) in
    record {
      listed = subst (λ (l : LayoutOf). Contains l.locks lock) (sym known.layout)
          (laws.listed o.plan act lock lock rest a.is_open.compiled a.is_open.in_order a.pending among);
      rises = subst (λ (ranks : List ℕ). ComesAfter ranks act.held lock) (sym known.ranks)
          (λ other held. laws.rises o.plan act lock other rest a.is_open.in_order a.pending held);
      same = λ other asked. same_first act.asked lock other rest (ap (first_if act.asked) (sym a.pending) ∙ asked);
      room = lock_fits o lock rest laws a;
    }

-- ---- the cells of the lock

typed_at : (shape : Shape) (ts : List ValueType) (vs : List Value) (i : ℕ) (v : Value) → HaveTypes shape ts vs →
    slice_get vs i ≡ Some v →
    (t : ValueType) × (slice_get ts i ≡ Some t) × HasType shape t v
typed_at shape [] [] i v h e = absurd (cc)
typed_at shape [] (w ∷ vs) i v h e = absurd h
typed_at shape (t ∷ ts) [] i v h e = absurd h
typed_at shape (t ∷ ts) (w ∷ vs) zero v h e = (t, refl, subst (λ (x : Value). HasType shape t x) (let s : w ≡ v = cc in s) h.0)
typed_at shape (t ∷ ts) (w ∷ vs) (suc i) v h e = typed_at shape ts vs i v h.1 e

agreed_by : (b : Bool) (heap : List Value) (x : ℕ × Value) (rest : Option Value) (cell : ℕ) (v : Value) →
    nat_eq x.0 cell ≡ b →
    slice_get heap x.0 ≡ Some x.1 → (rest ≡ Some v → slice_get heap cell ≡ Some v) →
    (if b then Some x.1 else rest) ≡ Some v → slice_get heap cell ≡ Some v
agreed_by true heap x rest cell v e here ih is =
    ap (slice_get heap) (sym (eqb-true x.0 cell e)) ∙ here ∙ is
agreed_by false heap x rest cell v e here ih is = ih is

agreed_at : (heap : List Value) (xs : List (ℕ × Value)) (cell : ℕ) (v : Value) → Agrees heap xs →
    value_at xs cell ≡ Some v →
    slice_get heap cell ≡ Some v
agreed_at heap [] cell v agrees is = absurd (cc)
agreed_at heap (x ∷ xs) cell v agrees is =
    agreed_by (nat_eq x.0 cell) heap x (value_at xs cell) cell v refl agrees.0 (agreed_at heap xs cell v agrees.1) is

-- the cells of a free lock, as the manager lends them
pub record AreLent (o : OpenOf) (lock : Lock) (values : List Value) : Type 0 where
  pub whole : length values ≡ length (cells_of o.plan.layout.cell_locks lock)
  pub cells : AreCellsOf o.plan lock (numbered (cells_of o.plan.layout.cell_locks lock) values)

lent_as : (o : OpenOf) (lock : Lock) (heap values : List Value) → IsOpen o → ValuesAreWhole → ValuesAgree →
    HasItsCells →
    IsHeap o.plan.program heap → values ≡ values_on heap (cells_of o.plan.layout.cell_locks lock) → AreLent o lock values
lent_as o lock heap values is_open are_whole agree its typed are =
    let locks = o.plan.layout.cell_locks in
    let many : length heap ≡ length locks =
    have_length o.plan.program.shape (cell_types o.plan.program) heap typed
    ∙ length-map o.plan.program.cells.items (λ (cell : Cell). cell.value_type)
    ∙ sym is_open.compiled.laid_out.cells in
    let whole : IsWhole locks (record { lock = lock; values = values }) =
    subst (λ (vs : List Value). IsWhole locks (record { lock = lock; values = vs })) (sym are) (are_whole locks heap lock many) in
    let agrees : Agrees heap (numbered (cells_of locks lock) values) =
    subst (λ (vs : List Value). Agrees heap (numbered (cells_of locks lock) vs)) (sym are) (agree locks heap lock many) in
    record {
      whole = whole;
      cells = record {
        cells = its locks (record { lock = lock; values = values }) whole;
        typed = λ cell v at.
            typed_at o.plan.program.shape (cell_types o.plan.program) heap cell v typed
            (agreed_at heap (numbered (cells_of locks lock) values) cell v agrees at);
      };
    }

pub are_lent : (m : Managed) (o : OpenOf) (lock : Lock) (values : List Value) → IsOpen o → ValuesAreWhole →
    ValuesAgree → HasItsCells →
    IsKept m → IsKnown m o → place_of m lock ≡ Some (Free values) → AreLent o lock values
are_lent m o lock values is_open are_whole agree its kept known free =
    lent_as o lock m.values values is_open are_whole agree its known.heap
    (subst (λ (l : LayoutOf). values ≡ values_on m.values (cells_of l.cell_locks lock)) known.layout (kept.free lock values free))

-- the section can hold these cells
pub can_hold : (o : OpenOf) (lock : Lock) (rest : List Lock) (ticket : TicketOf) (run : RunOf) (pending_room : ℕ)
    (grant : GrantOf) → SectionsStayInOrder → PrecedesIsStrict → IsAsking o lock rest → IsKeptOpen o ticket run pending_room →
    run.machine ≡ o.activation.machine → grant.lock ≡ lock → AreLent o lock grant.values → CanHold (holding_of run) grant
can_hold o lock rest ticket run pending_room grant laws strict a kept machine is lent =
    let act = o.activation in
    let f = λ (l : Lock). length (cells_of o.plan.layout.cell_locks l) in
    let fit = both_fit o lock rest laws a in
    let fits = lock_fits o lock rest laws a in
    let sums : sum_by f (act.held ++ lock ∷ rest) ≡ sum_by f act.held + (f lock + sum_by f rest) =
    sum_by-append f act.held (lock ∷ rest) ∙ ap (λ n. sum_by f act.held + n) (sum_by-cons f lock rest) in
    let cells = ap (λ (m : _). length m.memory.cells) machine in
    record {
      new = λ among. strict.not_itself o.plan.ranks lock
          (laws.rises o.plan act lock lock rest a.is_open.in_order a.pending
          (subst (λ (l : Lock). Contains act.held l) is (subst (λ (ls : List Lock). Contains ls grant.lock) kept.locks among)));
      whole =
          subst (λ (l : LayoutOf). length grant.values ≡ length (cells_of l.cell_locks grant.lock)) (sym kept.layout)
          (lent.whole ∙ ap (λ (l : Lock). length (cells_of o.plan.layout.cell_locks l)) (sym is));
      lock_fits = omega (arith, fits, kept.lock_room, ap (λ (ls : List Lock). length ls) kept.locks);
      cells_fit = omega (arith, fit.cells_fit, sums, kept.cells, lent.whole, kept.cell_room, cells);
    }

-- ---- after the grant

numbered_length : (cs : List ℕ) (vs : List Value) → length vs ≡ length cs → length (numbered cs vs) ≡ length cs
numbered_length [] vs e = refl
numbered_length (c ∷ cs) [] e = absurd (omega arith)
numbered_length (c ∷ cs) (v ∷ vs) e = ap suc (numbered_length cs vs (omega arith))

pub kept_granted : (o : OpenOf) (lock : Lock) (rest : List Lock) (ticket : TicketOf) (run : RunOf) (pending_room room : ℕ) (grant : GrantOf) → SectionsStayInOrder → IsAsking o lock rest →
    IsKeptOpen o ticket run pending_room → run.machine ≡ o.activation.machine → grant.lock ≡ lock →
    AreLent o lock grant.values → pending_room ≤ room →
    let o' = further o (granted o.activation lock rest (numbered (cells_of o.plan.layout.cell_locks lock) grant.values)) in
    IsKeptOpen o' (ticket_of o') (record (with_holding run (with_grant (holding_of run) grant)) { machine = o'.activation.machine })
    room
kept_granted o lock rest ticket run pending_room room grant laws a kept machine is lent longer =
    let act = o.activation in
    let locks = o.plan.layout.cell_locks in
    let f = λ (l : Lock). length (cells_of locks l) in
    let values = numbered (cells_of locks lock) grant.values in
    let sums : sum_by f (act.held ++ lock ∷ []) ≡ sum_by f act.held + (f lock + 0) =
    sum_by-append f act.held (lock ∷ []) ∙ ap (λ n. sum_by f act.held + n) (sum_by-cons f lock []) in
    record {
      is_open = record {
        compiled = a.is_open.compiled;
        in_order = laws.gets o.plan act lock rest values a.is_open.compiled a.is_open.in_order a.pending lent.cells;
        room = a.is_open.room;
      };
      ticket_is = refl;
      layout = kept.layout;
      locks = λ i. kept.locks i ++ is i ∷ [];
      operands = kept.operands;
      lock_room = kept.lock_room;
      cell_room = kept.cell_room;
      pending_fits = omega (arith, kept.pending_fits);
      few_arguments = kept.few_arguments;
      cells =
          let more_cells : length (act.machine.memory.cells ++ values) ≡ length act.machine.memory.cells + length values =
          length-append act.machine.memory.cells values in
          omega (arith, more_cells, numbered_length (cells_of locks lock) grant.values lent.whole, kept.cells, sums);
    }

pub kept_waiting : (o : OpenOf) (lock : Lock) (rest : List Lock) (ticket : TicketOf) (run : RunOf)
    (pending_room : ℕ) → SectionsStayInOrder → IsAsking o lock rest →
    IsKeptOpen o ticket run pending_room →
    let o' = further o (record o.activation { asked = true }) in
    IsKeptOpen o' (ticket_of o') run pending_room
kept_waiting o lock rest ticket run pending_room laws a kept = record {
  is_open = record {
    compiled = a.is_open.compiled;
    in_order = laws.asks o.plan o.activation a.is_open.compiled a.is_open.in_order;
    room = a.is_open.room;
  };
  ticket_is = refl;
  layout = kept.layout;
  locks = kept.locks;
  operands = kept.operands;
  lock_room = kept.lock_room;
  cell_room = kept.cell_room;
  pending_fits = kept.pending_fits;
  cells = kept.cells;
  few_arguments = kept.few_arguments;
}
