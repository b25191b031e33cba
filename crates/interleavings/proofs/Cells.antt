-- The cells of a world, as the manager has them.
use Rattle.std.proofs.Common.{◌≡◌, ◌≢◌, ℕ, zero, suc, ◌+◌, ◌<◌, if◌then◌else◌, nat_eq, List, [], ◌∷◌, length, map}
use Rattle.std.proofs.Common.{Option, Some, None, inl, inr, refl, sym, ap, ◌∙◌, arith}
use Rattle.std.specs.Prelude.{slice_get}
use Rattle.std.specs.List.{Contains, range_with_len}
use Rattle.std.proofs.lemmas.Bool.{cases_lt}
use Rattle.std.proofs.lemmas.Bool.Decides.{eqb_tells}
use Rattle.std.proofs.lemmas.List.FromFn.{length-map-range_with_len}
use Rattle.std.proofs.lemmas.Option.{slice_get_within, slice_get_past}
use Rattle.core_lang.specs.declared.value.Value.{Value}
use Rattle.core_lang.specs.Typing.{lookup}
use Rattle.locks.specs.declared.lock.Lock.{Lock}
use Rattle.layout.specs.LockCells.{cells_of}
use Rattle.code.specs.Memory.{value_at}
use Rattle.moved_cells.specs.Working.Grants.{numbered, values_on, if_there}
use Rattle.history.specs.Commits.{committed}
use Rattle.history.specs.Working.Laws.{CommittedKeepsSize}
use Rattle.lock_manager.specs.declared.places.LockPlace.{LockPlace}
use Rattle.lock_manager.specs.declared.places.LockPlace.TheVariants.{Free, Taken}
use Rattle.lock_manager.specs.Manager.{Managed, session_in}
use Rattle.lock_manager.specs.Working.Managers.{IsKept, number_from, place_of, cell_of, value_in}
use Rattle.lowering.specs.Plans.{Plan}
use Rattle.worlds.specs.Worlds.{World, with_taken, taken}
use Rattle.worlds.specs.Working.States.{IsSound, HoldsLockOf}
use Rattle.interleavings.specs.declared.state.TypedState.{TypedState}
use Rattle.interleavings.specs.Working.States.{thread_of, session_at, cells_seen}
use Rattle.interleavings.proofs.Lists.{same_everywhere}
use Rattle.locks.specs.Theory.Order.{contains_among, among_contains}
use Rattle.interleavings.proofs.Holding.{open_holds, holds_open}
use Rattle.core_lang.specs.Theory.Items.{at_contained, get_some, map_at, lookup_at}
use Rattle.layout.specs.Theory.Numbers.{cell_among, has_lock}
use Rattle.lock_manager.specs.Theory.Numbers.{number_found}

-- ---- cell by cell

number_at : (a n i : ℕ) → i < n → slice_get (range_with_len a n) i ≡ Some (a + i)
number_at a zero i lt = absurd (omega (arith, lt))
number_at a (suc n) zero lt = ap Some (let e : a ≡ a + 0 = omega arith in e)
number_at a (suc n) (suc i) lt = number_at (a + 1) n i (omega (arith, lt)) ∙ ap Some (let e : (a + 1) + i ≡ a + suc i = omega arith in e)

pub seen_at : (m : Managed) (cell : ℕ) → cell < length m.layout.cell_locks →
    slice_get (cells_seen m) cell ≡ Some (cell_of m cell)
seen_at m cell lt =
    map_at (cell_of m) (range_with_len 0 (length m.layout.cell_locks)) cell (0 + cell) (number_at 0 (length m.layout.cell_locks) cell lt)
    ∙ ap (λ (c : ℕ). Some (cell_of m c)) (let e : 0 + cell ≡ cell = omega arith in e)

pub as_many_seen : (m : Managed) → length (cells_seen m) ≡ length m.layout.cell_locks
as_many_seen m = length-map-range_with_len (cell_of m) 0 (length m.layout.cell_locks)

pub cell_seen : (m : Managed) (cell : ℕ) →
    cell_of m cell ≡ lookup (slice_get (cells_seen m) cell) (λ (v : Option Value). v)
cell_seen m cell = elim (cases_lt cell (length m.layout.cell_locks)) [
  | inl lt ↦ sym (ap (λ r. lookup r (λ (v : Option Value). v)) (seen_at m cell lt))
  | inr le ↦ ap (λ r. lookup r (λ (lock : Lock). value_in m.layout.cell_locks lock (place_of m lock) cell)) (slice_get_past m.layout.cell_locks cell le)
      ∙ sym (ap (λ r. lookup r (λ (v : Option Value). v)) (slice_get_past (cells_seen m) cell (omega (arith, le, as_many_seen m))))
]

-- ---- a cell of a free lock

pub first_is : {A : Type 0} (a k : ℕ) (x rest : A) → a ≡ k → (if nat_eq a k then x else rest) ≡ x
first_is a k x rest e = elim (eqb_tells a k) [ inl h ↦ ap (λ b. if b then x else rest) h.0 | inr h ↦ absurd (h.1 e) ]

pub first_is_not : {A : Type 0} (a k : ℕ) (x rest : A) → a ≢ k → (if nat_eq a k then x else rest) ≡ rest
first_is_not a k x rest ne = elim (eqb_tells a k) [ inl h ↦ absurd (ne h.1) | inr h ↦ ap (λ b. if b then x else rest) h.0 ]

later_cell : (P : Type 0) (c cell : ℕ) (cs : List ℕ) → Contains (c ∷ cs) cell → c ≢ cell → (Contains cs cell → P) → P
later_cell P c cell cs (zero, lt, e) ne go = absurd (ne e)
later_cell P c cell cs (suc j, lt, e) ne go = go (j, omega (arith, lt), e)

-- the value of one of some cells in a heap
value_among : (heap : List Value) (cs : List ℕ) (cell : ℕ) → ((c : ℕ) → Contains cs c → c < length heap) →
    Contains cs cell →
    value_at (numbered cs (values_on heap cs)) cell ≡ slice_get heap cell
value_among heap [] cell all k = absurd (omega (arith, k.1))
value_among heap (c ∷ cs) cell all k =
    let v = get_some heap c (all c (0, omega arith, refl)) in
    let rest : (d : ℕ) → Contains cs d → d < length heap = λ d h. all d (suc h.0, omega (arith, h.1), h.2) in
    ap (λ o. value_at (numbered (c ∷ cs) (if_there o (values_on heap cs))) cell) v.1 ∙ elim (eqb_tells c cell) [
      | inl h ↦ first_is c cell (Some v.0) (value_at (numbered cs (values_on heap cs)) cell) h.1 ∙ sym v.1 ∙ ap (slice_get heap) h.1
      | inr h ↦ first_is_not c cell (Some v.0) (value_at (numbered cs (values_on heap cs)) cell) h.1
          ∙ later_cell (value_at (numbered cs (values_on heap cs)) cell ≡ slice_get heap cell) c cell cs k h.1 (λ there. value_among heap cs cell rest there)
    ]

pub as_many_values : (m : Managed) → IsKept m → CommittedKeepsSize → length m.values ≡ length m.layout.cell_locks
as_many_values m k size = ap length k.values ∙ size m.layout.opening m.history ∙ k.cell_count

cells_within : (m : Managed) (lock : Lock) → IsKept m → CommittedKeepsSize → (c : ℕ) →
    Contains (cells_of m.layout.cell_locks lock) c → c < length m.values
cells_within m lock k size c h =
    omega (arith, slice_get_within m.layout.cell_locks c lock (has_lock m.layout.cell_locks lock c h), as_many_values m k size)

cell_by_lock : (m : Managed) (cell : ℕ) (lock : Lock) (p : Option LockPlace) →
    slice_get m.layout.cell_locks cell ≡ Some lock → place_of m lock ≡ p →
    cell_of m cell ≡ value_in m.layout.cell_locks lock p cell
cell_by_lock m cell lock p at here =
    lookup_at (slice_get m.layout.cell_locks cell) lock (λ (l : Lock). value_in m.layout.cell_locks l (place_of m l) cell) at
    ∙ ap (λ q. value_in m.layout.cell_locks lock q cell) here

free_cell : (m : Managed) (cell : ℕ) (lock : Lock) (values : List Value) → IsKept m → CommittedKeepsSize →
    slice_get m.layout.cell_locks cell ≡ Some lock →
    place_of m lock ≡ Some (Free values) → cell_of m cell ≡ slice_get m.values cell
free_cell m cell lock values k size at here =
    let cells = cells_of m.layout.cell_locks lock in
    cell_by_lock m cell lock (Some (Free values)) at here
    ∙ ap (λ (vs : List Value). value_at (numbered cells vs) cell) (k.free lock values here)
    ∙ value_among m.values cells cell (cells_within m lock k size) (cell_among m.layout.cell_locks lock cell at)

-- ---- cells that are granted

taken_are : (heap : List Value) (cells : List (Option Value)) (cs : List ℕ) →
    ((c : ℕ) → Contains cs c → (v : Value) × (slice_get heap c ≡ Some v) × (slice_get cells c ≡ Some (Some v))) →
    taken cells cs ≡ numbered cs (values_on heap cs)
taken_are heap cells [] all = refl
taken_are heap cells (c ∷ cs) all =
    let v = all c (0, omega arith, refl) in
    ap (λ o. with_taken c o (taken cells cs)) v.2
    ∙ ap (λ xs. (c, v.0) ∷ xs) (taken_are heap cells cs (λ d h. all d (suc h.0, omega (arith, h.1), h.2)))
    ∙ sym (ap (λ o. numbered (c ∷ cs) (if_there o (values_on heap cs))) v.1)

-- the cells of a free lock are taken with the values that the manager has for them
pub taken_from : (m : Managed) (lock : Lock) (values : List Value) → IsKept m → CommittedKeepsSize →
    place_of m lock ≡ Some (Free values) →
    taken (cells_seen m) (cells_of m.layout.cell_locks lock) ≡ numbered (cells_of m.layout.cell_locks lock) values
taken_from m lock values k size here =
    let cells = cells_of m.layout.cell_locks lock in
    taken_are m.values (cells_seen m) cells (λ c h.
    let at = has_lock m.layout.cell_locks lock c h in
    let v = get_some m.values c (cells_within m lock k size c h) in
    (v.0, v.1, seen_at m c (slice_get_within m.layout.cell_locks c lock at) ∙ ap Some (free_cell m c lock values k size at here ∙ v.1)))
    ∙ ap (numbered cells) (sym (k.free lock values here))

-- ---- all cells

-- a world is sound, and has the manager's history, and threads with the sections that the manager knows
pub record IsOne (plan : Plan) (w : World) (m : Managed) (states : List TypedState) : Type 0 where
  pub sound : IsSound plan w
  pub kept : IsKept m
  pub history : w.history ≡ m.history
  pub threads : w.threads ≡ map thread_of states
  pub layout : m.layout ≡ plan.layout
  pub sessions : (t : ℕ) → session_in m.slots t ≡ session_at states t
  pub listed : (cell : ℕ) (lock : Lock) → slice_get m.layout.cell_locks cell ≡ Some lock → Contains m.layout.locks lock

has_place : (m : Managed) (lock : Lock) → IsKept m → Contains m.layout.locks lock →
    (p : LockPlace) × (place_of m lock ≡ Some p)
has_place m lock k c =
    let at = at_contained m.layout.locks lock c in
    let p = get_some m.places at.0 (omega (arith, slice_get_within m.layout.locks at.0 lock at.1, k.lock_count)) in
    let n : number_from 0 m.layout.locks lock ≡ Some at.0 =
    number_found 0 m.layout.locks lock at.0 k.distinct at.1 ∙ ap Some (let e : 0 + at.0 ≡ at.0 = omega arith in e) in
    (p.0, lookup_at (number_from 0 m.layout.locks lock) at.0 (λ (i : ℕ). slice_get m.places i) n ∙ p.1)

module _ (plan : Plan) (w : World) (m : Managed) (states : List TypedState) (one : IsOne plan w m states) (size : CommittedKeepsSize) where
  moved_cell : (cell : ℕ) → slice_get w.cells cell ≡ Some None → None ≡ cell_of m cell
  moved_cell cell e =
      let (t, a, is_open, has) = one.sound.somewhere cell e in
      let (lock, at, held) = (one.sound.well t a is_open).only cell has in
      let here : slice_get m.layout.cell_locks cell ≡ Some lock = ap (λ l. slice_get l.cell_locks cell) one.layout ∙ at in
      sym (cell_by_lock m cell lock (Some (Taken t)) here
      (one.kept.held lock t (open_holds w m.slots states one.threads one.sessions t a lock is_open (among_contains a.held lock held))))

  present_cell : (cell : ℕ) (v : Value) (lock : Lock) (p : LockPlace) → slice_get w.cells cell ≡ Some (Some v) →
      slice_get m.layout.cell_locks cell ≡ Some lock →
      place_of m lock ≡ Some p → Some v ≡ cell_of m cell
  present_cell cell v lock (Free values) e at here =
      let value : slice_get m.values cell ≡ Some v =
      ap (λ (vs : List Value). slice_get vs cell) (one.kept.values ∙ (λ i. committed (one.layout i).opening (sym one.history i))) ∙ one.sound.values cell v e in
      sym (free_cell m cell lock values one.kept size at here ∙ value)
  present_cell cell v lock (Taken t) e at here =
      let o = holds_open w m.slots states one.threads one.sessions t lock (one.kept.taken lock t here) in
      let has : HoldsLockOf plan o.section cell =
      (lock, sym (ap (λ l. slice_get l.cell_locks cell) one.layout) ∙ at, contains_among o.section.held lock o.held) in
      let gone : slice_get w.cells cell ≡ Some None = (one.sound.fit t o.section o.is_open).moved cell ((one.sound.well t o.section o.is_open).all cell has) in
      absurd (let bad : Some (Some v) ≡ Some None = sym e ∙ gone in cc)

  each_cell : (cell : ℕ) (x : Option Value) → cell < length m.layout.cell_locks → slice_get w.cells cell ≡ Some x →
      x ≡ cell_of m cell
  each_cell cell None lt e = moved_cell cell e
  each_cell cell (Some v) lt e =
      let lock = get_some m.layout.cell_locks cell lt in
      let p = has_place m lock.0 one.kept (one.listed cell lock.0 lock.1) in
      present_cell cell v lock.0 p.0 e lock.1 p.1

  as_many : length w.cells ≡ length m.layout.cell_locks
  as_many = one.sound.size ∙ sym (ap (λ l. length l.opening) one.layout) ∙ one.kept.cell_count

  pub same_cells : w.cells ≡ cells_seen m
  same_cells = same_everywhere w.cells (cells_seen m) (λ cell. elim (cases_lt cell (length m.layout.cell_locks)) [
    | inl lt ↦ (
        let x = get_some w.cells cell (omega (arith, lt, as_many)) in
        x.1 ∙ ap Some (each_cell cell x.0 lt x.1) ∙ sym (seen_at m cell lt))
    | inr le ↦ slice_get_past w.cells cell (omega (arith, le, as_many)) ∙ sym (slice_get_past (cells_seen m) cell (omega (arith, le, as_many_seen m)))
  ])
