-- The cells of an open section stay part of a heap.
use Rattle.std.proofs.Common.{◌≡◌, ℕ, zero, suc, ◌<◌, List, [], ◌∷◌, ◌++◌, length, Option, Some, None, ◌⊎◌, inl, inr, refl, sym}
use Rattle.std.proofs.Common.{ap, ◌∙◌, subst, arith}
use Rattle.std.specs.Prelude.{slice_get}
use Rattle.std.specs.List.{Contains}
use Rattle.std.proofs.lemmas.Bool.Decides.{eqb_tells}
use Rattle.std.proofs.lemmas.Option.{none-some, slice_get_within}
use Rattle.core_lang.specs.declared.value.Value.{Value}
use Rattle.core_lang.specs.Theory.Items.{some_same}
use Rattle.locks.specs.declared.lock.Lock.{Lock}
use Rattle.locks.specs.Theory.Order.{among_contains}
use Rattle.layout.specs.LockCells.{cells_of}
use Rattle.layout.specs.Layouts.{LayoutOf}
use Rattle.code.specs.Machine.{Effect, Moves, Asks, Finishes, Undefined}
use Rattle.code.specs.Memory.{HeldCells, value_at, overwritten, Agrees, IsConsistent, IsPartOf}
use Rattle.code.specs.Working.Laws.{KeepsHeld, HasWritten, KeepsUnwritten, KeepsSize}
use Rattle.code.specs.Theory.Values.{value_left, value_right, first_is, first_is_not}
use Rattle.moved_cells.specs.Working.Grants.{numbered, values_on}
use Rattle.moved_cells.specs.Working.Laws.{ValuesAgree}
use Rattle.history.specs.Working.Laws.{CommittedKeepsSize}
use Rattle.lock_manager.specs.Manager.{Managed}
use Rattle.lock_manager.specs.Working.Managers.{IsKept}
use Rattle.lowering.specs.Plans.{Plan}
use Rattle.worlds.specs.Worlds.{Activation, code_at, granted, instructed, next_effect}
use Rattle.worlds.specs.Working.States.{IsWell}
use Rattle.runner.specs.Working.Opens.{OpenOf, IsOpen, Gets, Waits, moved, moved_by}
use Rattle.runner.specs.Working.Laws.{AreSameOn, SectionsStayPart, memory_of}

-- ---- after an instruction

effect_keeps : KeepsHeld → (plan : Plan) (a : Activation) (heap : List Value) (e : Effect HeldCells) →
    next_effect plan a ≡ e → IsPartOf heap a.machine.memory → IsPartOf heap (instructed plan a e).machine.memory
effect_keeps keeps plan a heap (Moves m) is part =
    (keeps plan.program.shape (slice_get (code_at plan a.call.section) a.machine.place) a.machine m is).part heap part
effect_keeps keeps plan a heap (Asks point) is part = part
effect_keeps keeps plan a heap (Finishes outcome) is part = part
effect_keeps keeps plan a heap Undefined is part = part

moves_keep : KeepsHeld → (o : OpenOf) (count : ℕ) (heap : List Value) → IsPartOf heap (memory_of o) →
    IsPartOf heap (memory_of (moved_by count o))
moves_keep keeps o zero heap part = part
moves_keep keeps o (suc n) heap part =
    let before = moved_by n o in
    effect_keeps keeps before.plan before.activation heap (next_effect before.plan before.activation) refl (moves_keep keeps o n heap part)

-- ---- values of cells

read_or_not : {A : Type 0} (o : Option A) → ((x : A) × (o ≡ Some x)) ⊎ (o ≡ None)
read_or_not None = inr refl
read_or_not (Some x) = inl (x, refl)

-- a heap has the values with which it agrees
agrees_value : (heap : List Value) (xs : List (ℕ × Value)) (cell : ℕ) (v : Value) → Agrees heap xs → value_at xs cell ≡ Some v →
    slice_get heap cell ≡ Some v
agrees_value heap [] cell v a h = absurd (none-some v h)
agrees_value heap (x ∷ xs) cell v a h = elim (eqb_tells x.0 cell) [
  | inl e ↦ ap (slice_get heap) (sym e.1) ∙ a.0 ∙ sym (first_is x.0 cell x.1 (value_at xs cell) e.1) ∙ h
  | inr e ↦ agrees_value heap xs cell v a.1 (sym (first_is_not x.0 cell x.1 (value_at xs cell) e.1) ∙ h)
]

-- a heap agrees with the values that it has
agrees_with : (heap : List Value) (xs : List (ℕ × Value)) →
    ((k : ℕ) (x : ℕ × Value) → slice_get xs k ≡ Some x → slice_get heap x.0 ≡ Some x.1) → Agrees heap xs
agrees_with heap [] f = tt
agrees_with heap (x ∷ xs) f = (f 0 x refl, agrees_with heap xs (λ k. f (suc k)))

agrees_at : (heap : List Value) (xs : List (ℕ × Value)) (k : ℕ) (x : ℕ × Value) → Agrees heap xs → slice_get xs k ≡ Some x →
    slice_get heap x.0 ≡ Some x.1
agrees_at heap [] k x a at = absurd (none-some x at)
agrees_at heap (y ∷ ys) zero x a at = let same : y ≡ x = cc in subst (λ (z : ℕ × Value). slice_get heap z.0 ≡ Some z.1) same a.0
agrees_at heap (y ∷ ys) (suc k) x a at = agrees_at heap ys k x a.1 at

-- a cell that is listed has a value
listed_value : (xs : List (ℕ × Value)) (k : ℕ) (x : ℕ × Value) → slice_get xs k ≡ Some x → (v : Value) × (value_at xs x.0 ≡ Some v)
listed_value [] k x at = absurd (none-some x at)
listed_value (y ∷ ys) zero x at = let same : y ≡ x = cc in (y.1, first_is y.0 x.0 y.1 (value_at ys x.0) (ap (λ (z : ℕ × Value). z.0) same))
listed_value (y ∷ ys) (suc k) x at = elim (eqb_tells y.0 x.0) [
  | inl e ↦ (y.1, first_is y.0 x.0 y.1 (value_at ys x.0) e.1)
  | inr e ↦ (let r = listed_value ys k x at in (r.0, first_is_not y.0 x.0 y.1 (value_at ys x.0) e.1 ∙ r.1))
]

-- only held cells were written
unwritten : (held : HeldCells) (cell : ℕ) → IsConsistent held → value_at held.cells cell ≡ None → value_at held.writes cell ≡ None
unwritten held cell consistent away = elim (read_or_not (value_at held.writes cell)) [
  | inl w ↦ absurd (none-some w.0 (sym away ∙ consistent.written cell w.0 w.1))
  | inr none ↦ none
]

-- only held cells were read
read_held : (held : HeldCells) (k : ℕ) (x : ℕ × Value) → IsConsistent held → slice_get held.reads k ≡ Some x →
    (v : Value) × (value_at held.cells x.0 ≡ Some v)
read_held held k x consistent at = elim (read_or_not (value_at held.writes x.0)) [
  | inl w ↦ (w.0, consistent.written x.0 w.0 w.1)
  | inr none ↦ (let r = listed_value held.reads k x at in (r.0, consistent.read x.0 r.0 none r.1))
]

-- ---- with more cells

-- cells that a heap has, appended to the held ones
more_part : KeepsUnwritten → (held : HeldCells) (more : List (ℕ × Value)) (heap : List Value) → IsConsistent held →
    Agrees heap more → IsPartOf heap held → IsPartOf heap (record held { cells = held.cells ++ more })
more_part spared held more heap consistent agrees part = record {
  now = λ cell v h. elim (read_or_not (value_at held.cells cell)) [
    | inl w ↦ (
        let same : w.0 ≡ v = some_same w.0 v (sym (value_left held.cells more cell w.0 w.1) ∙ h) in
        part.now cell w.0 w.1 ∙ ap Some same)
    | inr away ↦ spared heap held.writes cell (unwritten held cell consistent away)
        ∙ agrees_value heap more cell v agrees (sym (value_right held.cells more cell away) ∙ h)
  ];
  reads = part.reads;
}

gets_keep : KeepsUnwritten → ValuesAgree → CommittedKeepsSize → (m m' : Managed) (o o' : OpenOf) → IsKept m → m.layout ≡ o.plan.layout →
    IsOpen o → Gets m o o' m' → IsPartOf m.values (memory_of o) → IsPartOf m.values (memory_of o')
gets_keep spared agree size m m' o o' kept layout is_open g part =
    let cells : List Value → List (ℕ × Value) = numbered (cells_of m.layout.cell_locks g.lock) in
    let long : length m.values ≡ length m.layout.cell_locks =
    ap length kept.values ∙ size m.layout.opening m.history ∙ kept.cell_count in
    let here : Agrees m.values (cells g.values) =
    subst (λ (vs : List Value). Agrees m.values (cells vs)) (sym (kept.free g.lock g.values g.was_free)) (agree m.layout.cell_locks m.values g.lock long) in
    let there : Agrees m.values (numbered (cells_of o.plan.layout.cell_locks g.lock) g.values) =
    subst (λ (l : LayoutOf). Agrees m.values (numbered (cells_of l.cell_locks g.lock) g.values)) layout here in
    subst (λ (p : OpenOf). IsPartOf m.values (memory_of p)) (sym g.is)
    (more_part spared (memory_of o) (numbered (cells_of o.plan.layout.cell_locks g.lock) g.values) m.values is_open.in_order.well.consistent there part)

-- ---- on another heap

later_keep : HasWritten → KeepsUnwritten → KeepsSize → (o : OpenOf) (heap heap' : List Value) → IsOpen o →
    AreSameOn o.plan.layout o.activation.held heap heap' → IsPartOf heap (memory_of o) → IsPartOf heap' (memory_of o)
later_keep written spared size o heap heap' is_open same part =
    let held = memory_of o in
    let well = is_open.in_order.well in
    let alike : (cell : ℕ) (v : Value) → value_at held.cells cell ≡ Some v → slice_get heap' cell ≡ slice_get heap cell = λ cell v h.
    (let l = well.only cell (v, h) in same.cells cell l.0 l.1 (among_contains o.activation.held l.0 l.2)) in
    record {
      now = λ cell v h. elim (read_or_not (value_at held.writes cell)) [
        | inl w ↦ (
            let is : w.0 ≡ v = some_same w.0 v (sym (well.consistent.written cell w.0 w.1) ∙ h) in
            let within = slice_get_within (overwritten heap held.writes) cell v (part.now cell v h) in
            written heap' held.writes cell w.0 (omega (arith, within, size heap held.writes, same.long)) w.1 ∙ ap Some is)
        | inr none ↦ spared heap' held.writes cell none ∙ alike cell v h ∙ sym (spared heap held.writes cell none) ∙ part.now cell v h
      ];
      reads = agrees_with heap' held.reads (λ k x at.
          let r = read_held held k x well.consistent at in alike x.0 r.0 r.1 ∙ agrees_at heap held.reads k x part.reads at);
    }

-- ---- the whole

pub stay_part : HasWritten → KeepsUnwritten → KeepsSize → KeepsHeld → ValuesAgree → CommittedKeepsSize → SectionsStayPart
stay_part written spared size keeps agree committed_size = record {
  moves = moves_keep keeps;
  gets = gets_keep spared agree committed_size;
  waits = λ m m' o o' holder heap w part. subst (λ (p : OpenOf). IsPartOf heap (memory_of p)) (sym w.is) part;
  later = later_keep written spared size;
}
