-- When the section of a thread may be released.
use Rattle.std.proofs.Common.{◌≡◌, ℕ, zero, suc, ◌<◌, ◌≤◌, List, [], ◌∷◌, ◌++◌, length, Option, Some, None, Bool, true}
use Rattle.std.proofs.Common.{false, inl, inr, refl, sym, ap, ◌∙◌, subst, arith}
use Rattle.std.specs.Prelude.{slice_get}
use Rattle.std.specs.Option.{option_map_or}
use Rattle.std.specs.List.{All, Contains}
use Rattle.std.proofs.lemmas.Bool.Decides.{eqb_tells}
use Rattle.std.proofs.lemmas.List.{length-map}
use Rattle.std.proofs.lemmas.Option.{none-some, slice_get_within}
use Rattle.core_lang.specs.declared.value.Value.{Value}
use Rattle.core_lang.specs.declared.typed.Thread.{Thread}
use Rattle.core_lang.specs.Serial.{Invocation, invocation}
use Rattle.core_lang.specs.WellFormed.{calls_together}
use Rattle.locks.specs.declared.lock.Lock.{Lock}
use Rattle.layout.specs.LockCells.{cells_of}
use Rattle.layout.specs.Layouts.{AreDistinct}
use Rattle.code.specs.Memory.{value_at, overwritten, Agrees}
use Rattle.moved_cells.specs.Working.Grants.{GrantOf, IsWhole, numbered, cells_in, locks_of}
use Rattle.moved_cells.specs.Working.Laws.{OffsetsFindValues}
use Rattle.runner_machine.specs.Working.Held.{cells_granted}
use Rattle.history.specs.Commits.{committed}
use Rattle.lock_manager.specs.Manager.{Managed}
use Rattle.lock_manager.specs.Working.Managers.{IsKept}
use Rattle.lock_manager.specs.Working.Calls.{Knows, AreOf, IsOwnWrite}
use Rattle.lowering.specs.Plans.{Plan, IsCompiled}
use Rattle.runner.specs.Working.Opens.{OpenOf, CanGiveBack, ticket_of}
use Rattle.worlds.specs.Waiting.{first_if}
use Rattle.worlds.specs.Worlds.{Activation, call_at, scripts, script_of}
use Rattle.worlds.specs.Working.States.{IsWell, IsFit}
use Rattle.locks.specs.Theory.Order.{among_contains}
use Rattle.interleavings.proofs.Cells.{first_is, first_is_not}
use Rattle.core_lang.specs.Theory.Items.{contains_at, at_contained, some_same, all_contained, all_from, map_at}
use Rattle.core_lang.specs.Theory.Items.{map_back, in_cases, in_rest}
use Rattle.layout.specs.Theory.Numbers.{distinct_rest, distinct_first, has_lock}
use Rattle.code.specs.Theory.Values.{value_left}

-- ---- values of cells

value_behind : (xs ys : List (ℕ × Value)) (c : ℕ) → ((v : Value) → value_at xs c ≡ Some v → ⊥) →
    value_at (xs ++ ys) c ≡ value_at ys c
value_behind [] ys c h = refl
value_behind (x ∷ xs) ys c h = elim (eqb_tells x.0 c) [
  | inl e ↦ absurd (h x.1 (first_is x.0 c (Some x.1) (value_at xs c) e.1))
  | inr e ↦ first_is_not x.0 c (Some x.1) (value_at (xs ++ ys) c) e.1
      ∙ value_behind xs ys c (λ v q. h v (first_is_not x.0 c (Some x.1) (value_at xs c) e.1 ∙ q))
]

-- a cell that is listed with a value has one
has_value : (xs : List (ℕ × Value)) (x : ℕ × Value) → Contains xs x → (v : Value) × (value_at xs x.0 ≡ Some v)
has_value [] x c = absurd (omega (arith, c.1))
has_value (y ∷ ys) x c = elim (eqb_tells y.0 x.0) [
  | inl e ↦ (y.1, first_is y.0 x.0 (Some y.1) (value_at ys x.0) e.1)
  | inr e ↦ elim (in_cases y x ys c) [
    | inl same ↦ absurd (e.1 (ap (λ (z : ℕ × Value). z.0) same))
    | inr rest ↦ (let r = has_value ys x rest in (r.0, first_is_not y.0 x.0 (Some y.1) (value_at ys x.0) e.1 ∙ r.1))
  ]
]

numbered_only : (cs : List ℕ) (vs : List Value) (c : ℕ) (v : Value) → value_at (numbered cs vs) c ≡ Some v →
    Contains cs c
numbered_only [] vs c v h = absurd (none-some v h)
numbered_only (d ∷ ds) [] c v h = absurd (none-some v h)
numbered_only (d ∷ ds) (w ∷ ws) c v h = elim (eqb_tells d c) [
  | inl e ↦ (0, omega arith, e.1)
  | inr e ↦ in_rest d c ds (numbered_only ds ws c v (sym (first_is_not d c (Some w) (value_at (numbered ds ws) c) e.1) ∙ h))
]

-- ---- the cells of grants

-- a cell's value in one of the grants is its value in all of them, if their locks are distinct
granted_value : (cell_locks : List Lock) (gs : List GrantOf) (g : GrantOf) (cell : ℕ) (v : Value) →
    AreDistinct (locks_of gs) → Contains gs g →
    slice_get cell_locks cell ≡ Some g.lock → value_at (cells_in cell_locks g) cell ≡ Some v → value_at (cells_granted cell_locks gs) cell ≡ Some v
granted_value cell_locks [] g cell v d c at h = absurd (omega (arith, c.1))
granted_value cell_locks (x ∷ gs) g cell v d c at h = elim (in_cases x g gs c) [
  | inl same ↦ value_left (cells_in cell_locks x) (cells_granted cell_locks gs) cell v (ap (λ (y : GrantOf). value_at (cells_in cell_locks y) cell) same ∙ h)
  | inr rest ↦ (
      let others : Contains (locks_of gs) g.lock =
      (let i = at_contained gs g rest in contains_at (locks_of gs) i.0 g.lock (map_at (λ (y : GrantOf). y.lock) gs i.0 g i.1)) in
      value_behind (cells_in cell_locks x) (cells_granted cell_locks gs) cell (λ w q.
      let own = has_lock cell_locks x.lock cell (numbered_only (cells_of cell_locks x.lock) x.values cell w q) in
      let same = some_same g.lock x.lock (sym at ∙ own) in
      distinct_first x.lock (locks_of gs) d (subst (Contains (locks_of gs)) same others))
      ∙ granted_value cell_locks gs g cell v (distinct_rest x.lock (locks_of gs) d) rest at h)
]

-- a heap agrees with numbered values if it has each of them at its place
agrees_from : (heap : List Value) (cs : List ℕ) (vs : List Value) →
    ((k c : ℕ) (v : Value) → slice_get cs k ≡ Some c → slice_get vs k ≡ Some v → slice_get heap c ≡ Some v) → Agrees heap (numbered cs vs)
agrees_from heap [] vs f = tt
agrees_from heap (c ∷ cs) [] f = tt
agrees_from heap (c ∷ cs) (v ∷ vs) f = (f 0 c v refl refl, agrees_from heap cs vs (λ k. f (suc k)))

-- the heap that the grants together have agrees with each of them
grant_agrees : (cell_locks : List Lock) (gs : List GrantOf) (g : GrantOf) (heap : List Value) → OffsetsFindValues →
    AreDistinct (locks_of gs) → All (IsWhole cell_locks) gs →
    ((cell : ℕ) (v : Value) → value_at (cells_granted cell_locks gs) cell ≡ Some v → slice_get heap cell ≡ Some v) → Contains gs g → Agrees heap (cells_in cell_locks g)
grant_agrees cell_locks gs g heap find d whole now c =
    agrees_from heap (cells_of cell_locks g.lock) g.values (λ k cell v at is.
    let lock = has_lock cell_locks g.lock cell (contains_at (cells_of cell_locks g.lock) k cell at) in
    now cell v (granted_value cell_locks gs g cell v d c lock
    (find cell_locks g cell k (all_contained (IsWhole cell_locks) gs g whole c) (record { lock_is = lock; offset_is = at }) ∙ is)))

-- ---- the release

pub no_ask : (b : Bool) → first_if b [] ≡ None
no_ask true = refl
no_ask false = refl

are_own : (cell_locks : List Lock) (held : List Lock) (grants : List GrantOf) → locks_of grants ≡ held →
    All (IsWhole cell_locks) grants → AreOf cell_locks held grants
are_own cell_locks held grants same whole = record {
  count = sym (length-map grants (λ (g : GrantOf). g.lock)) ∙ ap length same;
  all = all_from (Contains (locks_of grants)) held (λ lock c. subst (λ (ls : List Lock). Contains ls lock) (sym same) c);
  only = all_from (λ (g : GrantOf). Contains held g.lock) grants (λ g c.
      let i = at_contained grants g c in
      subst (λ (ls : List Lock). Contains ls g.lock) same (contains_at (locks_of grants) i.0 g.lock (map_at (λ (y : GrantOf). y.lock) grants i.0 g i.1)));
  whole = whole;
}

-- a section's writes are to cells of its locks
own_writes : (plan : Plan) (a : Activation) → IsWell plan a →
    All (IsOwnWrite plan.layout.cell_locks a.held) a.machine.memory.writes
own_writes plan a well = all_from (IsOwnWrite plan.layout.cell_locks a.held) a.machine.memory.writes (λ w c.
    let v = has_value a.machine.memory.writes w c in
    let l = well.only w.0 (v.0, well.consistent.written w.0 v.0 v.1) in
    record { lock = l.0; lock_is = l.1; is_held = among_contains a.held l.0 l.2 })

-- a section that is over may be released
pub can_end : (plan : Plan) (m : Managed) (cells : List (Option Value)) (o : OpenOf) → OffsetsFindValues → IsKept m →
    m.layout ≡ plan.layout → o.plan ≡ plan →
    Knows m (ticket_of o) → IsWell plan o.activation → IsFit cells (committed plan.layout.opening m.history) o.activation →
    AreDistinct o.activation.held → o.activation.pending ≡ [] → CanGiveBack m o
can_end plan m cells o find kept layout of known well fit once none grants outcome its over =
    let values : m.values ≡ committed plan.layout.opening m.history = kept.values ∙ ap (λ l. committed l.opening m.history) layout in
    let locks = ap (λ l. l.cell_locks) layout in
    let same : o.plan.layout.cell_locks ≡ m.layout.cell_locks = ap (λ (p : Plan). p.layout.cell_locks) of ∙ sym locks in
    let whole : All (IsWhole m.layout.cell_locks) grants = subst (λ (ls : List Lock). All (IsWhole ls) grants) same its.whole in (
      known,
      record {
        no_ask = ap (first_if o.activation.asked) none ∙ no_ask o.activation.asked;
        own = are_own m.layout.cell_locks o.activation.held grants its.locks whole;
        thread = refl;
        begun = refl;
        reads = subst (λ (h : List Value). Agrees h o.activation.machine.memory.reads) (sym values) fit.part.reads;
        writes = subst (λ (ls : List Lock). All (IsOwnWrite ls o.activation.held) o.activation.machine.memory.writes) (sym locks) (own_writes plan o.activation well);
        now = all_from (λ (g : GrantOf). Agrees (overwritten m.values o.activation.machine.memory.writes) (cells_in m.layout.cell_locks g)) grants (λ g c.
            grant_agrees m.layout.cell_locks grants g (overwritten m.values o.activation.machine.memory.writes) find
            (subst AreDistinct (sym its.locks) once) whole
            (λ cell v h. ap (λ (heap : List Value). slice_get (overwritten heap o.activation.machine.memory.writes) cell) values
            ∙ fit.part.now cell v (ap (λ xs. value_at xs cell) (sym its.cells) ∙ ap (λ ls. value_at (cells_granted ls grants) cell) same ∙ h)) c);
      },
    )

-- ---- the number of a call

few_calls : (threads : List Thread) (t : ℕ) (thread : Thread) → slice_get threads t ≡ Some thread →
    length thread.calls.items ≤ calls_together threads
few_calls [] t thread e = absurd (none-some thread e)
few_calls (x ∷ xs) zero thread e = let same : x ≡ thread = cc in omega (arith, ap (λ (y : Thread). length y.calls.items) same)
few_calls (x ∷ xs) (suc t) thread e = omega (arith, few_calls xs t thread e)

script_of_thread : (o : Option (List Invocation)) (step : ℕ) (call : Invocation) →
    option_map_or (λ (calls : List Invocation). slice_get calls step) o None ≡ Some call → (calls : List Invocation) × (o ≡ Some calls) × (slice_get calls step ≡ Some call)
script_of_thread None step call e = absurd (none-some call e)
script_of_thread (Some calls) step call e = (calls, refl, e)

pub step_within : (plan : Plan) (t step : ℕ) (call : Invocation) → IsCompiled plan → call_at plan t step ≡ Some call →
    step < 100000
step_within plan t step call compiled e =
    let s = script_of_thread (slice_get (scripts plan) t) step call e in
    let x = map_back script_of plan.program.threads.items t s.0 s.1 in
    let count : length x.0.calls.items ≡ length s.0 = sym (length-map x.0.calls.items invocation) ∙ ap length x.2 in
    omega (arith, slice_get_within s.0 step call s.2, count, few_calls plan.program.threads.items t x.0 x.1, compiled.well_formed.within.calls)
