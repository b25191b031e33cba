-- If the listed locks of a point are held, the point can be executed on the cells of held locks.
use Rattle.std.proofs.Common.{◌≡◌, ℕ, zero, suc, List, [], ◌∷◌, Option, Some, None, slice_get, sym, ap, ◌∙◌, subst}
use Rattle.std.proofs.Common.{arith, inl, inr}
use Rattle.std.proofs.lemmas.List.Elements.{Contains-append_left, Contains-append_right}
use Rattle.std.specs.List.{Contains, cons_option, filter_map, flat_map}
use Rattle.core_lang.specs.declared.value.Value.{Value}
use Rattle.core_lang.specs.declared.tree.Section.{Section}
use Rattle.core_lang.specs.declared.typed.Typed.{Typed}
use Rattle.core_lang.specs.Meaning.{State}
use Rattle.core_lang.specs.Typing.{local_types, IsHeap}
use Rattle.core_lang.specs.Working.Soundness.{IsTypedState, LeadsToTyped}
use Rattle.source.specs.declared.fault.Code.TheVariants.{UnstableBase}
use Rattle.flow.specs.Points.{Point, points}
use Rattle.flow.specs.Working.Effects.{effect_at}
use Rattle.flow.specs.Working.Laws.{PointsStayTyped}
use Rattle.locks.specs.declared.lock.Lock.{Lock}
use Rattle.locks.specs.Accesses.{Access, accesses_at}
use Rattle.locks.specs.Locks.{lock_of_cell}
use Rattle.locks.specs.LockPaths.{LockPath, lock_path, Uses}
use Rattle.locks.specs.Working.Laws.{PathsNameTheLocks}
use Rattle.locks.specs.Faults.{HasSection, HasNoFault, unstable_base, unstable}
use Rattle.inserter.specs.Working.Laws.{IsOrdered, InRuns, UsedAreHeld}
use Rattle.inserter.specs.Working.Runs.{IsListed}
use Rattle.code.specs.Machine.{Machine}
use Rattle.code.specs.Memory.{HeldCells}
use Rattle.code.specs.Working.Seen.{held_value, IsSeen, Shows, Covers}
use Rattle.code.specs.Working.Ahead.{CanExecute}
use Rattle.lowering.specs.Plans.{Plan}
use Rattle.worlds.specs.Working.Ahead.{HasCome}
use Rattle.worlds.proofs.Cells.{some_or_none}
use Rattle.core_lang.specs.Theory.Items.{in_cases, in_rest}

-- ---- lists

in_flat_map : {X Y : Type 0} (f : X → List Y) (xs : List X) (i : ℕ) (x : X) (y : Y) → slice_get xs i ≡ Some x →
    Contains (f x) y →
    Contains (flat_map f xs) y
in_flat_map f [] i x y at c = absurd cc
in_flat_map f (z ∷ xs) zero x y at c =
    let same : x ≡ z = cc at in
    Contains-append_left (f z) (flat_map f xs) y (subst (λ w. Contains (f w) y) same c)
in_flat_map f (z ∷ xs) (suc i) x y at c = Contains-append_right (f z) (flat_map f xs) y (in_flat_map f xs i x y at c)

cons_here : {Y : Type 0} (o : Option Y) (ys : List Y) (y : Y) → o ≡ Some y → Contains (cons_option o ys) y
cons_here None ys y e = absurd cc
cons_here (Some x) ys y e = (let same : x ≡ y = cc e in (0, omega arith, same))

cons_further : {Y : Type 0} (o : Option Y) (ys : List Y) (y : Y) → Contains ys y → Contains (cons_option o ys) y
cons_further None ys y c = c
cons_further (Some x) ys y c = in_rest x y ys c

in_filter_map : {X Y : Type 0} (h : X → Option Y) (xs : List X) (x : X) (y : Y) → Contains xs x → h x ≡ Some y →
    Contains (filter_map h xs) y
in_filter_map h [] x y c e = absurd (let less = c.1 in omega (arith, less))
in_filter_map h (z ∷ xs) x y c e = elim (in_cases z x xs c) [
  | inl s ↦ cons_here (h z) (filter_map h xs) y (ap h s ∙ e)
  | inr d ↦ cons_further (h z) (filter_map h xs) y (in_filter_map h xs x y d e)
]

-- ---- accesses

pub record CoverLaws : Type 0 where
  pub named : PathsNameTheLocks
  pub typed : PointsStayTyped
  pub held : InRuns UsedAreHeld

-- each access has a lock path
has_path : (program : Typed) (section : Section) (p : ℕ) (point : Point) (a : Access) → HasNoFault program →
    HasSection program section →
    slice_get (points section) p ≡ Some point → Contains (accesses_at point) a → (path : LockPath) × (lock_path program section a ≡ Some path)
has_path program section p point a none here at c = elim (some_or_none (lock_path program section a)) [
  | inl s ↦ s
  | inr n ↦ absurd (none UnstableBase a.start (unstable_base (unstable here (in_flat_map accesses_at (points section) p point a at c) n)))
]

abbrev pub state_of : Machine HeldCells → List Value → State
state_of m heap = record { locals = m.locals; heap = heap; prints = m.prints }

module _ (laws : CoverLaws) (plan : Plan) (section : Section) (lists : List (List ℕ)) (none : HasNoFault plan.program)
    (ordered : IsOrdered plan.program section plan.ranks lists) (p : ℕ) (point : Point) (at : slice_get (points section) p ≡ Some point)
    (held : List Lock) (m : Machine HeldCells) (heap : List Value) (come : HasCome plan section lists p held m)
    (is_heap : IsHeap plan.program heap) (shows : Shows (held_value m.memory) heap) where
  -- the section sees each cell that it accesses
  covers : ((lock : Lock) → IsListed plan.program section plan.ranks lists p m.locals lock → Contains held lock) →
      ((cell : ℕ) (lock : Lock) → lock_of_cell plan.program cell ≡ Some lock → Contains held lock → IsSeen (held_value m.memory) cell) →
      Covers plan.program.shape m.locals heap (held_value m.memory) (accesses_at point)
  covers all has a c cell v reaches here =
      let path = has_path plan.program section p point a none ordered.here at c in
      let named = laws.named plan.program section p point come.scope m.locals heap a path.0 cell ordered.well_formed ordered.here at come.scoped
      come.locals is_heap come.lets c path.1 reaches in
      let uses : Uses plan.program section p path.0 =
      (point, at, in_filter_map (lock_path plan.program section) (accesses_at point) a path.0 c path.1) in
      let mine = laws.held plan.program section plan.ranks lists p m.locals held ordered come.run all path.0 named.0 uses named.1 in
      let seen = has cell named.0 named.2 mine in
      seen.1 ∙ (sym (shows cell seen.0 seen.1) ∙ here)

  typed_state : IsTypedState plan.program (local_types section.locals.items) (state_of m heap)
  typed_state = record { locals = come.locals; heap = is_heap }

  -- the state after the point is typed
  pub leads_typed : LeadsToTyped plan.program (local_types section.locals.items) (effect_at point plan.program.shape (state_of m heap))
  leads_typed = laws.typed plan.program ordered.here.0 p section point (state_of m heap) ordered.well_formed ordered.here.1 at typed_state

  pub can_execute : ((lock : Lock) → IsListed plan.program section plan.ranks lists p m.locals lock →
      Contains held lock) →
      ((cell : ℕ) (lock : Lock) → lock_of_cell plan.program cell ≡ Some lock → Contains held lock → IsSeen (held_value m.memory) cell) →
      CanExecute plan.program.shape point (state_of m heap) (held_value m.memory)
  can_execute all has = record {
    shows = shows;
    covers = covers all has;
    sound = λ e. subst (LeadsToTyped plan.program (local_types section.locals.items)) e leads_typed;
  }
