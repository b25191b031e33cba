-- Statements over the memory that all threads share have the same effect as over the cells that a section holds, and
-- reach no other cell.
use Rattle.std.proofs.Common.{◌≡◌, ◌≢◌, ◌⊎◌, ℕ, ℤ, Bool, true, false, not, if◌then◌else◌, List, [], ◌∷◌, length, Option, Some, None}
use Rattle.std.proofs.Common.{◌++◌, slice_get, refl, sym, ap, ◌∙◌, subst, inl, inr}
use Rattle.std.specs.Prelude.{slice_set, nat_lt, ⊤}
use Rattle.std.specs.List.{Contains}
use Rattle.std.proofs.lemmas.Bool.{cases_eq}
use Rattle.std.proofs.lemmas.List.{length-set}
use Rattle.std.proofs.lemmas.Option.{none-some, slice_get_within}
use Rattle.core_lang.specs.declared.value.Value.{Value}
use Rattle.core_lang.specs.declared.value.Value.TheVariants.{Int}
use Rattle.core_lang.specs.declared.value.Trap.{Trap as Cause}
use Rattle.core_lang.specs.declared.value.Trap.TheVariants.{Overflow, TooManyPrints}
use Rattle.core_lang.specs.declared.value.Outcome.TheVariants.{Traps}
use Rattle.core_lang.specs.declared.shape.Shape.{Shape}
use Rattle.core_lang.specs.Arithmetic.{fits, is_zero}
use Rattle.core_lang.specs.Typing.{lookup}
use Rattle.core_lang.specs.Theory.Items.{in_cases, not_in_none}
use Rattle.code.specs.Memory.{HeldCells, value_at, with_changed, noted, read_if_held, load_held, write_if_held, store_held}
use Rattle.code.specs.Memory.{beside, load_from, written_where, store_to}
use Rattle.code.specs.Theory.Values.{changed_same, changed_other, set_here, set_there}
use Rattle.c_language.specs.declared.statement.Temporary.{Temporary}
use Rattle.c_language.specs.declared.statement.RightSide.{RightSide}
use Rattle.c_language.specs.declared.statement.RightSide.TheVariants as side
use Rattle.c_language.specs.declared.statement.Statement.{Statement}
use Rattle.c_language.specs.declared.statement.Statement.TheVariants as statement
use Rattle.c_language.specs.Meaning.{Frame, After, Next, At_label, At_end, Anything, value, number_in, pointer_in, kept, right, does, run}
use Rattle.c_language.specs.Meaning.{array_cell, field_of, is_not_owned, test, by_numbers, exactly}
use Rattle.c_language.specs.declared.statement.Test.{Test}
use Rattle.c_language.specs.declared.statement.Test.TheVariants as condition
use Rattle.c_language.specs.Meaning.{set_to, with_temporary, assigned, remembered, checked, trap_if, jumps_on, is_as, returned, printed, stored, goes_on}
use Rattle.c_threads.specs.Accesses.{if_cell, reads, accesses, and_then, all_accesses}

pub some_or_none : {X : Type 0} (x : Option X) → ((v : X) × (x ≡ Some v)) ⊎ (x ≡ None)
some_or_none None = inr refl
some_or_none (Some v) = inl (v, refl)

-- ---- a memory beside held cells

-- the memory has what the held cells have
abbrev pub Sees : List Value → HeldCells → Type 0
Sees cells held = (c : ℕ) (v : Value) → value_at held.cells c ≡ Some v → slice_get cells c ≡ Some v

-- the memory and the held cells after a step: the same cells are held, and elsewhere the memory stays as it was
pub record Kept (cells : List Value) (held : HeldCells) (after : List Value) (now : HeldCells) : Type 0 where
  pub sees : Sees after now
  pub size : length after ≡ length cells
  pub others : (c : ℕ) → value_at held.cells c ≡ None → (value_at now.cells c ≡ None) × (slice_get after c ≡ slice_get cells c)

pub kept_same : (cells : List Value) (held now : HeldCells) → Sees cells held → now.cells ≡ held.cells → Kept cells held cells now
kept_same cells held now sees e = record {
  sees = λ c v is. sees c v (sym (ap (λ xs. value_at xs c) e) ∙ is);
  size = refl;
  others = λ c none. (ap (λ xs. value_at xs c) e ∙ none, refl);
}

kept_on : (a b c : List Value) (x y z : HeldCells) → Kept a x b y → Kept b y c z → Kept a x c z
kept_on a b c x y z k l = record {
  sees = l.sees;
  size = l.size ∙ k.size;
  others = λ n none. (let one = k.others n none in let two = l.others n one.0 in (two.0, two.1 ∙ one.1));
}

-- a cell that is held after the step was held before it
pub held_before : (a b : List Value) (x y : HeldCells) (c : ℕ) (v : Value) → Kept a x b y → value_at y.cells c ≡ Some v →
    (w : Value) × (value_at x.cells c ≡ Some w)
held_before a b x y c v k is = elim (some_or_none (value_at x.cells c)) [
  | inl s ↦ s
  | inr n ↦ absurd (let bad : None ≡ Some v = sym (k.others c n).0 ∙ is in cc bad)
]

written_kept : (cells : List Value) (held : HeldCells) (c : ℕ) (old v : Value) (now : HeldCells) → Sees cells held →
    value_at held.cells c ≡ Some old → now.cells ≡ with_changed held.cells c v → Kept cells held (slice_set cells c v) now
written_kept cells held c old v now sees there is = record {
  sees = λ k w at. (let at' : value_at (with_changed held.cells c v) k ≡ Some w = sym (ap (λ xs. value_at xs k) is) ∙ at in
      elim (cases_eq c k) [
        | inl e ↦ (let now_is : Some v ≡ Some w = sym (changed_same held.cells c old v there) ∙ (ap (value_at (with_changed held.cells c v)) e ∙ at') in
            ap (slice_get (slice_set cells c v)) (sym e) ∙ set_here cells c v (slice_get_within cells c old (sees c old there)) ∙ now_is)
        | inr ne ↦ set_there cells c k v (λ q. ne (sym q)) ∙ sees k w (sym (changed_other held.cells c k v ne) ∙ at')
      ]);
  size = length-set cells c v;
  others = λ k none. (let ne : c ≢ k = (λ e. let bad : None ≡ Some old = sym none ∙ (ap (value_at held.cells) (sym e) ∙ there) in cc bad) in
      (ap (λ xs. value_at xs k) is ∙ changed_other held.cells c k v ne ∙ none, set_there cells c k v (λ q. ne (sym q))));
}

-- ---- right sides

-- a read of the memory has the value of the read of the held cells, if that has one
abbrev ReadAlike : List Value → HeldCells → Option (Value × HeldCells) → Option (Value × List Value) → Type 0
ReadAlike cells held None y = ⊤
ReadAlike cells held (Some r) None = ⊥
ReadAlike cells held (Some r) (Some q) = (q.0 ≡ r.0) × (q.1 ≡ cells) × (r.1.cells ≡ held.cells)

noted_cells : (held : HeldCells) (c : ℕ) (v : Value) (o : Option Value) → (noted held c v o).cells ≡ held.cells
noted_cells held c v None = refl
noted_cells held c v (Some w) = refl

load_alike : (cells : List Value) (held : HeldCells) (c : ℕ) → Sees cells held → ReadAlike cells held (load_held held c) (load_from cells c)
load_alike cells held c sees = by (value_at held.cells c) refl
  where
    by : (o : Option Value) → value_at held.cells c ≡ o → ReadAlike cells held (read_if_held held c o) (load_from cells c)
    by None e = tt
    by (Some v) e = subst (λ x. ReadAlike cells held (read_if_held held c (Some v)) (beside cells x)) (sym (sees c v e)) (refl, refl, noted_cells held c v (value_at held.writes c))

kept_alike : (cells : List Value) (held : HeldCells) (o : Option Value) → ReadAlike cells held (kept held o) (kept cells o)
kept_alike cells held None = tt
kept_alike cells held (Some v) = (refl, refl, refl)

lookup_alike : (cells : List Value) (held : HeldCells) (o : Option ℕ) → Sees cells held →
    ReadAlike cells held (lookup o (λ c. load_held held c)) (lookup o (λ c. load_from cells c))
lookup_alike cells held None sees = tt
lookup_alike cells held (Some c) sees = load_alike cells held c sees

-- ---- frames

-- the same frame over the memory
abbrev pub over : Frame HeldCells → List Value → Frame (List Value)
over f cells = record { variables = f.variables; temporaries = f.temporaries; memory = cells; prints = f.prints }

-- a frame over the memory is in the state of a frame over held cells; both follow others
pub record Together (cells : List Value) (held : HeldCells) (f : Frame HeldCells) (g : Frame (List Value)) : Type 0 where
  pub is : g ≡ over f g.memory
  pub kept : Kept cells held g.memory f.memory

-- both effects lead to the same state, unless C leaves it undefined over the held cells
abbrev pub Alike : List Value → HeldCells → After HeldCells → After (List Value) → Type 0
Alike cells held (Next f) (Next g) = Together cells held f g
Alike cells held (Next f) (At_label label g) = ⊥
Alike cells held (Next f) (At_end outcome g) = ⊥
Alike cells held (Next f) Anything = ⊥
Alike cells held (At_label label f) (At_label other g) = (other ≡ label) × Together cells held f g
Alike cells held (At_label label f) (Next g) = ⊥
Alike cells held (At_label label f) (At_end outcome g) = ⊥
Alike cells held (At_label label f) Anything = ⊥
Alike cells held (At_end outcome f) (At_end other g) = (other ≡ outcome) × Together cells held f g
Alike cells held (At_end outcome f) (Next g) = ⊥
Alike cells held (At_end outcome f) (At_label label g) = ⊥
Alike cells held (At_end outcome f) Anything = ⊥
Alike cells held Anything y = ⊤

module _ (shape : Shape) (f : Frame HeldCells) (cells : List Value) (sees : Sees cells f.memory) where
  stays : Together cells f.memory f (over f cells)
  stays = record { is = refl; kept = kept_same cells f.memory f.memory sees refl }

  right_alike : (r : RightSide) → ReadAlike cells f.memory (right load_held store_held shape r f) (right load_from store_to shape r (over f cells))
  right_alike (side.Same a) = kept_alike cells f.memory (value a f)
  right_alike (side.Negative a) = kept_alike cells f.memory _
  right_alike (side.Quotient a b) = kept_alike cells f.memory _
  right_alike (side.Remainder a b) = kept_alike cells f.memory _
  right_alike (side.Compares c a b) = kept_alike cells f.memory _
  right_alike (side.Inverse a) = kept_alike cells f.memory _
  right_alike (side.Global cell) = load_alike cells f.memory cell sees
  right_alike (side.Element array a) = lookup_alike cells f.memory (lookup (number_in (value a f)) (array_cell load_held store_held shape array)) sees
  right_alike (side.Member pool a) = kept_alike cells f.memory _
  right_alike (side.Field a x) = lookup_alike cells f.memory (lookup (pointer_in (value a f)) (λ r. field_of load_held store_held shape r x.number)) sees
  right_alike (side.Final a x) = kept_alike cells f.memory _

  set_alike : (t : Temporary) (r : Option (Value × HeldCells)) (q : Option (Value × List Value)) → ReadAlike cells f.memory r q →
      Alike cells f.memory (set_to f t r) (set_to (over f cells) t q)
  set_alike t None q h = tt
  set_alike t (Some r) None h = absurd h
  set_alike t (Some r) (Some q) h = record {
    is = ap (λ v. with_temporary (record (over f cells) { memory = q.1 }) t v) h.0;
    kept = subst (λ xs. Kept cells f.memory xs r.1) (sym h.1) (kept_same cells f.memory r.1 sees h.2);
  }

  assign_alike : (k : ℕ) (old v : Option Value) → Alike cells f.memory (assigned f k old v) (assigned (over f cells) k old v)
  assign_alike k (Some old) (Some v) = record { is = refl; kept = kept_same cells f.memory f.memory sees refl }
  assign_alike k (Some old) None = tt
  assign_alike k None v = tt

  check_alike : (t : Temporary) (z : Option ℤ) → Alike cells f.memory (checked f t z) (checked (over f cells) t z)
  check_alike t None = tt
  check_alike t (Some z) = by (fits z)
    where
      by : (b : Bool) → Alike cells f.memory (if b then Next (with_temporary f t (Int z)) else At_end (Traps Overflow) f)
          (if b then Next (with_temporary (over f cells) t (Int z)) else At_end (Traps Overflow) (over f cells))
      by true = record { is = refl; kept = kept_same cells f.memory f.memory sees refl }
      by false = (refl, stays)

  trap_alike : (o : Option Bool) (t : Cause) → Alike cells f.memory (trap_if o t f) (trap_if o t (over f cells))
  trap_alike (Some true) t = (refl, stays)
  trap_alike (Some false) t = stays
  trap_alike None t = tt

  store_alike : (c : Option ℕ) (v : Option Value) →
      Alike cells f.memory (stored load_held store_held shape f c v) (stored load_from store_to shape (over f cells) c v)
  store_alike None v = tt
  store_alike (Some c) None = tt
  store_alike (Some c) (Some v) = by (value_at f.memory.cells c) refl
    where
      by : (o : Option Value) → value_at f.memory.cells c ≡ o →
          Alike cells f.memory (remembered f (write_if_held f.memory o c v)) (remembered (over f cells) (store_to cells c v))
      by None e = tt
      by (Some old) e =
          subst (λ x. Alike cells f.memory (remembered f (write_if_held f.memory (Some old) c v)) (remembered (over f cells) (written_where x cells c v)))
          (sym (sees c old e)) (record { is = refl; kept = written_kept cells f.memory c old v _ sees e refl })

  print_alike : (n : Option ℤ) → Alike cells f.memory (printed f n) (printed (over f cells) n)
  print_alike None = tt
  print_alike (Some n) = by (nat_lt (length f.prints) 256)
    where
      by : (b : Bool) → Alike cells f.memory (if b then Next (record f { prints = f.prints ++ n ∷ [] }) else At_end (Traps TooManyPrints) f)
          (if b then Next (record (over f cells) { prints = f.prints ++ n ∷ [] }) else At_end (Traps TooManyPrints) (over f cells))
      by true = record { is = refl; kept = kept_same cells f.memory f.memory sees refl }
      by false = (refl, stays)

  jump_alike : (n : Option ℤ) (on : Bool) (label : ℕ) → Alike cells f.memory (jumps_on n on label f) (jumps_on n on label (over f cells))
  jump_alike None on label = tt
  jump_alike (Some n) on label = by (is_as on (not (is_zero n)))
    where
      by : (b : Bool) → Alike cells f.memory (if b then At_label label f else Next f) (if b then At_label label (over f cells) else Next (over f cells))
      by true = (refl, stays)
      by false = stays

  return_alike : (v : Option Value) → Alike cells f.memory (returned f v) (returned (over f cells) v)
  return_alike None = tt
  return_alike (Some v) = (refl, stays)

  test_same : (c : Test) → test load_from store_to shape c (over f cells) ≡ test load_held store_held shape c f
  test_same (condition.IsNull a) = refl
  test_same (condition.IsNoElement array a) = refl
  test_same (condition.IsNoMember pool a) = refl
  test_same (condition.IsZero a) = refl
  test_same (condition.IsLeast a) = refl
  test_same (condition.IsLeastByMinusOne a b) = refl
  test_same (condition.IsNotOwned a x k) = owner_same (pointer_in (value a f))
    where
      none_owned : (r : Option ℕ) → is_not_owned load_from store_to shape r x.number (slice_get f.variables k) ≡ is_not_owned load_held store_held shape r x.number (slice_get f.variables k)
      none_owned None = refl
      none_owned (Some o) = refl

      owner_same : (r : Option (Option ℕ)) →
          lookup r (λ r. is_not_owned load_from store_to shape r x.number (slice_get f.variables k)) ≡ lookup r (λ r. is_not_owned load_held store_held shape r x.number (slice_get f.variables k))
      owner_same None = refl
      owner_same (Some r) = none_owned r

  does_alike : (s : Statement) → Alike cells f.memory (does load_held store_held shape s f) (does load_from store_to shape s (over f cells))
  does_alike (statement.Set t r) = set_alike t (right load_held store_held shape r f) (right load_from store_to shape r (over f cells)) (right_alike r)
  does_alike (statement.Assign k a) = assign_alike k (slice_get f.variables k) (value a f)
  does_alike (statement.Check o t a b) = check_alike t (by_numbers (value a f) (value b f) (λ x y. Some (exactly o x y)))
  does_alike (statement.TrapIf c t) =
      subst (λ o. Alike cells f.memory (trap_if (test load_held store_held shape c f) t f) (trap_if o t (over f cells))) (sym (test_same c))
      (trap_alike (test load_held store_held shape c f) t)
  does_alike (statement.StoreGlobal cell a) = store_alike (Some cell) (value a f)
  does_alike (statement.StoreElement array i a) = store_alike (lookup (number_in (value i f)) (array_cell load_held store_held shape array)) (value a f)
  does_alike (statement.StoreField base x a) = store_alike (lookup (pointer_in (value base f)) (λ r. field_of load_held store_held shape r x.number)) (value a f)
  does_alike (statement.Print a) = print_alike (number_in (value a f))
  does_alike (statement.Goto label) = (refl, stays)
  does_alike (statement.GotoIf on a label) = jump_alike (number_in (value a f)) on label
  does_alike (statement.ReturnValue a) = return_alike (value a f)
  does_alike statement.Finish = (refl, stays)

-- ---- one after another

-- effects that are alike stay alike after other statements
alike_on : (a b : List Value) (x y : HeldCells) (u : After HeldCells) (v : After (List Value)) → Kept a x b y → Alike b y u v → Alike a x u v
alike_on a b x y (Next f) (Next g) k h = record { is = h.is; kept = kept_on a b g.memory x y f.memory k h.kept }
alike_on a b x y (Next f) (At_label label g) k h = absurd h
alike_on a b x y (Next f) (At_end outcome g) k h = absurd h
alike_on a b x y (Next f) Anything k h = absurd h
alike_on a b x y (At_label label f) (At_label other g) k h = (h.0, record { is = h.1.is; kept = kept_on a b g.memory x y f.memory k h.1.kept })
alike_on a b x y (At_label label f) (Next g) k h = absurd h
alike_on a b x y (At_label label f) (At_end outcome g) k h = absurd h
alike_on a b x y (At_label label f) Anything k h = absurd h
alike_on a b x y (At_end outcome f) (At_end other g) k h = (h.0, record { is = h.1.is; kept = kept_on a b g.memory x y f.memory k h.1.kept })
alike_on a b x y (At_end outcome f) (Next g) k h = absurd h
alike_on a b x y (At_end outcome f) (At_label label g) k h = absurd h
alike_on a b x y (At_end outcome f) Anything k h = absurd h
alike_on a b x y Anything v k h = tt

module _ (shape : Shape) where
  goes_alike : (cells : List Value) (held : HeldCells) (ss : List Statement) (u : After HeldCells) (v : After (List Value)) →
      ((g : Frame HeldCells) (now : List Value) → Sees now g.memory →
      Alike now g.memory (run load_held store_held shape ss g) (run load_from store_to shape ss (over g now))) →
      Alike cells held u v → Alike cells held (goes_on u (run load_held store_held shape ss)) (goes_on v (run load_from store_to shape ss))
  goes_alike cells held ss (Next f) (Next g) go h =
      subst (λ x. Alike cells held (run load_held store_held shape ss f) (run load_from store_to shape ss x)) (sym h.is)
      (alike_on cells g.memory held f.memory _ _ h.kept (go f g.memory h.kept.sees))
  goes_alike cells held ss (Next f) (At_label label g) go h = absurd h
  goes_alike cells held ss (Next f) (At_end outcome g) go h = absurd h
  goes_alike cells held ss (Next f) Anything go h = absurd h
  goes_alike cells held ss (At_label label f) (At_label other g) go h = h
  goes_alike cells held ss (At_label label f) (Next g) go h = absurd h
  goes_alike cells held ss (At_label label f) (At_end outcome g) go h = absurd h
  goes_alike cells held ss (At_label label f) Anything go h = absurd h
  goes_alike cells held ss (At_end outcome f) (At_end other g) go h = h
  goes_alike cells held ss (At_end outcome f) (Next g) go h = absurd h
  goes_alike cells held ss (At_end outcome f) (At_label label g) go h = absurd h
  goes_alike cells held ss (At_end outcome f) Anything go h = absurd h
  goes_alike cells held ss Anything v go h = tt

  pub runs_alike : (ss : List Statement) (f : Frame HeldCells) (cells : List Value) → Sees cells f.memory →
      Alike cells f.memory (run load_held store_held shape ss f) (run load_from store_to shape ss (over f cells))
  runs_alike [] f cells sees = record { is = refl; kept = kept_same cells f.memory f.memory sees refl }
  runs_alike (s ∷ ss) f cells sees =
      goes_alike cells f.memory ss (does load_held store_held shape s f) (does load_from store_to shape s (over f cells))
      (runs_alike ss) (does_alike shape f cells sees s)

  -- ---- accesses

  abbrev HasCell : HeldCells → ℕ → Type 0
  HasCell held c = (v : Value) × (value_at held.cells c ≡ Some v)

  -- a cell that is read of held cells is held
  load_has : (held : HeldCells) (c : ℕ) → (load_held held c ≡ None → ⊥) → HasCell held c
  load_has held c some = elim (some_or_none (value_at held.cells c)) [
    | inl s ↦ s
    | inr n ↦ absurd (some (ap (read_if_held held c) n))
  ]

  store_has : (f : Frame HeldCells) (c : ℕ) (v : Option Value) → (stored load_held store_held shape f (Some c) v ≡ Anything → ⊥) → HasCell f.memory c
  store_has f c None some = absurd (some refl)
  store_has f c (Some v) some = elim (some_or_none (value_at f.memory.cells c)) [
    | inl s ↦ s
    | inr n ↦ absurd (some (ap (λ o. remembered f (write_if_held f.memory o c v)) n))
  ]

  right_has : (r : RightSide) (f : Frame HeldCells) (cells : List Value) (c : ℕ) → reads load_from store_to shape r (over f cells) ≡ Some c →
      (right load_held store_held shape r f ≡ None → ⊥) → HasCell f.memory c
  right_has (side.Global cell) f cells c e some = (let same : cell ≡ c = cc e in subst (HasCell f.memory) same (load_has f.memory cell some))
  right_has (side.Element array a) f cells c e some =
      load_has f.memory c (λ none. some (ap (λ o. lookup o (load_held f.memory)) e ∙ none))
  right_has (side.Field a x) f cells c e some =
      load_has f.memory c (λ none. some (ap (λ o. lookup o (load_held f.memory)) e ∙ none))
  right_has (side.Same a) f cells c e some = absurd (none-some c e)
  right_has (side.Negative a) f cells c e some = absurd (none-some c e)
  right_has (side.Quotient a b) f cells c e some = absurd (none-some c e)
  right_has (side.Remainder a b) f cells c e some = absurd (none-some c e)
  right_has (side.Compares o a b) f cells c e some = absurd (none-some c e)
  right_has (side.Inverse a) f cells c e some = absurd (none-some c e)
  right_has (side.Member pool a) f cells c e some = absurd (none-some c e)
  right_has (side.Final a x) f cells c e some = absurd (none-some c e)

  does_has : (s : Statement) (f : Frame HeldCells) (cells : List Value) (c : ℕ) → accesses load_from store_to shape s (over f cells) ≡ Some c →
      (does load_held store_held shape s f ≡ Anything → ⊥) → HasCell f.memory c
  does_has (statement.Set t r) f cells c e some = right_has r f cells c e (λ none. some (ap (set_to f t) none))
  does_has (statement.StoreGlobal cell a) f cells c e some = (let same : cell ≡ c = cc e in
      subst (HasCell f.memory) same (store_has f cell (value a f) some))
  does_has (statement.StoreElement array i a) f cells c e some =
      store_has f c (value a f) (λ none. some (ap (λ o. stored load_held store_held shape f o (value a f)) e ∙ none))
  does_has (statement.StoreField base x a) f cells c e some =
      store_has f c (value a f) (λ none. some (ap (λ o. stored load_held store_held shape f o (value a f)) e ∙ none))
  does_has (statement.Assign k a) f cells c e some = absurd (none-some c e)
  does_has (statement.Check o t a b) f cells c e some = absurd (none-some c e)
  does_has (statement.TrapIf t k) f cells c e some = absurd (none-some c e)
  does_has (statement.Print a) f cells c e some = absurd (none-some c e)
  does_has (statement.Goto label) f cells c e some = absurd (none-some c e)
  does_has (statement.GotoIf on a label) f cells c e some = absurd (none-some c e)
  does_has (statement.ReturnValue a) f cells c e some = absurd (none-some c e)
  does_has statement.Finish f cells c e some = absurd (none-some c e)

  first_or_rest : (o : Option ℕ) (rest : List ℕ) (c : ℕ) → Contains (if_cell o rest) c → (o ≡ Some c) ⊎ Contains rest c
  first_or_rest None rest c h = inr h
  first_or_rest (Some d) rest c h = elim (in_cases d c rest h) [ inl e ↦ inl (ap Some e) | inr r ↦ inr r ]

  -- each cell that statements reach is held, if they do nothing undefined over the held cells
  pub reached_held : (ss : List Statement) (f : Frame HeldCells) (cells : List Value) (c : ℕ) → Sees cells f.memory →
      (run load_held store_held shape ss f ≡ Anything → ⊥) → Contains (all_accesses load_from store_to shape ss (over f cells)) c → HasCell f.memory c
  reached_held [] f cells c sees some h = absurd (not_in_none c h)
  reached_held (s ∷ ss) f cells c sees some h =
      elim (first_or_rest (accesses load_from store_to shape s (over f cells)) _ c h) [
        | inl e ↦ does_has s f cells c e (λ any. some (ap (λ u. goes_on u (run load_held store_held shape ss)) any))
        | inr r ↦ later (does load_held store_held shape s f) (does load_from store_to shape s (over f cells)) (does_alike shape f cells sees s) some r (reached_held ss)
      ]
    where
      later : (u : After HeldCells) (v : After (List Value)) → Alike cells f.memory u v →
          (goes_on u (run load_held store_held shape ss) ≡ Anything → ⊥) →
          Contains (and_then load_from store_to shape v (all_accesses load_from store_to shape ss)) c →
          ((g : Frame HeldCells) (now : List Value) (c : ℕ) → Sees now g.memory → (run load_held store_held shape ss g ≡ Anything → ⊥) →
          Contains (all_accesses load_from store_to shape ss (over g now)) c → HasCell g.memory c) → HasCell f.memory c
      later (Next g) (Next x) k any r rest =
          let mine = rest g x.memory c k.kept.sees any (subst (λ y. Contains (all_accesses load_from store_to shape ss y) c) k.is r) in
          held_before cells x.memory f.memory g.memory c mine.0 k.kept mine.1
      later (Next g) (At_label label x) k any r rest = absurd k
      later (Next g) (At_end outcome x) k any r rest = absurd k
      later (Next g) Anything k any r rest = absurd k
      later (At_label label g) (Next x) k any r rest = absurd k
      later (At_label label g) (At_label other x) k any r rest = absurd (not_in_none c r)
      later (At_label label g) (At_end outcome x) k any r rest = absurd k
      later (At_label label g) Anything k any r rest = absurd k
      later (At_end outcome g) (Next x) k any r rest = absurd k
      later (At_end outcome g) (At_label label x) k any r rest = absurd k
      later (At_end outcome g) (At_end other x) k any r rest = absurd (not_in_none c r)
      later (At_end outcome g) Anything k any r rest = absurd k
      later Anything v k any r rest = absurd (any refl)
