-- A well-typed section never goes astray, and leaves each value of its type.
use Rattle.std.proofs.Common.{◌≡◌, ℕ, zero, suc, ◌+◌, ◌<◌, ◌^◌, List, [], ◌∷◌, ◌++◌, length, take, Option, Some, None}
use Rattle.std.proofs.Common.{Result, Ok, Err, Bool, true, false, ℤ, pos, negsuc, refl, sym, ap, ◌∙◌, subst, arith}
use Rattle.std.proofs.lemmas.Bool.Decides.{nat_tests}
use Rattle.std.proofs.lemmas.Option.{slice_get_within}
use Rattle.std.specs.Prelude.{slice_get, slice_set, nat_lt, int_div, int_rem, ◌+ℤ◌, ◌-ℤ◌, ◌*ℤ◌, neg_ℤ, if◌then◌else◌, ⊤}
use Rattle.core_lang.specs.declared.value.Value.{Value}
use Rattle.core_lang.specs.declared.value.Value.TheVariants.{Int, Ref}
use Rattle.core_lang.specs.declared.value.ValueType.{ValueType}
use Rattle.core_lang.specs.declared.value.ValueType.TheVariants.{Integer, Reference}
use Rattle.core_lang.specs.declared.value.Trap.TheVariants.{OutOfRange, Overflow, ZeroDivisor, TooManyPrints}
use Rattle.core_lang.specs.declared.value.Failure.{Failure}
use Rattle.core_lang.specs.declared.value.Failure.TheVariants.{Trap, Wrong}
use Rattle.core_lang.specs.declared.shape.Array.{Array}
use Rattle.core_lang.specs.declared.shape.Pool.{Pool}
use Rattle.core_lang.specs.declared.shape.Object.{Object}
use Rattle.core_lang.specs.declared.shape.Shape.{Shape}
use Rattle.core_lang.specs.declared.tree.Operator.{Operator}
use Rattle.core_lang.specs.declared.tree.Operator.TheVariants.{Add, Sub, Mul, Div, Rem}
use Rattle.core_lang.specs.declared.tree.Comparison.{Comparison}
use Rattle.core_lang.specs.declared.tree.Comparison.TheVariants.{Equal, NotEqual, Less, LessOrEqual, Greater}
use Rattle.core_lang.specs.declared.tree.Comparison.TheVariants.{GreaterOrEqual}
use Rattle.core_lang.specs.declared.tree.FieldStep.{FieldStep}
use Rattle.core_lang.specs.declared.tree.FieldStep.TheVariants as step
use Rattle.core_lang.specs.declared.tree.Path.{Path}
use Rattle.core_lang.specs.declared.tree.Expr.{Expr, Number, Null, Place, Global, Element', Member', Negate', Owned'}
use Rattle.core_lang.specs.declared.tree.Expr.{Chain', Row_of-Operation, end_of-Operation, more_of-Operation}
use Rattle.core_lang.specs.declared.tree.Condition.{Condition, Compare, Not', And', Or', Row_of-Condition}
use Rattle.core_lang.specs.declared.tree.Condition.{end_of-Condition, more_of-Condition}
use Rattle.core_lang.specs.declared.tree.Stmt.{Stmt}
use Rattle.core_lang.specs.declared.tree.Action.{Action, Bind, SetLocal, SetGlobal, SetElement, SetField, Call, Print}
use Rattle.core_lang.specs.declared.tree.Action.{If', IfElse', While', Row_of-Stmt, end_of-Stmt, more_of-Stmt}
use Rattle.core_lang.specs.declared.tree.Return.{Return}
use Rattle.core_lang.specs.declared.typed.Cell.{Cell}
use Rattle.core_lang.specs.declared.typed.CellOwner.{CellOwner}
use Rattle.core_lang.specs.declared.typed.CellOwner.TheVariants as owner
use Rattle.core_lang.specs.declared.typed.Typed.{Typed}
use Rattle.core_lang.specs.Arithmetic.{fits, is_zero, number_of, arithmetic, on_values, negated, compared}
use Rattle.core_lang.specs.Cells.{with, found, at_index, element_cell, reference_to, member_of, field_cell, final_value}
use Rattle.core_lang.specs.Cells.{if_named, owned, not_null, read}
use Rattle.core_lang.specs.Meaning.{State, Flow, GoesOn, Traps, Beyond, Astray, Helpers, Run, Over, Beyond_turns}
use Rattle.core_lang.specs.Meaning.{Gone_astray, along, place_of, joined, value_of, chained, values_of, and_then}
use Rattle.core_lang.specs.Meaning.{or_else, truth_of, all_true, any_true, given, after, choose, printed, written}
use Rattle.core_lang.specs.Meaning.{stored, turns, received, back, effect_by, effects_by, sequence_by, run_from}
use Rattle.core_lang.specs.Meaning.{if_there, helped, deepest}
use Rattle.core_lang.specs.Whole.{opening, returned, ending, concluded}
use Rattle.core_lang.specs.declared.value.Outcome.{Outcome}
use Rattle.core_lang.specs.declared.value.Outcome.TheVariants as out
use Rattle.core_lang.specs.declared.tree.Section.{Section}
use Rattle.core_lang.specs.Typing.{IsHeap, CanEnd, AreOf, Takes, IsWellTypedSection, lookup, struct_of, HasType}
use Rattle.core_lang.specs.Typing.{HaveTypes, local_types, cell_types, final_target, field_type, if_global, global_type}
use Rattle.core_lang.specs.Typing.{array_type, pool_struct, LeadsTo, IsPathTo, IsOf, AreIntegers, CanCompare, IsTest}
use Rattle.core_lang.specs.Typing.{AreTests, GivesLocal, IsWellTyped, AreWellTyped, AllWellTyped, IsResult}
use Rattle.core_lang.specs.Helpers.{CallsOnly, AllCallOnly, EachCallsOnly, IsAtMostDeep}
use Rattle.core_lang.specs.WellFormed.{IsChecked, IsCell, IsLaidOut, IsWithinLimits}
use Rattle.core_lang.specs.Working.Soundness.{Gives, IsTypedState, LeadsToTyped, ValuesHaveTheirTypes, TestsDecide}
use Rattle.core_lang.specs.Working.Soundness.{EffectsStayTyped}
use Rattle.core_lang.specs.Laws.{StaysTyped, NeverGoAstray}
use Rattle.core_lang.specs.Theory.Openings.{opening_has}
use Rattle.core_lang.specs.Theory.Items.{map_at, lookup_some}

gives_with : {A B : Type 0} (P : A → Type 0) (Q : B → Type 0) (r : Result A Failure) (f : A → Result B Failure) →
    Gives P r → ((a : A) → P a → Gives Q (f a)) → Gives Q (with r f)
gives_with P Q (Ok a) f h k = k a h
gives_with P Q (Err (Trap t)) f h k = tt
gives_with P Q (Err Wrong) f h k = absurd h

gives_if : {A : Type 0} (P : A → Type 0) (b : Bool) (r q : Result A Failure) → Gives P r → Gives P q →
    Gives P (if b then r else q)
gives_if P true r q h k = h
gives_if P false r q h k = k

-- ---- lists of values

value_there : (shape : Shape) (ts : List ValueType) (vs : List Value) (i : ℕ) (t : ValueType) →
    HaveTypes shape ts vs → slice_get ts i ≡ Some t → Gives (HasType shape t) (found (slice_get vs i))
value_there shape [] [] i t h e = cc
value_there shape [] (v ∷ vs) i t h e = absurd h
value_there shape (t1 ∷ ts) [] i t h e = absurd h
value_there shape (t1 ∷ ts) (v ∷ vs) zero t h e = let same : t1 ≡ t = cc in subst (λ t. HasType shape t v) same h.0
value_there shape (t1 ∷ ts) (v ∷ vs) (suc i) t h e = value_there shape ts vs i t h.1 e

types_set : (shape : Shape) (ts : List ValueType) (vs : List Value) (i : ℕ) (t : ValueType) (v : Value) →
    HaveTypes shape ts vs → slice_get ts i ≡ Some t → HasType shape t v → HaveTypes shape ts (slice_set vs i v)
types_set shape [] [] i t v h e w = h
types_set shape [] (x ∷ vs) i t v h e w = absurd h
types_set shape (t1 ∷ ts) [] i t v h e w = absurd h
types_set shape (t1 ∷ ts) (x ∷ vs) zero t v h e w = let same : t ≡ t1 = cc in (subst (λ t. HasType shape t v) same w, h.1)
types_set shape (t1 ∷ ts) (x ∷ vs) (suc i) t v h e w = (h.0, types_set shape ts vs i t v h.1 e w)

-- ---- operators

number_sound : (shape : Shape) (z : ℤ) → Gives (HasType shape Integer) (number_of z)
number_sound shape z = gives_if (HasType shape Integer) (fits z) (Ok (Int z)) (Err (Trap Overflow)) tt tt

arithmetic_sound : (shape : Shape) (o : Operator) (a b : ℤ) → Gives (HasType shape Integer) (arithmetic o a b)
arithmetic_sound shape Add a b = number_sound shape (a +ℤ b)
arithmetic_sound shape Sub a b = number_sound shape (a -ℤ b)
arithmetic_sound shape Mul a b = number_sound shape (a *ℤ b)
arithmetic_sound shape Div a b =
    gives_if (HasType shape Integer) (is_zero b) (Err (Trap ZeroDivisor)) (number_of (int_div a b)) tt (number_sound shape (int_div a b))
arithmetic_sound shape Rem a b =
    let inner = gives_if (HasType shape Integer) (fits (int_div a b)) (Ok (Int (int_rem a b))) (Err (Trap Overflow)) tt tt in
    gives_if (HasType shape Integer) (is_zero b) (Err (Trap ZeroDivisor)) (if fits (int_div a b) then Ok (Int (int_rem a b)) else Err (Trap Overflow)) tt inner

operate_sound : (shape : Shape) (o : Operator) (v w : Value) → HasType shape Integer v → HasType shape Integer w →
    Gives (HasType shape Integer) (on_values o v w)
operate_sound shape o (Int a) (Int b) h k = arithmetic_sound shape o a b
operate_sound shape o (Int a) (Ref r) h k = absurd k
operate_sound shape o (Ref r) w h k = absurd h

negate_sound : (shape : Shape) (v : Value) → HasType shape Integer v → Gives (HasType shape Integer) (negated v)
negate_sound shape (Int a) h = number_sound shape (neg_ℤ a)
negate_sound shape (Ref r) h = absurd h

abbrev IsAny : Bool → Type 0
IsAny b = ⊤

equal_sound : (shape : Shape) (t : ValueType) (v w : Value) → HasType shape t v → HasType shape t w →
    Gives IsAny (compared Equal v w)
equal_sound shape t (Int a) (Int b) h g = tt
equal_sound shape t (Ref a) (Ref b) h g = tt
equal_sound shape Integer (Int a) (Ref b) h g = absurd g
equal_sound shape (Reference s) (Int a) (Ref b) h g = absurd h
equal_sound shape Integer (Ref a) (Int b) h g = absurd h
equal_sound shape (Reference s) (Ref a) (Int b) h g = absurd g

not_equal_sound : (shape : Shape) (t : ValueType) (v w : Value) → HasType shape t v → HasType shape t w →
    Gives IsAny (compared NotEqual v w)
not_equal_sound shape t (Int a) (Int b) h g = tt
not_equal_sound shape t (Ref a) (Ref b) h g = tt
not_equal_sound shape Integer (Int a) (Ref b) h g = absurd g
not_equal_sound shape (Reference s) (Int a) (Ref b) h g = absurd h
not_equal_sound shape Integer (Ref a) (Int b) h g = absurd h
not_equal_sound shape (Reference s) (Ref a) (Int b) h g = absurd g

less_sound : (shape : Shape) (v w : Value) → HasType shape Integer v → HasType shape Integer w →
    Gives IsAny (compared Less v w)
less_sound shape (Int a) (Int b) h g = tt
less_sound shape (Int a) (Ref b) h g = absurd g
less_sound shape (Ref a) w h g = absurd h

less_or_equal_sound : (shape : Shape) (v w : Value) → HasType shape Integer v → HasType shape Integer w →
    Gives IsAny (compared LessOrEqual v w)
less_or_equal_sound shape (Int a) (Int b) h g = tt
less_or_equal_sound shape (Int a) (Ref b) h g = absurd g
less_or_equal_sound shape (Ref a) w h g = absurd h

greater_sound : (shape : Shape) (v w : Value) → HasType shape Integer v → HasType shape Integer w →
    Gives IsAny (compared Greater v w)
greater_sound shape (Int a) (Int b) h g = tt
greater_sound shape (Int a) (Ref b) h g = absurd g
greater_sound shape (Ref a) w h g = absurd h

greater_or_equal_sound : (shape : Shape) (v w : Value) → HasType shape Integer v → HasType shape Integer w →
    Gives IsAny (compared GreaterOrEqual v w)
greater_or_equal_sound shape (Int a) (Int b) h g = tt
greater_or_equal_sound shape (Int a) (Ref b) h g = absurd g
greater_or_equal_sound shape (Ref a) w h g = absurd h

index_if : (P : ℕ → Type 0) (first count i : ℕ) (b : Bool) → ((j : ℕ) → j < count → P (first + j)) →
    nat_lt i count ≡ b →
    Gives P (if b then Ok (first + i) else Err (Trap OutOfRange))
index_if P first count i true each lt = each i (grind (arith, nat_tests))
index_if P first count i false each lt = tt

index_sound : (P : ℕ → Type 0) (shape : Shape) (first count : ℕ) (v : Value) → ((j : ℕ) → j < count → P (first + j)) →
    HasType shape Integer v →
    Gives P (at_index first count v)
index_sound P shape first count (Int (pos i)) each h = index_if P first count i (nat_lt i count) each refl
index_sound P shape first count (Int (negsuc i)) each h = tt
index_sound P shape first count (Ref r) each h = absurd h

not_null_sound : (shape : Shape) (s : ℕ) (v : Value) → HasType shape (Reference s) v →
    Gives (HasType shape (Reference s)) (not_null v)
not_null_sound shape s (Int n) h = absurd h
not_null_sound shape s (Ref None) h = tt
not_null_sound shape s (Ref (Some o)) h = h

-- the struct of a pool's member is the pool's
member_struct : (shape : Shape) (o : ℕ) (object : Object) (p : ℕ) (pool : Pool) →
    slice_get shape.objects.items o ≡ Some object → object.pool ≡ p → slice_get shape.pools.items p ≡ Some pool → struct_of shape o ≡ Some pool.structure
member_struct shape o object p pool here same there =
    ap (λ (r : Option Object). lookup r (λ (x : Object). lookup (slice_get shape.pools.items x.pool) (λ (y : Pool). Some y.structure))) here
    ∙ ap (λ (q : ℕ). lookup (slice_get shape.pools.items q) (λ (y : Pool). Some y.structure)) same
    ∙ ap (λ (r : Option Pool). lookup r (λ (y : Pool). Some y.structure)) there

-- the end of a helper is well typed, if its arguments fit it
abbrev HelpersSound : Typed → (ℕ → Type 0) → Helpers → Type 0
HelpersSound program P call =
    (k : ℕ) → P k → (h : Section) → slice_get program.shape.helpers.items k ≡ Some h → (vs heap : List Value) (prints : List ℤ) →
    HaveTypes program.shape (local_types (take h.parameters h.locals.items)) vs → IsHeap program heap → StaysTyped program h.result_type (call k vs heap prints)

module _ (program : Typed) (types : List ValueType) (laid : IsLaidOut program) (within : IsWithinLimits program) where
  abbrev Has : ValueType → Value → Type 0
  Has t v = HasType program.shape t v

  -- a cell of a type
  abbrev IsCellOf : ValueType → ℕ → Type 0
  IsCellOf t cell = slice_get (cell_types program) cell ≡ Some t

  cell_type : (place : ℕ) (owner : CellOwner) (t : ValueType) → IsCell program place owner t → IsCellOf t place
  cell_type place owner t is = map_at (λ (cell : Cell). cell.value_type) program.cells.items place is.cell is.here ∙ ap Some is.typed

  global_owner : (o : CellOwner) (s t : ValueType) → if_global o s ≡ Some t → s ≡ t
  global_owner (owner.Global g) s t e = cc
  global_owner (owner.Element array index) s t e = cc
  global_owner (owner.Field object field) s t e = cc

  global_cell : (cell : ℕ) (t : ValueType) → global_type program cell ≡ Some t → IsCellOf t cell
  global_cell cell t e =
      let x = lookup_some (slice_get program.cells.items cell) (λ (c : Cell). if_global c.owner c.value_type) t e in
      map_at (λ (c : Cell). c.value_type) program.cells.items cell x.0 x.1 ∙ ap Some (global_owner x.0.owner x.0.value_type t x.2)

  abbrev IsTyped : State → Type 0
  IsTyped = IsTypedState program types

  element_sound : (array : ℕ) (v : Value) (t : ValueType) → array_type program array ≡ Some t → Has Integer v →
      Gives (IsCellOf t) (element_cell program.shape array v)
  element_sound array v t e h =
      let x = lookup_some (slice_get program.shape.arrays.items array) (λ (a : Array). Some a.element) t e in
      let same : x.0.element ≡ t = let s : Some x.0.element ≡ Some t = x.2 in cc in
      let each : (i : ℕ) → i < x.0.length → IsCellOf t (x.0.first + i) = λ i lt. cell_type _ _ _ (laid.array array x.0 x.1 i lt) ∙ ap Some same in
      subst (λ (r : Option Array). Gives (IsCellOf t) (with (found r) (λ (a : Array). at_index a.first a.length v))) (sym x.1)
      (index_sound (IsCellOf t) program.shape x.0.first x.0.length v each h)

  few_enough : (o : ℕ) → o < length program.shape.objects.items → o < 2 ^ 32
  few_enough o lt = let few = within.objects in grind arith

  reference_if : (o s : ℕ) (b : Bool) → struct_of program.shape o ≡ Some s → o < 2 ^ 32 → nat_lt o (2 ^ 32) ≡ b →
      Gives (Has (Reference s)) (if b then Ok (Ref (Some o)) else Err Wrong)
  reference_if o s true is lt e = is
  reference_if o s false is lt e = let wrong : ⊥ = grind (arith, nat_tests) in absurd wrong

  member_sound : (pool : ℕ) (v : Value) (s : ℕ) → pool_struct program pool ≡ Some s → Has Integer v →
      Gives (Has (Reference s)) (member_of program.shape pool v)
  member_sound pool v s e h =
      let x = lookup_some (slice_get program.shape.pools.items pool) (λ (p : Pool). Some p.structure) s e in
      let each : (i : ℕ) → i < x.0.length → (struct_of program.shape (x.0.first + i) ≡ Some s) × (x.0.first + i < length program.shape.objects.items) =
      λ i lt. let o = laid.pool pool x.0 x.1 i lt in
      (member_struct program.shape (x.0.first + i) o.0 pool x.0 o.1 o.2 x.1 ∙ x.2, slice_get_within program.shape.objects.items (x.0.first + i) o.0 o.1) in
      subst (λ (r : Option Pool). Gives (Has (Reference s)) (with (found r) (λ (p : Pool). with (at_index p.first p.length v) reference_to))) (sym x.1)
      (gives_with (λ o. (struct_of program.shape o ≡ Some s) × (o < length program.shape.objects.items)) (Has (Reference s)) (at_index x.0.first x.0.length v) reference_to
      (index_sound (λ o. (struct_of program.shape o ≡ Some s) × (o < length program.shape.objects.items)) program.shape x.0.first x.0.length v each h)
      (λ o k. let lt : o < 2 ^ 32 = few_enough o k.1 in reference_if o s (nat_lt o (2 ^ 32)) k.0 lt refl))

  field_sound : (v : Value) (s f : ℕ) (t : ValueType) → Has (Reference s) v → field_type program s f ≡ Some t →
      Gives (IsCellOf t) (field_cell program.shape v f)
  field_sound (Int n) s f t h e = absurd h
  field_sound (Ref None) s f t h e = tt
  field_sound (Ref (Some o)) s f t h e =
      let x = lookup_some (slice_get program.shape.objects.items o) (λ (x : Object). lookup (slice_get program.shape.pools.items x.pool) (λ (y : Pool). Some y.structure)) s h in
      subst (λ (r : Option Object). Gives (IsCellOf t) (with (found r) (λ (x : Object). Ok (x.cells + f)))) (sym x.1)
      (cell_type _ _ _ (laid.field o x.0 x.1 s f t h e))

  final_sound : (v : Value) (s f target : ℕ) → Has (Reference s) v → final_target program s f ≡ Some target →
      Gives (Has (Reference target)) (final_value program.shape v f)
  final_sound (Int n) s f target h e = absurd h
  final_sound (Ref None) s f target h e = tt
  final_sound (Ref (Some o)) s f target h e =
      let x = lookup_some (slice_get program.shape.objects.items o) (λ (x : Object). lookup (slice_get program.shape.pools.items x.pool) (λ (y : Pool). Some y.structure)) s h in
      let named = laid.final o x.0 x.1 s f target h e in
      subst (λ (r : Option Object). Gives (Has (Reference target)) (with (found r) (λ (x : Object). with (found (slice_get program.shape.finals.items (x.finals + f))) (λ n. Ok (Ref (Some n)))))) (sym x.1)
      (subst (λ (r : Option ℕ). Gives (Has (Reference target)) (with (found r) (λ n. Ok (Ref (Some n))))) (sym named.1) named.2)

  kept_sound : (b : Bool) (t : ValueType) (v : Value) → Has t v → Gives (Has t) (if_named b v)
  kept_sound true t v h = h
  kept_sound false t v h = tt

  equal_gives : (target : ℕ) (w o : Value) → Has (Reference target) w → Has (Reference target) o →
      Gives IsAny (compared Equal w o)
  equal_gives target w o h k = equal_sound program.shape (Reference target) w o h k

  owned_sound : (v o : Value) (s f target : ℕ) → Has (Reference s) v → final_target program s f ≡ Some target →
      Has (Reference target) o →
      Gives (Has (Reference s)) (owned program.shape v f o)
  owned_sound (Int n) o s f target h e k = absurd h
  owned_sound (Ref None) o s f target h e k = tt
  owned_sound (Ref (Some x)) o s f target h e k =
      gives_with (Has (Reference target)) (Has (Reference s)) (final_value program.shape (Ref (Some x)) f) _ (final_sound (Ref (Some x)) s f target h e)
      (λ w hw. gives_with IsAny (Has (Reference s)) (compared Equal w o) _ (equal_gives target w o hw k) (λ b _. kept_sound b (Reference s) (Ref (Some x)) h))

  read_sound : (heap : List Value) (cell : ℕ) (t : ValueType) → HaveTypes program.shape (cell_types program) heap →
      IsCellOf t cell → Gives (Has t) (read heap cell)
  read_sound heap cell t h e = value_there program.shape (cell_types program) heap cell t h e

  along_sound : (heap : List Value) → HaveTypes program.shape (cell_types program) heap →
      (from to : ValueType) (v : Value) (fs : List FieldStep) → Has from v → LeadsTo program types from fs to →
      Gives (Has to) (along program.shape heap v fs)
  along_sound heap hh from to v [] h l = subst (λ t. Has t v) l h
  along_sound heap hh Integer to v (f ∷ fs) h l = absurd l
  along_sound heap hh (Reference s) to v (step.Final k f ∷ fs) h l =
      gives_with (Has (Reference l.1)) (Has to) (final_value program.shape v f) _ (final_sound v s f l.1 h l.2)
      (λ w hw. along_sound heap hh (Reference l.1) to w fs hw l.3)
  along_sound heap hh (Reference s) to v (step.Field k f ∷ fs) h l =
      gives_with (Has l.1) (Has to) (with (field_cell program.shape v f) (λ cell. read heap cell)) _
      (gives_with (IsCellOf l.1) (Has l.1) (field_cell program.shape v f) (λ cell. read heap cell) (field_sound v s f l.1 h l.2) (λ cell c. read_sound heap cell l.1 hh c))
      (λ w hw. along_sound heap hh l.1 to w fs hw l.3)

  path_sound : (p : Path) (t : ValueType) (s : State) → IsTyped s → IsPathTo program types p t →
      Gives (Has t) (place_of p program.shape s.locals s.heap)
  path_sound p t s ty is =
      gives_with (Has is.0) (Has t) (found (slice_get s.locals p.local)) _ (value_there program.shape types s.locals p.local is.0 ty.locals is.1)
      (λ v h. along_sound s.heap ty.heap is.0 t v p.fields.items h is.2)

  joined_sound : (o : Operator) (r q : Result Value Failure) → Gives (Has Integer) r → Gives (Has Integer) q →
      Gives (Has Integer) (joined o r q)
  joined_sound o r q h k = gives_with (Has Integer) (Has Integer) r _ h (λ v hv. gives_with (Has Integer) (Has Integer) q _ k (λ w hw. operate_sound program.shape o v w hv hw))

  mutual
    value_sound : (e : Expr) (t : ValueType) (s : State) → IsTyped s → IsOf program types e t →
        Gives (Has t) (value_of e program.shape s.locals s.heap)
    value_sound (Number n) Integer s ty is = tt
    value_sound (Number n) (Reference r) s ty is = absurd is
    value_sound Null Integer s ty is = absurd is
    value_sound Null (Reference r) s ty is = tt
    value_sound (Place p) t s ty is = path_sound p t s ty is
    value_sound (Global start cell) t s ty is = read_sound s.heap cell t ty.heap (global_cell cell t is)
    value_sound (Element' start array p index) t s ty is =
        gives_with (Has Integer) (Has t) (value_of index program.shape s.locals s.heap) _ (value_sound index Integer s ty is.1)
        (λ v h. gives_with (IsCellOf t) (Has t) (element_cell program.shape array v) _ (element_sound array v t is.0 h) (λ cell c. read_sound s.heap cell t ty.heap c))
    value_sound (Member' pool p index) Integer s ty is = absurd is
    value_sound (Member' pool p index) (Reference r) s ty is =
        gives_with (Has Integer) (Has (Reference r)) (value_of index program.shape s.locals s.heap) _ (value_sound index Integer s ty is.1)
        (λ v h. member_sound pool v r is.0 h)
    value_sound (Negate' p e) Integer s ty is =
        gives_with (Has Integer) (Has Integer) (value_of e program.shape s.locals s.heap) _ (value_sound e Integer s ty is) (λ v h. negate_sound program.shape v h)
    value_sound (Negate' p e) (Reference r) s ty is = absurd is
    value_sound (Owned' p e k f start j) Integer s ty is = absurd is
    value_sound (Owned' p e k f start j) (Reference r) s ty is =
        gives_with (Has (Reference r)) (Has (Reference r)) (value_of e program.shape s.locals s.heap) _ (value_sound e (Reference r) s ty is.1)
        (λ v h. gives_with (Has (Reference is.2.0)) (Has (Reference r)) (found (slice_get s.locals j)) _
        (value_there program.shape types s.locals j (Reference is.2.0) ty.locals is.2.2) (λ o k'. owned_sound v o r f is.2.0 h is.2.1 k'))
    value_sound (Chain' p first m rest) Integer s ty is =
        chain_sound rest s (value_of first program.shape s.locals s.heap) ty is.1 (value_sound first Integer s ty is.0)
    value_sound (Chain' p first m rest) (Reference r) s ty is = absurd is

    chain_sound : {m : _} (row : Row_of-Operation m) (s : State) (left : Result Value Failure) → IsTyped s →
        AreIntegers program types row → Gives (Has Integer) left →
        Gives (Has Integer) (chained row program.shape s.locals s.heap left)
    chain_sound end_of-Operation s left ty is h = h
    chain_sound (more_of-Operation o e rest) s left ty is h =
        chain_sound rest s (joined o left (value_of e program.shape s.locals s.heap)) ty is.1 (joined_sound o left _ h (value_sound e Integer s ty is.0))

  -- two values of one type, and a comparison that takes them
  two_sound : (c : Comparison) (t : ValueType) (a b : Expr) (s : State) → IsTyped s → IsOf program types a t →
      IsOf program types b t →
      ((v w : Value) → Has t v → Has t w → Gives IsAny (compared c v w)) →
      Gives IsAny (with (value_of a program.shape s.locals s.heap) (λ x. with (value_of b program.shape s.locals s.heap) (λ y. compared c x y)))
  two_sound c t a b s ty is js k =
      gives_with (Has t) IsAny (value_of a program.shape s.locals s.heap) _ (value_sound a t s ty is)
      (λ v h. gives_with (Has t) IsAny (value_of b program.shape s.locals s.heap) _ (value_sound b t s ty js) (λ w g. k v w h g))

  compare_sound : (c : Comparison) (a b : Expr) (s : State) → IsTyped s → CanCompare program types c a b →
      Gives IsAny (with (value_of a program.shape s.locals s.heap) (λ x. with (value_of b program.shape s.locals s.heap) (λ y. compared c x y)))
  compare_sound Equal a b s ty is = two_sound Equal is.0 a b s ty is.1 is.2 (equal_sound program.shape is.0)
  compare_sound NotEqual a b s ty is = two_sound NotEqual is.0 a b s ty is.1 is.2 (not_equal_sound program.shape is.0)
  compare_sound Less a b s ty is = two_sound Less Integer a b s ty is.0 is.1 (less_sound program.shape)
  compare_sound LessOrEqual a b s ty is = two_sound LessOrEqual Integer a b s ty is.0 is.1 (less_or_equal_sound program.shape)
  compare_sound Greater a b s ty is = two_sound Greater Integer a b s ty is.0 is.1 (greater_sound program.shape)
  compare_sound GreaterOrEqual a b s ty is = two_sound GreaterOrEqual Integer a b s ty is.0 is.1 (greater_or_equal_sound program.shape)

  and_sound : (r q : Result Bool Failure) → Gives IsAny r → Gives IsAny q → Gives IsAny (and_then r q)
  and_sound (Ok true) q h k = k
  and_sound (Ok false) q h k = tt
  and_sound (Err (Trap t)) q h k = tt
  and_sound (Err Wrong) q h k = h

  or_sound : (r q : Result Bool Failure) → Gives IsAny r → Gives IsAny q → Gives IsAny (or_else r q)
  or_sound (Ok true) q h k = tt
  or_sound (Ok false) q h k = k
  or_sound (Err (Trap t)) q h k = tt
  or_sound (Err Wrong) q h k = h

  mutual
    test_sound : (c : Condition) (s : State) → IsTyped s → IsTest program types c →
        Gives IsAny (truth_of c program.shape s.locals s.heap)
    test_sound (Compare c a b) s ty is = compare_sound c a b s ty is
    test_sound (Not' p c) s ty is = gives_with IsAny IsAny (truth_of c program.shape s.locals s.heap) _ (test_sound c s ty is) (λ b h. tt)
    test_sound (And' m before p last) s ty is = all_sound before s (truth_of last program.shape s.locals s.heap) ty is.0 (test_sound last s ty is.1)
    test_sound (Or' m before p last) s ty is = any_sound before s (truth_of last program.shape s.locals s.heap) ty is.0 (test_sound last s ty is.1)

    all_sound : {m : _} (row : Row_of-Condition m) (s : State) (last : Result Bool Failure) → IsTyped s →
        AreTests program types row → Gives IsAny last →
        Gives IsAny (all_true row program.shape s.locals s.heap last)
    all_sound end_of-Condition s last ty is h = h
    all_sound (more_of-Condition c rest) s last ty is h = and_sound (truth_of c program.shape s.locals s.heap) _ (test_sound c s ty is.0) (all_sound rest s last ty is.1 h)

    any_sound : {m : _} (row : Row_of-Condition m) (s : State) (last : Result Bool Failure) → IsTyped s →
        AreTests program types row → Gives IsAny last →
        Gives IsAny (any_true row program.shape s.locals s.heap last)
    any_sound end_of-Condition s last ty is h = h
    any_sound (more_of-Condition c rest) s last ty is h = or_sound (truth_of c program.shape s.locals s.heap) _ (test_sound c s ty is.0) (any_sound rest s last ty is.1 h)

  -- ---- statements

  abbrev Stays : Flow → Type 0
  Stays = LeadsToTyped program types

  given_sound : {A : Type 0} (P : A → Type 0) (r : Result A Failure) (s : State) (f : A → Flow) → IsTyped s →
      Gives P r → ((a : A) → P a → Stays (f a)) → Stays (given r s f)
  given_sound P (Ok a) s f ty h k = k a h
  given_sound P (Err (Trap x)) s f ty h k = ty
  given_sound P (Err Wrong) s f ty h k = h

  after_sound : (flow : Flow) (f : State → Flow) → Stays flow → ((s : State) → IsTyped s → Stays (f s)) →
      Stays (after flow f)
  after_sound (GoesOn s) f h k = k s h
  after_sound (Traps t s) f h k = h
  after_sound Beyond f h k = h
  after_sound Astray f h k = h

  choose_sound : (b : Bool) (x y : Flow) → Stays x → Stays y → Stays (choose b x y)
  choose_sound true x y h k = h
  choose_sound false x y h k = k

  write_sound : (cell : ℕ) (t : ValueType) (v : Value) (s : State) → IsTyped s → IsCellOf t cell → Has t v →
      Stays (written cell v s)
  write_sound cell t v s ty e h =
      given_sound (Has t) (read s.heap cell) s _ ty (read_sound s.heap cell t ty.heap e)
      (λ old _. record { locals = ty.locals; heap = types_set program.shape (cell_types program) s.heap cell t v ty.heap e h })

  store_sound : (local : ℕ) (e : Expr) (s : State) → IsTyped s → GivesLocal program types local e →
      Stays (given (value_of e program.shape s.locals s.heap) s (λ v. stored local v s))
  store_sound local e s ty is =
      given_sound (Has is.0) (value_of e program.shape s.locals s.heap) s _ ty (value_sound e is.0 s ty is.2)
      (λ v h. given_sound (Has is.0) (found (slice_get s.locals local)) s _ ty (value_there program.shape types s.locals local is.0 ty.locals is.1)
      (λ old _. record { locals = types_set program.shape types s.locals local is.0 v ty.locals is.1 h; heap = ty.heap }))

  print_if : (b : Bool) (n : ℤ) (s : State) → IsTyped s →
      Stays (if b then GoesOn (record s { prints = s.prints ++ n ∷ [] }) else Traps TooManyPrints s)
  print_if true n s ty = record { locals = ty.locals; heap = ty.heap }
  print_if false n s ty = ty

  print_sound : (v : Value) (s : State) → IsTyped s → Has Integer v → Stays (printed v s)
  print_sound (Int n) s ty h = print_if (nat_lt (length s.prints) 256) n s ty
  print_sound (Ref r) s ty h = absurd h

  turns_sound : (n : ℕ) (test : State → Result Bool Failure) (body : State → Flow) →
      ((s : State) → IsTyped s → Gives IsAny (test s)) → ((s : State) → IsTyped s → Stays (body s)) →
      (s : State) → IsTyped s → Stays (turns n test body s)
  turns_sound zero test body ht hb s ty = given_sound IsAny (test s) s _ ty (ht s ty) (λ b _. choose_sound b _ _ tt ty)
  turns_sound (suc n) test body ht hb s ty =
      given_sound IsAny (test s) s _ ty (ht s ty) (λ b _. choose_sound b _ _ (after_sound (body s) _ (hb s ty) (turns_sound n test body ht hb)) ty)

  values_sound : (es : List Expr) (ts : List ValueType) (s : State) → IsTyped s → AreOf program types es ts →
      Gives (HaveTypes program.shape ts) (values_of es program.shape s.locals s.heap)
  values_sound [] [] s ty is = tt
  values_sound [] (t ∷ ts) s ty is = absurd is
  values_sound (e ∷ es) [] s ty is = absurd is
  values_sound (e ∷ es) (t ∷ ts) s ty is =
      gives_with (Has t) (HaveTypes program.shape (t ∷ ts)) (value_of e program.shape s.locals s.heap) _ (value_sound e t s ty is.0)
      (λ v h. gives_with (HaveTypes program.shape ts) (HaveTypes program.shape (t ∷ ts)) (values_of es program.shape s.locals s.heap) _ (values_sound es ts s ty is.1) (λ vs hs. (h, hs)))

  received_sound : (o : Outcome) (result : Option ℕ) (t : Option ValueType) (s : State) → IsTyped s →
      CanEnd program.shape t o → Takes program types result t → Stays (received o result s)
  received_sound out.Ends None t s ty can take = ty
  received_sound out.Ends (Some k) None s ty can take = absurd take
  received_sound out.Ends (Some k) (Some t) s ty can take = absurd can
  received_sound (out.Returns v) None t s ty can take = ty
  received_sound (out.Returns v) (Some k) None s ty can take = absurd can
  received_sound (out.Returns v) (Some k) (Some t) s ty can take =
      given_sound (Has t) (found (slice_get s.locals k)) s _ ty (value_there program.shape types s.locals k t ty.locals take)
      (λ old _. record { locals = types_set program.shape types s.locals k t v ty.locals take can; heap = ty.heap })
  received_sound (out.Traps c) result t s ty can take = ty

  back_sound : (run : Run) (result : Option ℕ) (t : Option ValueType) (s : State) → IsTyped s →
      StaysTyped program t run → Takes program types result t → Stays (back run result s)
  back_sound (Over f) result t s ty stays take =
      received_sound f.outcome result t (record s { heap = f.heap; prints = f.prints }) (record { locals = ty.locals; heap = stays.0 }) stays.1 take
  back_sound Beyond_turns result t s ty stays take = tt
  back_sound Gone_astray result t s ty stays take = stays

  module _ (call : Helpers) (P : ℕ → Type 0) (helps : HelpersSound program P call) where
    mutual
      effect_sound : (x : Action) (n : ℕ) (s : State) → IsTyped s → IsWellTyped program types x → CallsOnly P x →
          Stays (effect_by call x program.shape n s)
      effect_sound (Bind local e) n s ty is only = store_sound local e s ty is
      effect_sound (SetLocal local e) n s ty is only = store_sound local e s ty is
      effect_sound (SetGlobal cell e) n s ty is only =
          given_sound (Has is.0) (value_of e program.shape s.locals s.heap) s _ ty (value_sound e is.0 s ty is.2) (λ v h. write_sound cell is.0 v s ty (global_cell cell is.0 is.1) h)
      effect_sound (SetElement array i e) n s ty is only =
          given_sound (Has Integer) (value_of i program.shape s.locals s.heap) s _ ty (value_sound i Integer s ty is.2)
          (λ v h. given_sound (IsCellOf is.0) (element_cell program.shape array v) s _ ty (element_sound array v is.0 is.1 h)
          (λ cell c. given_sound (Has is.0) (value_of e program.shape s.locals s.heap) s _ ty (value_sound e is.0 s ty is.3) (λ w hw. write_sound cell is.0 w s ty c hw)))
      effect_sound (SetField p k f e) n s ty is only =
          given_sound (Has (Reference k)) (with (place_of p program.shape s.locals s.heap) not_null) s _ ty
          (gives_with (Has (Reference k)) (Has (Reference k)) (place_of p program.shape s.locals s.heap) _ (path_sound p (Reference k) s ty is.0) (λ v h. not_null_sound program.shape k v h))
          (λ v h. given_sound (Has is.1.0) (value_of e program.shape s.locals s.heap) s _ ty (value_sound e is.1.0 s ty is.1.2)
          (λ w hw. given_sound (IsCellOf is.1.0) (field_cell program.shape v f) s _ ty (field_sound v k f is.1.0 h is.1.1) (λ cell c. write_sound cell is.1.0 w s ty c hw)))
      effect_sound (Call k es r) n s ty is only =
          given_sound (HaveTypes program.shape (local_types (take is.0.parameters is.0.locals.items))) (values_of es.items program.shape s.locals s.heap) s _ ty
          (values_sound es.items (local_types (take is.0.parameters is.0.locals.items)) s ty is.2)
          (λ vs hs. back_sound (call k vs s.heap s.prints) r is.0.result_type s ty (helps k only is.0 is.1 vs s.heap s.prints hs ty.heap) is.3)
      effect_sound (Print e) n s ty is only = given_sound (Has Integer) (value_of e program.shape s.locals s.heap) s _ ty (value_sound e Integer s ty is) (λ v h. print_sound v s ty h)
      effect_sound (If' c m a) n s ty is only =
          given_sound IsAny (truth_of c program.shape s.locals s.heap) s _ ty (test_sound c s ty is.0) (λ x _. choose_sound x _ _ (effects_sound a n s ty is.1 only) ty)
      effect_sound (IfElse' c m a k b) n s ty is only =
          given_sound IsAny (truth_of c program.shape s.locals s.heap) s _ ty (test_sound c s ty is.0) (λ x _. choose_sound x _ _ (effects_sound a n s ty is.1 only.0) (effects_sound b n s ty is.2 only.1))
      effect_sound (While' c m body) n s ty is only =
          turns_sound n (λ s. truth_of c program.shape s.locals s.heap) (effects_by call body program.shape n) (λ s1 t1. test_sound c s1 t1 is.0) (λ s1 t1. effects_sound body n s1 t1 is.1 only) s ty

      effects_sound : {m : _} (row : Row_of-Stmt m) (n : ℕ) (s : State) → IsTyped s → AreWellTyped program types row →
          AllCallOnly P row → Stays (effects_by call row program.shape n s)
      effects_sound end_of-Stmt n s ty is only = ty
      effects_sound (more_of-Stmt start x rest) n s ty is only = after_sound (effect_by call x program.shape n s) _ (effect_sound x n s ty is.0 only.0) (λ s1 t1. effects_sound rest n s1 t1 is.1 only.1)

    sequence_sound : (xs : List Stmt) (n : ℕ) (s : State) → IsTyped s → AllWellTyped program types xs →
        EachCallsOnly P xs → Stays (sequence_by call xs program.shape n s)
    sequence_sound [] n s ty is only = ty
    sequence_sound (x ∷ xs) n s ty is only = after_sound (effect_by call x.action program.shape n s) _ (effect_sound x.action n s ty is.0 only.0) (λ s1 t1. sequence_sound xs n s1 t1 is.1 only.1)

  -- ---- a whole section

  returned_sound : (t : ValueType) (r : Result Value Failure) (s : State) → IsTyped s → Gives (Has t) r →
      StaysTyped program (Some t) (returned r s)
  returned_sound t (Ok v) s ty h = (ty.heap, h)
  returned_sound t (Err (Trap x)) s ty h = (ty.heap, tt)
  returned_sound t (Err Wrong) s ty h = h

  ending_sound : (result_type : Option ValueType) (result : Option Return) (s : State) → IsTyped s →
      IsResult program types result_type result →
      StaysTyped program result_type (ending result program.shape s)
  ending_sound None None s ty is = (ty.heap, tt)
  ending_sound None (Some r) s ty is = absurd is
  ending_sound (Some t) None s ty is = absurd is
  ending_sound (Some t) (Some r) s ty is = returned_sound t (value_of r.value program.shape s.locals s.heap) s ty (value_sound r.value t s ty is)

  concluded_sound : (result_type : Option ValueType) (result : Option Return) (flow : Flow) →
      IsResult program types result_type result → Stays flow →
      StaysTyped program result_type (concluded result program.shape flow)
  concluded_sound result_type result (GoesOn s) is h = ending_sound result_type result s h is
  concluded_sound result_type result (Traps t s) is h = (h.heap, tt)
  concluded_sound result_type result Beyond is h = tt
  concluded_sound result_type result Astray is h = h

  -- ---- helpers

  mutual
    calls_there : (P : ℕ → Type 0) →
        ((k : ℕ) (h : Section) → slice_get program.shape.helpers.items k ≡ Some h → P k) → (x : Action) →
        IsWellTyped program types x → CallsOnly P x
    calls_there P all (Bind local e) is = tt
    calls_there P all (SetLocal local e) is = tt
    calls_there P all (SetGlobal cell e) is = tt
    calls_there P all (SetElement a i e) is = tt
    calls_there P all (SetField p k f e) is = tt
    calls_there P all (Call k es r) is = all k is.0 is.1
    calls_there P all (Print e) is = tt
    calls_there P all (If' c m a) is = row_calls_there P all a is.1
    calls_there P all (IfElse' c m a k b) is = (row_calls_there P all a is.1, row_calls_there P all b is.2)
    calls_there P all (While' c m a) is = row_calls_there P all a is.1

    row_calls_there : {m : _} (P : ℕ → Type 0) →
        ((k : ℕ) (h : Section) → slice_get program.shape.helpers.items k ≡ Some h → P k) → (row : Row_of-Stmt m) →
        AreWellTyped program types row → AllCallOnly P row
    row_calls_there P all end_of-Stmt is = tt
    row_calls_there P all (more_of-Stmt start x rest) is = (calls_there P all x is.0, row_calls_there P all rest is.1)

  each_calls_there : (P : ℕ → Type 0) →
      ((k : ℕ) (h : Section) → slice_get program.shape.helpers.items k ≡ Some h → P k) → (xs : List Stmt) →
      AllWellTyped program types xs → EachCallsOnly P xs
  each_calls_there P all [] is = tt
  each_calls_there P all (x ∷ xs) is = (calls_there P all x.action is.0, each_calls_there P all xs is.1)

-- ---- the opening state

module _ (program : Typed) (well : IsChecked program) (n : ℕ) where
  body_sound : (section : Section) (call : Helpers) (P : ℕ → Type 0) → HelpersSound program P call →
      IsWellTypedSection program section → EachCallsOnly P section.body.items →
      (arguments heap : List Value) (prints : List ℤ) → HaveTypes program.shape (local_types (take section.parameters section.locals.items)) arguments → IsHeap program heap →
      StaysTyped program section.result_type (run_from call section program.shape n (record (opening section arguments heap) { prints = prints }))
  body_sound section call P helps good only arguments heap prints fit typed =
      let types = local_types section.locals.items in
      let s : State = record (opening section arguments heap) { prints = prints } in
      let start : IsTypedState program types s =
      record { locals = opening_has program.shape section.parameters section.locals.items arguments fit; heap = typed } in
      concluded_sound program types well.laid_out well.within section.result_type section.result (sequence_by call section.body.items program.shape n s) good.result
      (sequence_sound program types well.laid_out well.within call P helps section.body.items n s start good.body only)

  helped_sound : (depth : ℕ) → HelpersSound program (IsAtMostDeep program.shape depth) (helped depth program.shape n)
  helped_sound zero k deep h is vs heap prints fit typed = absurd deep
  helped_sound (suc depth) k deep h is vs heap prints fit typed =
      let both : Some deep.0 ≡ Some h = sym deep.1 ∙ is in
      let same : deep.0 ≡ h = cc in
      let go : Section → Run = λ section. run_from (helped depth program.shape n) section program.shape n (record (opening section vs heap) { prints = prints }) in
      subst (λ (o : Option Section). StaysTyped program h.result_type (if_there o go)) (sym is)
      (body_sound h (helped depth program.shape n) (IsAtMostDeep program.shape depth) (helped_sound depth) (well.helpers k h is)
      (subst (λ (x : Section). EachCallsOnly (IsAtMostDeep program.shape depth) x.body.items) same deep.2) vs heap prints fit typed)

pub never_astray : NeverGoAstray
never_astray program k n section arguments heap well is fit typed =
    let good = well.sections k section is in
    body_sound program well n section (helped deepest program.shape n) (IsAtMostDeep program.shape deepest) (helped_sound program well n deepest) good
    (each_calls_there program (local_types section.locals.items) well.laid_out well.within (IsAtMostDeep program.shape deepest) well.helper_depths section.body.items good.body)
    arguments heap [] fit typed

pub values_have_their_types : ValuesHaveTheirTypes
values_have_their_types program types e t s well ty is = value_sound program types well.laid_out well.within e t s ty is

pub tests_decide : TestsDecide
tests_decide program types c s well ty is = test_sound program types well.laid_out well.within c s ty is

pub effects_stay_typed : EffectsStayTyped
effects_stay_typed program types x n s well ty is =
    effect_sound program types well.laid_out well.within (helped deepest program.shape n) (IsAtMostDeep program.shape deepest) (helped_sound program well n deepest) x n s ty is
    (calls_there program types well.laid_out well.within (IsAtMostDeep program.shape deepest) well.helper_depths x is)
