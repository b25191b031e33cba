-- The points of a well-typed section are well typed, and lead from typed states to typed states.
use Rattle.std.proofs.Common.{List, [], ◌∷◌, Option, Some, None, Result, Ok, Err}
use Rattle.core_lang.specs.declared.value.ValueType.{ValueType}
use Rattle.core_lang.specs.declared.value.Failure.{Failure}
use Rattle.core_lang.specs.declared.value.Failure.TheVariants.{Trap, Wrong}
use Rattle.core_lang.specs.declared.tree.Stmt.{Stmt}
use Rattle.core_lang.specs.declared.tree.Action.{Action, Bind, SetLocal, SetGlobal, SetElement, SetField, Call, Print}
use Rattle.core_lang.specs.declared.tree.Action.{If', IfElse', While', Row_of-Stmt, end_of-Stmt, more_of-Stmt}
use Rattle.core_lang.specs.declared.tree.Return.{Return}
use Rattle.core_lang.specs.declared.tree.Section.{Section}
use Rattle.core_lang.specs.declared.typed.Typed.{Typed}
use Rattle.core_lang.specs.Meaning.{State, GoesOn, given, value_of, truth_of}
use Rattle.core_lang.specs.Typing.{local_types, HasType, IsOf, IsWellTyped, AreWellTyped, AllWellTyped, IsResult}
use Rattle.core_lang.specs.Typing.{IsWellTypedSection}
use Rattle.core_lang.specs.Working.Soundness.{Gives, IsTypedState, LeadsToTyped, ValuesHaveTheirTypes, TestsDecide}
use Rattle.core_lang.specs.Working.Soundness.{EffectsStayTyped}
use Rattle.core_lang.specs.WellFormed.{IsChecked}
use Rattle.core_lang.specs.Theory.Checked.{checked}
use Rattle.flow.specs.Points.{Point, statement, result, inner_points, points_in, points_of_all, point_of_return, points}
use Rattle.flow.specs.Working.Effects.{effect_at}
use Rattle.flow.specs.Working.Laws.{PointsStayTyped}
use Rattle.flow.specs.Theory.Each.{Each, each_append, each_there}

module _ (program : Typed) (types : List ValueType) where
  abbrev pub IsTypedPoint : Point → Type 0
  IsTypedPoint (statement start x) = IsWellTyped program types x
  IsTypedPoint (result r) = (t : ValueType) × IsOf program types r.value t

  mutual
    inner_typed : (x : Action) → IsWellTyped program types x → Each IsTypedPoint (inner_points x)
    inner_typed (Bind local e) h = tt
    inner_typed (SetLocal local e) h = tt
    inner_typed (SetGlobal cell e) h = tt
    inner_typed (SetElement array index e) h = tt
    inner_typed (SetField base s f e) h = tt
    inner_typed (Call helper arguments r) h = tt
    inner_typed (Print e) h = tt
    inner_typed (If' c m block) h = row_typed block h.1
    inner_typed (IfElse' c m block k otherwise) h =
        each_append IsTypedPoint (points_in block) (points_in otherwise) (row_typed block h.1) (row_typed otherwise h.2)
    inner_typed (While' c m body) h = row_typed body h.1

    row_typed : {m : _} (row : Row_of-Stmt m) → AreWellTyped program types row → Each IsTypedPoint (points_in row)
    row_typed end_of-Stmt h = tt
    row_typed (more_of-Stmt start x rest) h = (h.0, each_append IsTypedPoint (inner_points x) (points_in rest) (inner_typed x h.0) (row_typed rest h.1))

  all_typed : (ss : List Stmt) → AllWellTyped program types ss → Each IsTypedPoint (points_of_all ss)
  all_typed [] h = tt
  all_typed (s ∷ ss) h = (h.0, each_append IsTypedPoint (inner_points s.action) (points_of_all ss) (inner_typed s.action h.0) (all_typed ss h.1))

  return_typed : (t : Option ValueType) (r : Option Return) → IsResult program types t r →
      Each IsTypedPoint (point_of_return r)
  return_typed t None h = tt
  return_typed None (Some r) h = absurd h
  return_typed (Some t) (Some r) h = ((t, h), tt)

pub points_typed : (program : Typed) (section : Section) → IsWellTypedSection program section →
    Each (IsTypedPoint program (local_types section.locals.items)) (points section)
points_typed program section well =
    let types = local_types section.locals.items in
    each_append (IsTypedPoint program types) (points_of_all section.body.items) (point_of_return section.result)
    (all_typed program types section.body.items well.body) (return_typed program types section.result_type section.result well.result)

module _ (values : ValuesHaveTheirTypes) (tests : TestsDecide) (effects : EffectsStayTyped) (program : Typed) (well : IsChecked program) (types : List ValueType) where
  stays : {A : Type 0} (P : A → Type 0) (r : Result A Failure) (s : State) → IsTypedState program types s →
      Gives P r → LeadsToTyped program types (given r s (λ a. GoesOn s))
  stays P (Ok a) s h g = h
  stays P (Err (Trap t)) s h g = h
  stays P (Err Wrong) s h g = g

  at_point : (point : Point) (s : State) → IsTypedState program types s → IsTypedPoint program types point →
      LeadsToTyped program types (effect_at point program.shape s)
  at_point (statement start (Bind k e)) s h t = effects program types (Bind k e) 0 s well h t
  at_point (statement start (SetLocal k e)) s h t = effects program types (SetLocal k e) 0 s well h t
  at_point (statement start (SetGlobal c e)) s h t = effects program types (SetGlobal c e) 0 s well h t
  at_point (statement start (SetElement a i e)) s h t = effects program types (SetElement a i e) 0 s well h t
  at_point (statement start (SetField b n f e)) s h t = effects program types (SetField b n f e) 0 s well h t
  at_point (statement start (Call helper arguments r)) s h t = effects program types (Call helper arguments r) 0 s well h t
  at_point (statement start (Print e)) s h t = effects program types (Print e) 0 s well h t
  at_point (statement start (If' c m a)) s h t = stays (λ b. Unit {0}) (truth_of c program.shape s.locals s.heap) s h (tests program types c s well h t.0)
  at_point (statement start (IfElse' c m a k b)) s h t = stays (λ b. Unit {0}) (truth_of c program.shape s.locals s.heap) s h (tests program types c s well h t.0)
  at_point (statement start (While' c m a)) s h t = stays (λ b. Unit {0}) (truth_of c program.shape s.locals s.heap) s h (tests program types c s well h t.0)
  at_point (result r) s h t = stays (HasType program.shape t.0) (value_of r.value program.shape s.locals s.heap) s h (values program types r.value t.0 s well h t.1)

pub points_stay_typed : ValuesHaveTheirTypes → TestsDecide → EffectsStayTyped → PointsStayTyped
points_stay_typed values tests effects program k p section point s well here at typed =
    let types = local_types section.locals.items in
    let all = points_typed program section (well.sections k section here) in
    at_point values tests effects program (checked program well) types point s typed (each_there (IsTypedPoint program types) (points section) p point all at)
