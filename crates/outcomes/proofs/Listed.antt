-- The accesses of a section that are within some cells.
use Rattle.std.proofs.Common.{ℕ, List, [], ◌∷◌, ◌++◌, Option, Some, None}
use Rattle.core_lang.specs.declared.value.Value.{Value}
use Rattle.core_lang.specs.declared.shape.Shape.{Shape}
use Rattle.core_lang.specs.declared.tree.FieldStep.{FieldStep}
use Rattle.core_lang.specs.declared.tree.FieldStep.TheVariants.{Final, Field}
use Rattle.core_lang.specs.declared.tree.Path.{Path}
use Rattle.core_lang.specs.declared.tree.Expr.{Expr, Number, Null, Place, Global, Element', Member', Negate', Owned'}
use Rattle.core_lang.specs.declared.tree.Expr.{Chain', Row_of-Operation, end_of-Operation, more_of-Operation}
use Rattle.core_lang.specs.declared.tree.Condition.{Condition, Compare, Not', And', Or', Row_of-Condition}
use Rattle.core_lang.specs.declared.tree.Condition.{end_of-Condition, more_of-Condition}
use Rattle.core_lang.specs.declared.tree.Stmt.{Stmt}
use Rattle.core_lang.specs.declared.tree.Action.{Action, Bind, SetLocal, SetGlobal, SetElement, SetField, Call, Print}
use Rattle.core_lang.specs.declared.tree.Action.{If', IfElse', While', Row_of-Stmt, end_of-Stmt, more_of-Stmt}
use Rattle.core_lang.specs.declared.tree.Return.{Return}
use Rattle.core_lang.specs.declared.tree.Section.{Section}
use Rattle.outcomes.specs.Footprints.{LeadsWithin, PathWithin, FieldIn, ReadsWithin, OperandsWithin, TestsWithin}
use Rattle.outcomes.specs.Footprints.{EachTestsWithin, ActsWithin, EachActsWithin, AllActWithin, ResultWithin}
use Rattle.outcomes.specs.Footprints.{SectionWithin}
use Rattle.outcomes.specs.Working.Touches.{Touch, reads_path, reads_cell, reads_element, writes_local, writes_cell}
use Rattle.outcomes.specs.Working.Touches.{writes_element, writes_field, calls, TouchWithin, EachWithin, reads_in}
use Rattle.outcomes.specs.Working.Touches.{reads_in_row, tests_in, tests_in_row, acts_in, acts_in_row, acts_in_all}
use Rattle.outcomes.specs.Working.Touches.{result_in, touches_of}

module _ (shape : Shape) (arguments : List Value) (Read Write : ℕ → Type 0) where
  abbrev Each : List Touch → Type 0
  Each = EachWithin shape arguments Read Write

  front : (xs ys : List Touch) → Each (xs ++ ys) → Each xs
  front [] ys each = tt
  front (x ∷ xs) ys each = (each.0, front xs ys each.1)

  back : (xs ys : List Touch) → Each (xs ++ ys) → Each ys
  back [] ys each = each
  back (x ∷ xs) ys each = back xs ys each.1

  mutual
    reads_from : (e : Expr) → Each (reads_in e) → ReadsWithin shape arguments Read Write e
    reads_from (Number n) each = tt
    reads_from Null each = tt
    reads_from (Place path) each = each.0
    reads_from (Global start cell) each = each.0
    reads_from (Element' start array p index) each =
        let own = reads_element array index ∷ [] in
        (reads_from index (front (reads_in index) own each), (back (reads_in index) own each).0)
    reads_from (Member' pool p index) each = reads_from index each
    reads_from (Negate' p e) each = reads_from e each
    reads_from (Owned' p e structure final start local) each = reads_from e each
    reads_from (Chain' p first m rest) each = (
      reads_from first (front (reads_in first) (reads_in_row rest) each),
      operands_from rest
          (back (reads_in first) (reads_in_row rest) each),
    )

    operands_from : {m : _} (row : Row_of-Operation m) → Each (reads_in_row row) →
        OperandsWithin shape arguments Read Write row
    operands_from end_of-Operation each = tt
    operands_from (more_of-Operation o e rest) each = (
      reads_from e (front (reads_in e) (reads_in_row rest) each),
      operands_from rest
          (back (reads_in e) (reads_in_row rest) each),
    )

  mutual
    tests_from : (c : Condition) → Each (tests_in c) → TestsWithin shape arguments Read Write c
    tests_from (Compare c a b) each =
        (reads_from a (front (reads_in a) (reads_in b) each), reads_from b (back (reads_in a) (reads_in b) each))
    tests_from (Not' p c) each = tests_from c each
    tests_from (And' m before p last) each = (
      each_tests_from before (front (tests_in_row before) (tests_in last) each),
      tests_from last
          (back (tests_in_row before) (tests_in last) each),
    )
    tests_from (Or' m before p last) each = (
      each_tests_from before (front (tests_in_row before) (tests_in last) each),
      tests_from last
          (back (tests_in_row before) (tests_in last) each),
    )

    each_tests_from : {m : _} (row : Row_of-Condition m) → Each (tests_in_row row) →
        EachTestsWithin shape arguments Read Write row
    each_tests_from end_of-Condition each = tt
    each_tests_from (more_of-Condition c rest) each = (
      tests_from c (front (tests_in c) (tests_in_row rest) each),
      each_tests_from rest
          (back (tests_in c) (tests_in_row rest) each),
    )

  mutual
    acts_from : (x : Action) → Each (acts_in x) → ActsWithin shape arguments Read Write x
    acts_from (Bind k e) each = (each.0, reads_from e each.1)
    acts_from (SetLocal k e) each = (each.0, reads_from e each.1)
    acts_from (SetGlobal cell e) each = (each.0, reads_from e each.1)
    acts_from (SetElement array index e) each = (
      reads_from index (front (reads_in index) (reads_in e) each.1),
      each.0,
      reads_from e
          (back (reads_in index) (reads_in e) each.1),
    )
    acts_from (SetField path structure field e) each = (each.0, reads_from e each.1)
    acts_from (Call helper given result) each = each.0
    acts_from (Print e) each = reads_from e each
    acts_from (If' c m a) each = (
      tests_from c (front (tests_in c) (acts_in_row a) each),
      each_acts_from a
          (back (tests_in c) (acts_in_row a) each),
    )
    acts_from (IfElse' c m a k b) each =
        let blocks = back (tests_in c) (acts_in_row a ++ acts_in_row b) each in (
          tests_from c (front (tests_in c) (acts_in_row a ++ acts_in_row b) each),
          each_acts_from a (front (acts_in_row a) (acts_in_row b) blocks),
          each_acts_from b (back (acts_in_row a) (acts_in_row b) blocks),
        )
    acts_from (While' c m body) each = (
      tests_from c (front (tests_in c) (acts_in_row body) each),
      each_acts_from body
          (back (tests_in c) (acts_in_row body) each),
    )

    each_acts_from : {m : _} (row : Row_of-Stmt m) → Each (acts_in_row row) →
        EachActsWithin shape arguments Read Write row
    each_acts_from end_of-Stmt each = tt
    each_acts_from (more_of-Stmt start x rest) each = (
      acts_from x (front (acts_in x) (acts_in_row rest) each),
      each_acts_from rest
          (back (acts_in x) (acts_in_row rest) each),
    )

  all_act_from : (xs : List Stmt) → Each (acts_in_all xs) → AllActWithin shape arguments Read Write xs
  all_act_from [] each = tt
  all_act_from (x ∷ xs) each = (
    acts_from x.action (front (acts_in x.action) (acts_in_all xs) each),
    all_act_from xs
        (back (acts_in x.action) (acts_in_all xs) each),
  )

  result_from : (result : Option Return) → Each (result_in result) → ResultWithin shape arguments Read Write result
  result_from None each = tt
  result_from (Some r) each = reads_from r.value each

  pub section_from : (section : Section) → Each (touches_of section) → SectionWithin shape arguments Read Write section
  section_from section each =
      let body = acts_in_all section.body.items in (
        all_act_from section.body.items (front body (result_in section.result) each),
        result_from section.result
            (back body (result_in section.result) each),
      )

-- more cells may be accessed
module _ (shape : Shape) (arguments : List Value) (Read Write Read' Write' : ℕ → Type 0)
    (reads : (c : ℕ) → Read c → Read' c) (writes : (c : ℕ) → Write c → Write' c) where
  pub leads_more : (Has Has' : Value → Type 0) (v : Value) (steps : List FieldStep) → ((w : Value) → Has w → Has' w) →
      LeadsWithin shape arguments Read Write Has v steps → LeadsWithin shape arguments Read' Write' Has' v steps
  leads_more Has Has' v [] more is = more v is
  leads_more Has Has' v (Final s f ∷ steps) more is = λ w e. leads_more Has Has' w steps more (is w e)
  leads_more Has Has' v (Field s f ∷ steps) more is = λ cell e.
      (reads cell (is cell e).0, λ w. leads_more Has Has' w steps more ((is cell e).1 w))

  pub path_more : (Has Has' : Value → Type 0) (path : Path) → ((w : Value) → Has w → Has' w) →
      PathWithin shape arguments Read Write Has path → PathWithin shape arguments Read' Write' Has' path
  path_more Has Has' path more is = λ v holds. leads_more Has Has' v path.fields.items more (is v holds)

  pub touch_more : (x : Touch) → TouchWithin shape arguments Read Write x → TouchWithin shape arguments Read' Write' x
  touch_more (reads_path path) is = path_more (λ v. Unit {0}) (λ v. Unit {0}) path (λ w u. u) is
  touch_more (reads_cell cell) is = reads cell is
  touch_more (reads_element array index) is = λ v cell may e. reads cell (is v cell may e)
  touch_more (writes_local k) is = is
  touch_more (writes_cell cell) is = writes cell is
  touch_more (writes_element array index) is = λ v cell may e. writes cell (is v cell may e)
  touch_more (writes_field path field) is =
      path_more (λ v. FieldIn shape Write v field) (λ v. FieldIn shape Write' v field) path
      (λ w within cell e. writes cell (within cell e)) is
  touch_more calls is = is

  pub each_more : (xs : List Touch) → EachWithin shape arguments Read Write xs →
      EachWithin shape arguments Read' Write' xs
  each_more [] each = tt
  each_more (x ∷ xs) each = (touch_more x each.0, each_more xs each.1)

-- one more step on a way, and one more touched cell
module _ (shape : Shape) (arguments : List Value) (Read Write : ℕ → Type 0) where
  pub leads_behind : (Has Has' : Value → Type 0) (v : Value) (steps : List FieldStep) (step : FieldStep) →
      LeadsWithin shape arguments Read Write Has v steps →
      ((w : Value) → Has w → LeadsWithin shape arguments Read Write Has' w (step ∷ [])) →
      LeadsWithin shape arguments Read Write Has' v (steps ++ step ∷ [])
  leads_behind Has Has' v [] step is next = next v is
  leads_behind Has Has' v (Final s f ∷ steps) step is next = λ w e. leads_behind Has Has' w steps step (is w e) next
  leads_behind Has Has' v (Field s f ∷ steps) step is next = λ cell e.
      ((is cell e).0, λ w. leads_behind Has Has' w steps step ((is cell e).1 w) next)

  pub each_behind : (xs : List Touch) (x : Touch) → EachWithin shape arguments Read Write xs →
      TouchWithin shape arguments Read Write x → EachWithin shape arguments Read Write (xs ++ x ∷ [])
  each_behind [] x each is = (is, tt)
  each_behind (y ∷ xs) x each is = (each.0, each_behind xs x each.1 is)
