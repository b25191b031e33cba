-- The cells that a call may read and write, a static over-approximation by its section's tree and its arguments.
use Rattle.std.specs.Prelude.{◌≡◌, ℕ, List, [], ◌∷◌, slice_get, Option, Some, None, Ok, ⊤}
use Rattle.core_lang.specs.declared.value.Value.{Value}
use Rattle.core_lang.specs.declared.value.Value.TheVariants.{Int}
use Rattle.core_lang.specs.declared.shape.Shape.{Shape}
use Rattle.core_lang.specs.declared.tree.FieldStep.{FieldStep}
use Rattle.core_lang.specs.declared.tree.FieldStep.TheVariants.{Final, Field}
use Rattle.core_lang.specs.declared.tree.Path.{Path}
use Rattle.core_lang.specs.declared.tree.Expr.{Expr, Number, Null, Place, Global, Element', Member', Negate', Owned'}
use Rattle.core_lang.specs.declared.tree.Expr.{Chain', Row_of-Operation, end_of-Operation, more_of-Operation}
use Rattle.core_lang.specs.declared.tree.Condition.{Condition, Compare, Not', And', Or', Row_of-Condition}
use Rattle.core_lang.specs.declared.tree.Condition.{end_of-Condition, more_of-Condition}
use Rattle.core_lang.specs.declared.tree.Stmt.{Stmt}
use Rattle.core_lang.specs.declared.tree.Action.{Action, Bind, SetLocal, SetGlobal, SetElement, SetField, Call, Print}
use Rattle.core_lang.specs.declared.tree.Action.{If', IfElse', While', Row_of-Stmt, end_of-Stmt, more_of-Stmt}
use Rattle.core_lang.specs.declared.tree.Return.{Return}
use Rattle.core_lang.specs.declared.tree.Section.{Section}
use Rattle.core_lang.specs.Cells.{element_cell, field_cell, final_value}

-- the value is one that a local may hold: a parameter holds its argument throughout, another local any value
abbrev pub MayHold : List Value → ℕ → Value → Type 0
MayHold arguments local v = (w : Value) → slice_get arguments local ≡ Some w → v ≡ w

-- the value is one that a path may have
abbrev pub MayEnd : List Value → ℕ → List FieldStep → Value → Type 0
MayEnd arguments local [] v = MayHold arguments local v
MayEnd arguments local (step ∷ steps) v = ⊤

-- the value is one that an expression may have
abbrev pub MayGive : List Value → Expr → Value → Type 0
MayGive arguments (Number n) v = v ≡ Int n
MayGive arguments Null v = ⊤
MayGive arguments (Place path) v = MayEnd arguments path.local path.fields.items v
MayGive arguments (Global start cell) v = ⊤
MayGive arguments (Element' start array p index) v = ⊤
MayGive arguments (Member' pool p index) v = ⊤
MayGive arguments (Negate' p e) v = ⊤
MayGive arguments (Owned' p e structure final start local) v = ⊤
MayGive arguments (Chain' p first m rest) v = ⊤

-- each cell that the element may be is in the set `Cell`
abbrev pub ElementIn : Shape → List Value → (ℕ → Type 0) → ℕ → Expr → Type 0
ElementIn shape arguments Cell array index =
    (v : Value) (cell : ℕ) → MayGive arguments index v → element_cell shape array v ≡ Ok cell → Cell cell

-- the cell of the field is in the set `Cell`
abbrev pub FieldIn : Shape → (ℕ → Type 0) → Value → ℕ → Type 0
FieldIn shape Cell base field = (cell : ℕ) → field_cell shape base field ≡ Ok cell → Cell cell

-- `Read` and `Write` are the sets of the cells that may be read and written
module _ (shape : Shape) (arguments : List Value) (Read Write : ℕ → Type 0) where
  -- the fields on the path may be read, and its value has the property `Has`. Final references are followed; the value
  -- of another field may be anything
  abbrev pub LeadsWithin : (Value → Type 0) → Value → List FieldStep → Type 0
  LeadsWithin Has v [] = Has v
  LeadsWithin Has v (Final structure f ∷ steps) =
      (w : Value) → final_value shape v f ≡ Ok w → LeadsWithin Has w steps
  LeadsWithin Has v (Field structure f ∷ steps) =
      (cell : ℕ) → field_cell shape v f ≡ Ok cell → Read cell × ((w : Value) → LeadsWithin Has w steps)

  -- the same for each value that the path's local may hold
  abbrev pub PathWithin : (Value → Type 0) → Path → Type 0
  PathWithin Has path = (v : Value) → MayHold arguments path.local v → LeadsWithin Has v path.fields.items

  -- the expression reads only cells that may be read
  abbrev mutual
    pub ReadsWithin : Expr → Type 0
    ReadsWithin (Number n) = ⊤
    ReadsWithin Null = ⊤
    ReadsWithin (Place path) = PathWithin (λ v. ⊤) path
    ReadsWithin (Global start cell) = Read cell
    ReadsWithin (Element' start array p index) = ReadsWithin index × ElementIn shape arguments Read array index
    ReadsWithin (Member' pool p index) = ReadsWithin index
    ReadsWithin (Negate' p e) = ReadsWithin e
    ReadsWithin (Owned' p e structure final start local) = ReadsWithin e
    ReadsWithin (Chain' p first m rest) = ReadsWithin first × OperandsWithin rest

    pub OperandsWithin : {m : _} → Row_of-Operation m → Type 0
    OperandsWithin end_of-Operation = ⊤
    OperandsWithin (more_of-Operation operator operand rest) = ReadsWithin operand × OperandsWithin rest

  -- the condition reads only cells that may be read
  abbrev mutual
    pub TestsWithin : Condition → Type 0
    TestsWithin (Compare comparison a b) = ReadsWithin a × ReadsWithin b
    TestsWithin (Not' p c) = TestsWithin c
    TestsWithin (And' m before p last) = EachTestsWithin before × TestsWithin last
    TestsWithin (Or' m before p last) = EachTestsWithin before × TestsWithin last

    pub EachTestsWithin : {m : _} → Row_of-Condition m → Type 0
    EachTestsWithin end_of-Condition = ⊤
    EachTestsWithin (more_of-Condition c rest) = TestsWithin c × EachTestsWithin rest

  -- the statement reads and writes only cells that may be read and written; it doesn't write parameters, and calls no
  -- helper
  abbrev mutual
    pub ActsWithin : Action → Type 0
    ActsWithin (Bind k e) = (slice_get arguments k ≡ None) × ReadsWithin e
    ActsWithin (SetLocal k e) = (slice_get arguments k ≡ None) × ReadsWithin e
    ActsWithin (SetGlobal cell e) = Write cell × ReadsWithin e
    ActsWithin (SetElement array index e) =
        ReadsWithin index × ElementIn shape arguments Write array index × ReadsWithin e
    ActsWithin (SetField path structure field e) = PathWithin (λ v. FieldIn shape Write v field) path × ReadsWithin e
    ActsWithin (Call helper given result) = ⊥
    ActsWithin (Print e) = ReadsWithin e
    ActsWithin (If' c m a) = TestsWithin c × EachActsWithin a
    ActsWithin (IfElse' c m a k b) = TestsWithin c × EachActsWithin a × EachActsWithin b
    ActsWithin (While' c m body) = TestsWithin c × EachActsWithin body

    pub EachActsWithin : {m : _} → Row_of-Stmt m → Type 0
    EachActsWithin end_of-Stmt = ⊤
    EachActsWithin (more_of-Stmt start action rest) = ActsWithin action × EachActsWithin rest

  -- the same of a list of statements
  abbrev pub AllActWithin : List Stmt → Type 0
  AllActWithin [] = ⊤
  AllActWithin (x ∷ xs) = ActsWithin x.action × AllActWithin xs

  -- the value of the `return`, if the section has one, reads only cells that may be read
  abbrev pub ResultWithin : Option Return → Type 0
  ResultWithin None = ⊤
  ResultWithin (Some result) = ReadsWithin result.value

  -- a call of the section reads and writes only these cells. The definition goes by the tree, over each access that the
  -- call may come to: a parameter holds its argument, final references are followed, and any other value may be
  -- anything
  abbrev pub SectionWithin : Section → Type 0
  SectionWithin section = AllActWithin section.body.items × ResultWithin section.result
