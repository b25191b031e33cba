-- The accesses of a section, in the order of its text.
use Rattle.std.specs.Prelude.{◌≡◌, ℕ, List, [], ◌∷◌, ◌++◌, slice_get, Option, Some, None, ⊤}
use Rattle.core_lang.specs.declared.value.Value.{Value}
use Rattle.core_lang.specs.declared.shape.Shape.{Shape}
use Rattle.core_lang.specs.declared.tree.Path.{Path}
use Rattle.core_lang.specs.declared.tree.Expr.{Expr, Number, Null, Place, Global, Element', Member', Negate', Owned'}
use Rattle.core_lang.specs.declared.tree.Expr.{Chain', Row_of-Operation, end_of-Operation, more_of-Operation}
use Rattle.core_lang.specs.declared.tree.Operation.{Operation}
use Rattle.core_lang.specs.declared.tree.Condition.{Condition, Compare, Not', And', Or', Row_of-Condition}
use Rattle.core_lang.specs.declared.tree.Condition.{end_of-Condition, more_of-Condition}
use Rattle.core_lang.specs.declared.tree.Stmt.{Stmt}
use Rattle.core_lang.specs.declared.tree.Action.{Action, Bind, SetLocal, SetGlobal, SetElement, SetField, Call, Print}
use Rattle.core_lang.specs.declared.tree.Action.{If', IfElse', While', Row_of-Stmt, end_of-Stmt, more_of-Stmt}
use Rattle.core_lang.specs.declared.tree.Return.{Return}
use Rattle.core_lang.specs.declared.tree.Section.{Section}
use Rattle.outcomes.specs.Footprints.{ElementIn, FieldIn, PathWithin}

-- an access of a section
pub data Touch : Type 0 where
  reads_path : Path → Touch
  reads_cell : ℕ → Touch
  reads_element : ℕ → Expr → Touch
  writes_local : ℕ → Touch
  writes_cell : ℕ → Touch
  writes_element : ℕ → Expr → Touch
  writes_field : Path → ℕ → Touch
  calls : Touch

-- the access reads and writes only these cells
abbrev pub TouchWithin : Shape → List Value → (ℕ → Type 0) → (ℕ → Type 0) → Touch → Type 0
TouchWithin shape arguments Read Write (reads_path path) = PathWithin shape arguments Read Write (λ v. ⊤) path
TouchWithin shape arguments Read Write (reads_cell cell) = Read cell
TouchWithin shape arguments Read Write (reads_element array index) = ElementIn shape arguments Read array index
TouchWithin shape arguments Read Write (writes_local k) = slice_get arguments k ≡ None
TouchWithin shape arguments Read Write (writes_cell cell) = Write cell
TouchWithin shape arguments Read Write (writes_element array index) = ElementIn shape arguments Write array index
TouchWithin shape arguments Read Write (writes_field path field) =
    PathWithin shape arguments Read Write (λ v. FieldIn shape Write v field) path
TouchWithin shape arguments Read Write calls = ⊥

-- each access reads and writes only these cells
abbrev pub EachWithin : Shape → List Value → (ℕ → Type 0) → (ℕ → Type 0) → List Touch → Type 0
EachWithin shape arguments Read Write [] = ⊤
EachWithin shape arguments Read Write (x ∷ xs) =
    TouchWithin shape arguments Read Write x × EachWithin shape arguments Read Write xs

-- the accesses of an expression, in the order of the code
abbrev mutual
  pub reads_in : Expr → List Touch
  reads_in (Number n) = []
  reads_in Null = []
  reads_in (Place path) = reads_path path ∷ []
  reads_in (Global start cell) = reads_cell cell ∷ []
  reads_in (Element' start array p index) = reads_in index ++ reads_element array index ∷ []
  reads_in (Member' pool p index) = reads_in index
  reads_in (Negate' p e) = reads_in e
  reads_in (Owned' p e structure final start local) = reads_in e
  reads_in (Chain' p first m rest) = reads_in first ++ reads_in_row rest

  pub reads_in_row : {m : _} → Row_of-Operation m → List Touch
  reads_in_row end_of-Operation = []
  reads_in_row (more_of-Operation operator operand rest) = reads_in operand ++ reads_in_row rest

-- the accesses of a list of operations
abbrev pub reads_in_all : List Operation → List Touch
reads_in_all [] = []
reads_in_all (x ∷ xs) = reads_in x.operand ++ reads_in_all xs

-- the accesses of a condition
abbrev mutual
  pub tests_in : Condition → List Touch
  tests_in (Compare comparison a b) = reads_in a ++ reads_in b
  tests_in (Not' p c) = tests_in c
  tests_in (And' m before p last) = tests_in_row before ++ tests_in last
  tests_in (Or' m before p last) = tests_in_row before ++ tests_in last

  pub tests_in_row : {m : _} → Row_of-Condition m → List Touch
  tests_in_row end_of-Condition = []
  tests_in_row (more_of-Condition c rest) = tests_in c ++ tests_in_row rest

abbrev pub tests_in_all : List Condition → List Touch
tests_in_all [] = []
tests_in_all (x ∷ xs) = tests_in x ++ tests_in_all xs

-- the accesses of a statement: its writes, then its reads
abbrev mutual
  pub acts_in : Action → List Touch
  acts_in (Bind k e) = writes_local k ∷ reads_in e
  acts_in (SetLocal k e) = writes_local k ∷ reads_in e
  acts_in (SetGlobal cell e) = writes_cell cell ∷ reads_in e
  acts_in (SetElement array index e) = writes_element array index ∷ (reads_in index ++ reads_in e)
  acts_in (SetField path structure field e) = writes_field path field ∷ reads_in e
  acts_in (Call helper given result) = calls ∷ []
  acts_in (Print e) = reads_in e
  acts_in (If' c m a) = tests_in c ++ acts_in_row a
  acts_in (IfElse' c m a k b) = tests_in c ++ (acts_in_row a ++ acts_in_row b)
  acts_in (While' c m body) = tests_in c ++ acts_in_row body

  pub acts_in_row : {m : _} → Row_of-Stmt m → List Touch
  acts_in_row end_of-Stmt = []
  acts_in_row (more_of-Stmt start action rest) = acts_in action ++ acts_in_row rest

abbrev pub acts_in_all : List Stmt → List Touch
acts_in_all [] = []
acts_in_all (x ∷ xs) = acts_in x.action ++ acts_in_all xs

abbrev pub result_in : Option Return → List Touch
result_in None = []
result_in (Some result) = reads_in result.value

-- the accesses of a section
abbrev pub touches_of : Section → List Touch
touches_of section = acts_in_all section.body.items ++ result_in section.result
