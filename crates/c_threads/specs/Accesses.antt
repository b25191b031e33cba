-- The cells of the memory that a group of statements reads or writes.
use Rattle.std.specs.Prelude.{ℕ, List, [], ◌∷◌, Option, Some, None}
use Rattle.core_lang.specs.declared.value.Value.{Value}
use Rattle.core_lang.specs.declared.shape.Shape.{Shape}
use Rattle.core_lang.specs.Typing.{lookup}
use Rattle.c_language.specs.Meaning.{Frame, After, Next, At_label, At_end, Anything, value, number_in, pointer_in}
use Rattle.c_language.specs.Meaning.{array_cell, field_of, does}
use Rattle.c_language.specs.declared.statement.RightSide.{RightSide}
use Rattle.c_language.specs.declared.statement.RightSide.TheVariants.{Global, Element, Field}
use Rattle.c_language.specs.declared.statement.Statement.{Statement}
use Rattle.c_language.specs.declared.statement.Statement.TheVariants.{Set, StoreGlobal, StoreElement, StoreField}

-- the cell, if there is one, before these cells
abbrev pub if_cell : Option ℕ → List ℕ → List ℕ
if_cell (Some cell) cells = cell ∷ cells
if_cell None cells = cells

module _ {M : Type 0} (load : M → ℕ → Option (Value × M)) (store : M → ℕ → Value → Option M) (shape : Shape) where
  -- the cell that a right side reads, if it reads one
  abbrev pub reads : RightSide → Frame M → Option ℕ
  reads (Global cell) f = Some cell
  reads (Element array a) f = lookup (number_in (value a f)) (array_cell load store shape array)
  reads (Field a x) f = lookup (pointer_in (value a f)) (λ r. field_of load store shape r x.number)
  reads _ f = None

  -- the cell that a statement reads or writes, if there is one
  abbrev pub accesses : Statement → Frame M → Option ℕ
  accesses (Set t r) f = reads r f
  accesses (StoreGlobal cell a) f = Some cell
  accesses (StoreElement array i a) f = lookup (number_in (value i f)) (array_cell load store shape array)
  accesses (StoreField base x a) f = lookup (pointer_in (value base f)) (λ r. field_of load store shape r x.number)
  accesses _ f = None

  -- the cells of the statements after a statement; none if it leads elsewhere
  abbrev pub and_then : After M → (Frame M → List ℕ) → List ℕ
  and_then (Next f) go = go f
  and_then (At_label label f) go = []
  and_then (At_end outcome f) go = []
  and_then Anything go = []

  -- the cells that statements read or write, one after another, until one leads elsewhere
  abbrev pub all_accesses : List Statement → Frame M → List ℕ
  all_accesses [] f = []
  all_accesses (s ∷ ss) f = if_cell (accesses s f) (and_then (does load store shape s f) (all_accesses ss))
