-- The accesses that values of the code stand for.
use Rattle.std.specs.Prelude.{◌≡◌, List, [], ◌∷◌, map, ⊤}
use Rattle.core_lang.specs.declared.tree.Section.{Section}
use Rattle.outcomes.specs.declared.accesses.Access.{Access}
use Rattle.outcomes.specs.declared.accesses.Access.TheVariants.{Path, Cell, Element, Local, SetCell, SetElement}
use Rattle.outcomes.specs.declared.accesses.Access.TheVariants.{SetField, Call}
use Rattle.outcomes.specs.declared.accesses.AccessWalk.{AccessWalk}
use Rattle.outcomes.specs.Working.Touches.{Touch, reads_path, reads_cell, reads_element, writes_local, writes_cell}
use Rattle.outcomes.specs.Working.Touches.{writes_element, writes_field, calls, touches_of}

abbrev pub touch_at : Access → Touch
touch_at (Path path) = reads_path path.now
touch_at (Cell cell) = reads_cell cell
touch_at (Element array index) = reads_element array index.now
touch_at (Local local) = writes_local local
touch_at (SetCell cell) = writes_cell cell
touch_at (SetElement array index) = writes_element array index.now
touch_at (SetField base field) = writes_field base.now field
touch_at Call = calls

abbrev pub touches : List Access → List Touch
touches accesses = map touch_at accesses

-- the value lists the accesses of the section
pub record IsListed (body : AccessWalk) (section : Section) : Type 0 where
  pub parameters : body.parameters ≡ section.parameters
  pub accesses : touches body.accesses.items ≡ touches_of section

-- each value lists the accesses of its section
abbrev pub AreListed : List AccessWalk → List Section → Type 0
AreListed [] [] = ⊤
AreListed [] (section ∷ sections) = ⊥
AreListed (body ∷ bodies) [] = ⊥
AreListed (body ∷ bodies) (section ∷ sections) = IsListed body section × AreListed bodies sections
