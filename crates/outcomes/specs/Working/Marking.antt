-- The threads that touch each cell, as the code marks them.
use Rattle.std.specs.Prelude.{◌≡◌, ◌<◌, ◌||◌, ℕ, Bool, true, false, List, [], ◌∷◌, length, slice_get, Option, Some}
use Rattle.std.specs.Prelude.{None, Ok, ⊤}
use Rattle.std.proofs.Common.{◌⊎◌}
use Rattle.bit_set.specs.declared.set.BitSet.{BitSet}
use Rattle.bit_set.specs.Working.Sets.{has_number}
use Rattle.core_lang.specs.declared.value.Value.{Value}
use Rattle.core_lang.specs.declared.shape.Shape.{Shape}
use Rattle.core_lang.specs.declared.tree.FieldStep.{FieldStep}
use Rattle.core_lang.specs.declared.typed.Call.{Call}
use Rattle.core_lang.specs.declared.typed.Cell.{Cell}
use Rattle.core_lang.specs.declared.typed.CellOwner.{CellOwner}
use Rattle.core_lang.specs.declared.typed.CellOwner.TheVariants as owner
use Rattle.core_lang.specs.declared.typed.Thread.{Thread}
use Rattle.core_lang.specs.declared.tree.Expr.{Expr}
use Rattle.core_lang.specs.declared.tree.Path.{Path}
use Rattle.core_lang.specs.Cells.{element_cell, final_value}
use Rattle.outcomes.specs.declared.accesses.AccessWalk.{AccessWalk}
use Rattle.outcomes.specs.Working.Listing.{touches}
use Rattle.outcomes.specs.Footprints.{MayHold, ElementIn, FieldIn, LeadsWithin}
use Rattle.outcomes.specs.declared.marks.TouchMarks.{TouchMarks}
use Rattle.outcomes.specs.declared.touched.Caller.{Caller}
use Rattle.outcomes.specs.declared.touched.Reached.{Reached}
use Rattle.outcomes.specs.declared.touched.Reached.TheVariants.{Nothing, Known, Unknown}
use Rattle.outcomes.specs.declared.touched.Touched.{Touched}
use Rattle.outcomes.specs.Working.Touches.{Touch, TouchWithin, EachWithin}

-- a thread is in a set, if there is one
abbrev pub in_set : Option BitSet → ℕ → Bool
in_set None thread = false
in_set (Some set) thread = has_number set thread

-- a thread has marked a place
abbrev pub has_mark : List BitSet → ℕ → ℕ → Bool
has_mark rows place thread = in_set (slice_get rows place) thread

-- the number of places is the same, and each mark is kept
abbrev pub HaveMore : List BitSet → List BitSet → Type 0
HaveMore rows rows' =
    (length rows' ≡ length rows) ×
    ((place thread : ℕ) → has_mark rows place thread ≡ true → has_mark rows' place thread ≡ true)

-- each mark of cells and arrays is kept
abbrev pub MarksMore : TouchMarks → TouchMarks → Type 0
MarksMore marks marks' =
    HaveMore marks.cells.items marks'.cells.items × HaveMore marks.arrays.items marks'.arrays.items

-- a thread has marked a cell, or the array whose element it is
abbrev pub IsMarked : Shape → TouchMarks → ℕ → ℕ → Type 0
IsMarked shape marks thread cell =
    (has_mark marks.cells.items cell thread ≡ true)
    ⊎ ((array : ℕ) × (index : Value) × (element_cell shape array index ≡ Ok cell) ×
    (has_mark marks.arrays.items array thread ≡ true))

-- each mark of reads and writes is kept
abbrev pub TouchedMore : Touched → Touched → Type 0
TouchedMore touched touched' = MarksMore touched.reads touched'.reads × MarksMore touched.writes touched'.writes

-- the cells of the access are marked
abbrev pub TouchIsMarked : Caller → Touched → Touch → Type 0
TouchIsMarked caller touched touch =
    TouchWithin caller.shape.now caller.arguments.now (IsMarked caller.shape.now touched.reads caller.thread)
    (IsMarked caller.shape.now touched.writes caller.thread) touch

-- the cells of each access are marked
abbrev pub EachIsMarked : Caller → Touched → List Touch → Type 0
EachIsMarked caller touched touches =
    EachWithin caller.shape.now caller.arguments.now (IsMarked caller.shape.now touched.reads caller.thread)
    (IsMarked caller.shape.now touched.writes caller.thread) touches

-- the value is one that a path may have at this step
abbrev pub MayReach : Reached → Value → Type 0
MayReach Nothing v = ⊥
MayReach (Known w) v = v ≡ w
MayReach Unknown v = ⊤

-- the fields that are read on a path are marked
abbrev pub WayIsMarked : Caller → Touched → Value → List FieldStep → Reached → Type 0
WayIsMarked caller touched v steps reached =
    LeadsWithin caller.shape.now caller.arguments.now (IsMarked caller.shape.now touched.reads caller.thread)
    (IsMarked caller.shape.now touched.writes caller.thread) (MayReach reached) v steps

-- a step along a field is marked, from one value to the next
abbrev pub StepIsMarked : Caller → Touched → Reached → FieldStep → Reached → Type 0
StepIsMarked caller touched base step reached =
    (v : Value) → MayReach base v → WayIsMarked caller touched v (step ∷ []) reached

-- a path is marked, from its local to its value
abbrev pub PathIsMarked : Caller → Touched → Path → Reached → Type 0
PathIsMarked caller touched path reached =
    (v : Value) → MayHold caller.arguments.now path.local v → WayIsMarked caller touched v path.fields.items reached

-- the element that an index names is marked
abbrev pub ElementIsMarked : Caller → TouchMarks → ℕ → Expr → Type 0
ElementIsMarked caller marks array index =
    ElementIn caller.shape.now caller.arguments.now (IsMarked caller.shape.now marks caller.thread) array index

-- a field of a value is marked
abbrev pub FieldIsMarked : Caller → TouchMarks → Reached → ℕ → Type 0
FieldIsMarked caller marks base field =
    (v : Value) → MayReach base v → FieldIn caller.shape.now (IsMarked caller.shape.now marks caller.thread) v field

-- the target of a final reference of a value
abbrev pub Targets : Shape → Reached → ℕ → Reached → Type 0
Targets shape base number reached =
    (v w : Value) → MayReach base v → final_value shape v number ≡ Ok w → MayReach reached w

-- the cells that a call touches are marked: it has an argument for each parameter, and the accesses of its section are
-- marked
abbrev pub CallIsMarked : Shape → List AccessWalk → Touched → ℕ → Call → Type 0
CallIsMarked shape bodies touched thread call =
    (body : AccessWalk) → slice_get bodies call.section ≡ Some body →
    (length call.arguments.items ≡ body.parameters) ×
    EachWithin shape call.arguments.items (IsMarked shape touched.reads thread) (IsMarked shape touched.writes thread)
    (touches body.accesses.items)

-- the cells that the calls of a thread touch are marked
abbrev pub CallsAreMarked : Shape → List AccessWalk → Touched → ℕ → List Call → Type 0
CallsAreMarked shape bodies touched thread calls =
    (k : ℕ) (call : Call) → slice_get calls k ≡ Some call → CallIsMarked shape bodies touched thread call

-- the cells that the threads below the given number touch are marked
abbrev pub ThreadsAreMarked : Shape → List AccessWalk → Touched → List Thread → ℕ → Type 0
ThreadsAreMarked shape bodies touched threads count =
    (t : ℕ) (thread : Thread) → t < count → slice_get threads t ≡ Some thread →
    CallsAreMarked shape bodies touched t thread.calls.items

-- the cells that all threads touch are marked
abbrev pub AllAreMarked : Shape → List AccessWalk → Touched → List Thread → Type 0
AllAreMarked shape bodies touched threads = ThreadsAreMarked shape bodies touched threads (length threads)

-- the mark of the array of which a cell is an element
abbrev pub owner_mark : CellOwner → List BitSet → ℕ → Bool
owner_mark (owner.Global g) arrays thread = false
owner_mark (owner.Element array index) arrays thread = has_mark arrays array thread
owner_mark (owner.Field object field) arrays thread = false

-- a mark of a cell, or of its array
abbrev pub mark_at : TouchMarks → ℕ → CellOwner → ℕ → Bool
mark_at marks cell owner thread = has_mark marks.cells.items cell thread || owner_mark owner marks.arrays.items thread

-- the mark of the array of a cell, if there is one
abbrev pub array_mark : Option Cell → List BitSet → ℕ → Bool
array_mark None arrays thread = false
array_mark (Some cell) arrays thread = owner_mark cell.owner arrays thread

-- the cells of a program that a thread has marked
abbrev pub marked : List Cell → TouchMarks → ℕ → ℕ → Bool
marked cells marks thread cell =
    has_mark marks.cells.items cell thread || array_mark (slice_get cells cell) marks.arrays.items thread
