-- Laws of calls by the cells that they touch, as the laws of `src/independence_laws.rt` claim them.
use Rattle.std.specs.Prelude.{◌≡◌, ℕ, List, slice_get, Some, Bool, true, false}
use Rattle.core_lang.specs.declared.value.Value.{Value}
use Rattle.core_lang.specs.declared.shape.Shape.{Shape}
use Rattle.core_lang.specs.declared.tree.Section.{Section}
use Rattle.core_lang.specs.declared.typed.Typed.{Typed}
use Rattle.core_lang.specs.Whole.{Finished, Run, Over, run_of}
use Rattle.core_lang.specs.Serial.{Invocation, end_of}
use Rattle.outcomes.specs.Footprints.{SectionWithin}
use Rattle.outcomes.specs.Commuting.{Commute}

-- two heaps have the same values in these cells
abbrev pub AgreeOn : (ℕ → Type 0) → List Value → List Value → Type 0
AgreeOn Cell heap heap' = (c : ℕ) → Cell c → slice_get heap c ≡ slice_get heap' c

-- two heaps differ only in these cells
abbrev pub ChangesOnly : (ℕ → Type 0) → List Value → List Value → Type 0
ChangesOnly Cell before after = (c : ℕ) → (Cell c → ⊥) → slice_get after c ≡ slice_get before c

-- a run from another heap ends as the first one did, and leaves the same values in the cells that may be read or
-- written; neither run changes other cells than those that may be written
pub record EndsAlike (Read Write : ℕ → Type 0) (run : List Value → Run) (heap heap' : List Value)
    (finished : Finished) : Type 0 where
  pub other : Finished
  pub over : run heap' ≡ Over other
  pub ends : end_of other ≡ end_of finished
  pub reads : AgreeOn Read finished.heap other.heap
  pub writes : AgreeOn Write finished.heap other.heap
  pub kept : ChangesOnly Write heap finished.heap
  pub kept' : ChangesOnly Write heap' other.heap

-- the cells of a set
abbrev pub In : (ℕ → Bool) → ℕ → Type 0
In set cell = set cell ≡ true

-- a call of a section depends only on the cells that it may read and write
abbrev pub OtherCellsChangeNothing : Type 0
OtherCellsChangeNothing =
    (section : Section) (shape : Shape) (n : ℕ) (arguments heap heap' : List Value) (finished : Finished)
    (reads writes : ℕ → Bool) → SectionWithin shape arguments (In reads) (In writes) section →
    AgreeOn (In reads) heap heap' → AgreeOn (In writes) heap heap' →
    run_of section shape n arguments heap ≡ Over finished →
    EndsAlike (In reads) (In writes) (run_of section shape n arguments) heap heap' finished

-- the call reads and writes only these cells
abbrev pub CallWithin : Typed → Invocation → (ℕ → Type 0) → (ℕ → Type 0) → Type 0
CallWithin program call Read Write =
    (section : Section) → slice_get program.sections.items call.section ≡ Some section →
    SectionWithin program.shape call.arguments Read Write section

-- no cell that one call writes is read or written by the other
abbrev pub WritesApart : (ℕ → Bool) → (ℕ → Bool) → (ℕ → Bool) → Type 0
WritesApart writes reads' writes' = (c : ℕ) → In writes c → (reads' c ≡ false) × (writes' c ≡ false)

-- two calls commute if neither writes a cell that the other touches
abbrev pub CallsApartCommute : Type 0
CallsApartCommute =
    (program : Typed) (n : ℕ) (a b : Invocation) (reads writes reads' writes' : ℕ → Bool) →
    CallWithin program a (In reads) (In writes) → CallWithin program b (In reads') (In writes') →
    WritesApart writes reads' writes' → WritesApart writes' reads writes → Commute program n a b
