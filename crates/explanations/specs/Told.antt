-- The report on a text.
use Rattle.std.specs.Prelude.{◌≡◌, ◌++◌, ℕ, List, [], map, string_bytes}
use Rattle.compiler.specs.Cycles.{IsWrittenProgram}
use Rattle.compiler.specs.Programs.{Accepts, IsOfFirstPass}
use Rattle.core_lang.specs.declared.typed.Typed.{Typed}
use Rattle.core_lang_helpers.specs.Data.{IsExpanded}
use Rattle.explanation.specs.Further.{Further, further_of, nothing_further}
use Rattle.explanation.specs.Notes.{Note, note_of}
use Rattle.explanation.specs.Warnings.{Warning, warning_of}
use Rattle.explanations.specs.CycleCalls.{cycle_calls}
use Rattle.explanations.specs.CycleNotes.{AreCycleNotes}
use Rattle.explanations.specs.OrderNotes.{AreOrderNotes}
use Rattle.explanation_faults.specs.FurtherFaults.{AreFurther}
use Rattle.explanation_faults.specs.TextNotes.{AreTextNotes}
use Rattle.explanations.specs.TextWarnings.{AreTextWarnings}
use Rattle.lockorder.specs.declared.ranks.Edge.{Edge}
use Rattle.lockorder.specs.Edges.{AreRanksOf}
use Rattle.lockorder.specs.Faults.{IsCycleOf, IsFaultOf}
use Rattle.source.specs.declared.fault.Fault.{Fault}
use Rattle.explanations.specs.declared.telling.Diagnosis as written
use Rattle.explanations.specs.declared.telling.Diagnosis.TheVariants as variant

-- a fault, the notes on it and further faults; or, for an accepted text, the notes on its order and its warnings
pub data Told : Type 0 where
  faulty : Fault → List Note → Further → Told
  accepted : List Note → List Warning → Told

-- the report that a value of the code stands for
abbrev pub said_by : written.Diagnosis → Told
said_by (variant.Faulty fault notes further) = faulty fault (map note_of notes.items) (further_of further)
said_by (variant.Accepted notes warnings) = accepted (map note_of notes.items) (map warning_of warnings.items)

-- a true fault of the first pass that has one, without a detail, true notes on it, and further faults
pub record IsExplained (text : List ℕ) (fault : Fault) (notes : List Note) (further : Further) : Type 0 where
  pub given : IsOfFirstPass text fault
  pub bare : string_bytes fault.detail ≡ []
  pub tell : AreTextNotes text fault.code fault.start notes
  pub others : AreFurther text fault.code fault.start further

-- the fault of a cycle of lock classes of the program that the text means, notes on each edge of this cycle, and on the
-- calls of helpers that lead from the program's sections to the places of the edges
pub record IsCycleExplained (text : List ℕ) (fault : Fault) (notes : List Note) : Type 0 where
  pub given : IsOfFirstPass text fault
  pub accepted : Typed
  pub program : Typed
  pub meant : IsWrittenProgram text accepted program
  pub edges : List Edge
  pub cycle : IsCycleOf program edges
  pub of_cycle : IsFaultOf program edges fault
  pub of_edges : List Note
  pub tell : AreCycleNotes program edges of_edges
  pub whole : notes ≡ of_edges ++ cycle_calls accepted program edges

-- the text is accepted: notes on the order of the lock classes of its expanded program, with what makes each pair of
-- them, and the warnings on its tree and its listed classes
pub record IsFaultless (text : List ℕ) (notes : List Note) (warnings : List Warning) : Type 0 where
  pub program : Typed
  pub accepts : Accepts text program
  pub written_out : Typed
  pub expanded : IsExpanded program written_out
  pub ranks : List ℕ
  pub are_ranks : AreRanksOf written_out ranks
  pub tell : AreOrderNotes written_out ranks notes
  pub warned : AreTextWarnings text written_out warnings

-- the report holds of a text
pub data IsToldOf (text : List ℕ) : Told → Type 0 where
  explained : {fault : Fault} {notes : List Note} {further : Further} → IsExplained text fault notes further →
      IsToldOf text (faulty fault notes further)
  cycle_explained : {fault : Fault} {notes : List Note} → IsCycleExplained text fault notes →
      IsToldOf text (faulty fault notes nothing_further)
  faultless : {notes : List Note} {warnings : List Warning} → IsFaultless text notes warnings →
      IsToldOf text (accepted notes warnings)
