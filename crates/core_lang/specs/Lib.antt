-- the definitions that public clauses cite
pub mod Arithmetic
pub mod Cells
pub mod Expansion
pub mod Helpers
pub mod Laws
pub mod Meaning
pub mod Scopes
pub mod Serial
pub mod Theory
pub mod Traps
pub mod Typing
pub mod WellFormed
pub mod Whole
pub mod Working
pub mod WrittenLocals
pub mod WrittenPoints
pub use Rattle.core_lang.specs.Traps.{trap_number}
pub use Rattle.core_lang.specs.Meaning.{State, value_of, truth_of, effect_of, sequence}
pub use Rattle.core_lang.specs.Whole.{Finished, Run, Over, Beyond_turns, Gone_astray, run_of}
pub use Rattle.core_lang.specs.Serial.{Invocation, Ended, WholeCall, run_call, serial_with, opening_heap, all_calls}
pub use Rattle.core_lang.specs.Typing.{struct_of, HasType, HaveTypes, local_types, IsHeap, HasCells, Fit, CanEnd}
pub use Rattle.core_lang.specs.WellFormed.{IsChecked, IsWellFormed}
unfoldable pub use Rattle.core_lang.specs.WellFormed.{CanCall}
pub use Rattle.core_lang.specs.Working.Soundness.{Gives, IsTypedState, LeadsToTyped, ValuesHaveTheirTypes}
pub use Rattle.core_lang.specs.Working.Soundness.{TestsDecide, EffectsStayTyped}
pub use Rattle.core_lang.specs.Laws.{MoreTurnsChangeNothing, HaveAtMostOneWhole, StaysTyped, NeverGoAstray}
pub use Rattle.core_lang.specs.Laws.{OpeningIsTyped, OverIsWhole, WholeIsOver, SerialOfNone, SerialOfBoth}
pub use Rattle.core_lang.specs.Laws.{HaveAtMostOneSerial, SerialSplits, QuietCallsChangeNothing, IsUnsettled}
pub use Rattle.core_lang.specs.Laws.{SettledAreSerial, WritingOutChangesNothing, ExpansionsRunAlike}
pub use Rattle.core_lang.specs.Laws.{WrittenOutHasNoCalls, WrittenOutBindsInOrder, WellFormedAreChecked}
pub use Rattle.core_lang.specs.Laws.{WellFormedCallNothing}
