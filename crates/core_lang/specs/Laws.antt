-- Laws of the meaning, as `src/laws.rt` claims them.
use Rattle.std.specs.Prelude.{◌≡◌, ◌≤◌, ◌↔◌, ℕ, List, [], ◌∷◌, ◌++◌, length, slice_get, Option, Some, ⊤}
use Rattle.core_lang.specs.declared.value.Value.{Value}
use Rattle.core_lang.specs.declared.value.ValueType.{ValueType}
use Rattle.core_lang.specs.declared.shape.Shape.{Shape}
use Rattle.core_lang.specs.declared.tree.Section.{Section}
use Rattle.core_lang.specs.declared.typed.Typed.{Typed}
use Rattle.core_lang.specs.Whole.{Finished, Run, Over, Beyond_turns, Gone_astray, run_of, Whole}
use Rattle.core_lang.specs.Serial.{Invocation, Ended, WholeCall, Serial, run_call, serial_with, opening_heap}
use Rattle.core_lang.specs.Helpers.{CallsNothing}
use Rattle.core_lang.specs.Scopes.{bound_in_all, numbers_from}
use Rattle.core_lang.specs.Expansion.{HasSamePlaces, IsWrittenOut, IsExpansion}
use Rattle.core_lang.specs.Typing.{IsHeap, Fit, CanEnd}
use Rattle.core_lang.specs.WellFormed.{IsChecked, IsWellFormed}

-- a run that ends within a number of turns is the same with more turns
abbrev pub MoreTurnsChangeNothing : Type 0
MoreTurnsChangeNothing =
    (section : Section) (shape : Shape) (n m : ℕ) (arguments heap : List Value) (finished : Finished) → n ≤ m →
    run_of section shape n arguments heap ≡ Over finished → run_of section shape m arguments heap ≡ Over finished

-- a section run whole from the same arguments and heap ends in one way
abbrev pub HaveAtMostOneWhole : Type 0
HaveAtMostOneWhole =
    (section : Section) (shape : Shape) (arguments heap : List Value) (x y : Finished) →
    Whole section shape arguments heap x → Whole section shape arguments heap y → x ≡ y

-- a run does not go astray, and one that ends leaves a heap of the program and an outcome that the result type allows
abbrev pub StaysTyped : Typed → Option ValueType → Run → Type 0
StaysTyped program result (Over finished) = IsHeap program finished.heap × CanEnd program.shape result finished.outcome
StaysTyped program result Beyond_turns = ⊤
StaysTyped program result Gone_astray = ⊥

-- a run of a section of an accepted program, with arguments that fit it on a heap of the program, keeps the types and
-- does not go astray
abbrev pub NeverGoAstray : Type 0
NeverGoAstray =
    (program : Typed) (k n : ℕ) (section : Section) (arguments heap : List Value) → IsChecked program →
    slice_get program.sections.items k ≡ Some section → Fit program section arguments → IsHeap program heap →
    StaysTyped program section.result_type (run_of section program.shape n arguments heap)

-- the initial heap holds a value of its type in each cell
abbrev pub OpeningIsTyped : Type 0
OpeningIsTyped = (program : Typed) → IsChecked program → IsHeap program (opening_heap program)

-- if the run of a call with some bound on turns ends, the call runs whole, with the same end
abbrev pub OverIsWhole : Type 0
OverIsWhole =
    (program : Typed) (n : ℕ) (call : Invocation) (heap : List Value) (finished : Finished) →
    run_call program n call heap ≡ Over finished → WholeCall program call heap finished

-- if a call runs whole, its run with some bound on turns ends, with the same end
abbrev pub WholeIsOver : Type 0
WholeIsOver =
    (program : Typed) (call : Invocation) (heap : List Value) (finished : Finished) → WholeCall program call heap finished →
    (n : ℕ) × (run_call program n call heap ≡ Over finished)

-- the serial run of no calls leaves the heap as it is, and has no ends
abbrev pub SerialOfNone : Type 0
SerialOfNone =
    (program : Typed) (heap last : List Value) (ends : List Ended) → Serial program heap [] ends last → (ends ≡ []) × (last ≡ heap)

-- a serial run of calls goes on with further calls from the heap that the first ones leave
abbrev pub SerialOfBoth : Type 0
SerialOfBoth =
    (program : Typed) (heap middle last : List Value) (first second : List Invocation) (es fs : List Ended) →
    Serial program heap first es middle → Serial program middle second fs last → Serial program heap (first ++ second) (es ++ fs) last

-- a serial run of calls ends in at most one way
abbrev pub HaveAtMostOneSerial : Type 0
HaveAtMostOneSerial =
    (program : Typed) (heap x y : List Value) (calls : List Invocation) (es fs : List Ended) →
    Serial program heap calls es x → Serial program heap calls fs y → (es ≡ fs) × (x ≡ y)

-- a serial run of calls and further calls consists of one of the first calls, and one of the further calls from the
-- heap that these leave
abbrev pub SerialSplits : Type 0
SerialSplits =
    (program : Typed) (heap last : List Value) (first second : List Invocation) (ends : List Ended) →
    Serial program heap (first ++ second) ends last →
    (es : List Ended) × (fs : List Ended) × (middle : List Value) ×
    (ends ≡ es ++ fs) × Serial program heap first es middle × Serial program middle second fs last

-- calls that leave the heap as they found it do not change the answers of later calls
abbrev pub QuietCallsChangeNothing : Type 0
QuietCallsChangeNothing =
    (program : Typed) (heap last : List Value) (quiet calls : List Invocation) (es : List Ended) → Serial program heap quiet es heap →
    ((fs : List Ended) → Serial program heap calls fs last → Serial program heap (quiet ++ calls) (es ++ fs) last)
    × ((gs : List Ended) → Serial program heap (quiet ++ calls) gs last →
    (fs : List Ended) × (gs ≡ es ++ fs) × Serial program heap calls fs last)

-- `n` turns do not settle the first call
abbrev pub IsUnsettled : Typed → ℕ → List Value → List Invocation → Type 0
IsUnsettled program n heap [] = ⊤
IsUnsettled program n heap (call ∷ calls) = (finished : Finished) → run_call program n call heap ≡ Over finished → ⊥

-- `n` turns settle calls up to one that they do not settle, and those run serially
abbrev pub SettledAreSerial : Type 0
SettledAreSerial =
    (program : Typed) (n : ℕ) (heap : List Value) (calls : List Invocation) →
    let p = serial_with program n heap calls in
    ((settled : List Invocation) × (calls ≡ settled ++ p.unsettled) × Serial program heap settled p.ends p.heap)
    × IsUnsettled program n p.heap p.unsettled

-- a section with its helpers expanded has the same run, for all arguments, heaps and turns
abbrev pub WritingOutChangesNothing : Type 0
WritingOutChangesNothing =
    (shape shape' : Shape) (section section' : Section) → HasSamePlaces shape shape' → IsWrittenOut shape section section' → (n : ℕ) (arguments heap : List Value) →
    length arguments ≡ section.parameters → run_of section shape n arguments heap ≡ run_of section' shape' n arguments heap

-- each call has an argument for each parameter
abbrev pub CallsFill : Typed → List Invocation → Type 0
CallsFill program [] = ⊤
CallsFill program (call ∷ calls) =
    ((section : Section) → slice_get program.sections.items call.section ≡ Some section → length call.arguments ≡ section.parameters) × CallsFill program calls

-- calls have the same serial runs on a program and on its expansion
abbrev pub ExpansionsRunAlike : Type 0
ExpansionsRunAlike =
    (program program' : Typed) (heap last : List Value) (calls : List Invocation) (ends : List Ended) → IsExpansion program program' → CallsFill program calls →
    (Serial program heap calls ends last) ↔ (Serial program' heap calls ends last)

-- an expanded section has no calls
abbrev pub WrittenOutHasNoCalls : Type 0
WrittenOutHasNoCalls =
    (shape : Shape) (section section' : Section) → IsWrittenOut shape section section' → CallsNothing section'

-- an expanded section binds each further local once, in order
abbrev pub WrittenOutBindsInOrder : Type 0
WrittenOutBindsInOrder =
    (shape : Shape) (section section' : Section) → IsWrittenOut shape section section' →
    numbers_from 0 section'.parameters ++ bound_in_all section'.body.items ≡ numbers_from 0 (length section'.locals.items)

-- a well-formed program, whose helpers are expanded, is also one that may be accepted
abbrev pub WellFormedAreChecked : Type 0
WellFormedAreChecked = (program : Typed) → IsWellFormed program → IsChecked program

-- no section of a well-formed program calls a helper
abbrev pub WellFormedCallNothing : Type 0
WellFormedCallNothing =
    (program : Typed) (k : ℕ) (section : Section) → IsWellFormed program → slice_get program.sections.items k ≡ Some section → CallsNothing section
