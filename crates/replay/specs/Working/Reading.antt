-- What the parts of a reading tell each other. It mirrors the code: nobody has to believe it.
use Rattle.std.specs.Prelude.{◌≡◌, ◌≤◌, ◌<◌, ◌↔◌, ◌^◌, ℕ, Bool, true, false, IsTrue, ◌&&◌, nat_le, List, [], ◌∷◌, ◌++◌}
use Rattle.std.specs.Prelude.{length, drop, map, slice_get, codes, string_bytes, Option, Some, None, Vec, ⊤}
use Rattle.std.specs.Option.{option_map}
use Rattle.std.specs.BTreeMap.{BTreeMap}
use Rattle.core_lang.specs.declared.value.Value.{Value}
use Rattle.core_lang.specs.declared.shape.Pool.{Pool}
use Rattle.core_lang.specs.declared.tree.Section.{Section}
use Rattle.core_lang.specs.declared.typed.Call.{Call}
use Rattle.core_lang.specs.declared.typed.Thread.{Thread}
use Rattle.core_lang.specs.declared.typed.Typed.{Typed}
use Rattle.core_lang.specs.Serial.{Invocation, Scheduled}
use Rattle.core_lang.specs.Typing.{lookup, IsHeap, HasCells}
use Rattle.core_lang.specs.Expansion.{IsExpansion}
use Rattle.core_lang.specs.WellFormed.{CanCall, IsChecked}
use Rattle.input_files.specs.declared.format.Format.{Format}
use Rattle.input_files.specs.declared.format.Format.TheVariants.{One, Two}
use Rattle.input_files.specs.Pieces.{begins}
use Rattle.report.specs.declared.record.CallRef.{CallRef}
use Rattle.report.specs.Entry.{scheduled_called}
use Rattle.report.specs.History.{call_head}
use Rattle.replay.specs.declared.callers.Callers.{Callers}
use Rattle.replay.specs.declared.callers.Callers.TheVariants.{Scripts, Anyone}
use Rattle.replay.specs.declared.calls.Invoked.{Invoked}
use Rattle.replay.specs.declared.candidate.Replay.{Replay}
use Rattle.replay.specs.declared.told.Told.{Told}
use Rattle.replay.specs.declared.verdict.Judgement.{Judgement}
use Rattle.replay.specs.declared.wanted.Lack.{Lack}
use Rattle.replay.specs.declared.progress.ThreadProgress.{ThreadProgress}
use Rattle.replay.specs.declared.progress.Stage.{Stage}
use Rattle.replay.specs.declared.progress.Stage.TheVariants.{Calls, Cells, Ended}
use Rattle.replay.specs.declared.progress.Progress.{Progress}
use Rattle.replay.specs.declared.progress.Finding.{Finding}
use Rattle.replay.specs.declared.progress.Finding.TheVariants.{Came, Other, EndsOtherwise, Beyond}
use Rattle.replay.specs.Readers.{Reader, Comes, IsUnsettled, IsNext, IsNextCall, MayBegin, calls_by, script_of}
use Rattle.replay.specs.Readers.{IsAfter, print_lines, cell_lines}
use Rattle.replay.specs.Verdicts.{Holds, IsOther, Reaches}
use Rattle.replay.specs.declared.wanted.Wanted.{Wanted}
use Rattle.replay.specs.Wanted.{AreInTurn, Explains, IsDetermined, IsWanted, KeepsCall, LacksNumber, MayCome, NamesNone}
use Rattle.replay.specs.Working.Names.{AreNumbersOf}
use Rattle.replay.specs.Working.Seats.{seat_in}

-- ---- how far

-- how many calls of a thread its seat counts
abbrev pub called_at : BTreeMap ℕ ThreadProgress → ℕ → ℕ
called_at seats t = (seat_in seats t).called

-- the least begin that its seat allows to its next call
abbrev pub least_at : BTreeMap ℕ ThreadProgress → ℕ → ℕ
least_at seats t = (seat_in seats t).least

-- the seats count what came
pub record AreSeats (seats : BTreeMap ℕ ThreadProgress) (order : List ℕ) : Type 0 where
  pub called : (t : ℕ) → called_at seats t ≡ calls_by t order
  pub least : (t begun : ℕ) → IsAfter order t begun ↔ (least_at seats t ≤ begun)

-- the lines that are due at a stage
abbrev pub due_lines : Typed → Stage → Progress → List (List ℕ)
due_lines program Calls at = print_lines (drop at.told at.prints.items)
due_lines program (Cells number) at = cell_lines program (drop number program.cells.items) (drop number at.heap) ++ codes "end" ∷ []
due_lines program Ended at = []

abbrev pub has_closed : Stage → Bool
has_closed Calls = false
has_closed (Cells number) = true
has_closed Ended = true

-- the progress is what a reader has come to
pub record IsAt (program : Typed) (at : Progress) (reader : Reader) : Type 0 where
  pub heap : at.heap ≡ reader.heap
  pub position : at.position ≡ length reader.order
  pub seats : AreSeats at.seats reader.order
  pub due : due_lines program at.stage at ≡ reader.due
  pub closed : has_closed at.stage ≡ reader.closed

-- a thread that calls is one of the program, where the scripts call
abbrev pub IsThread : Callers → Typed → ℕ → Type 0
IsThread Scripts program t = t < length program.threads.items
IsThread Anyone program t = ⊤

-- the seats count no calls of threads that the program does not have
abbrev pub AreThreads : Callers → Typed → BTreeMap ℕ ThreadProgress → Type 0
AreThreads Scripts program seats = (t : ℕ) → length program.threads.items ≤ t → called_at seats t ≡ 0
AreThreads Anyone program seats = ⊤

-- the invariant of the progress, wherever the reader is
pub record IsSound (callers : Callers) (program : Typed) (at : Progress) : Type 0 where
  pub cells : HasCells program at.heap
  pub typed : IsHeap program at.heap
  pub few : (t : ℕ) → called_at at.seats t ≤ at.position
  pub threads : AreThreads callers program at.seats
  pub told : at.told ≤ length at.prints.items

-- ---- what is found of a line

-- the finding on a line, for the reader and the progress after the line
abbrev pub Found : ℕ → Callers → Format → Typed → Reader → List ℕ → Progress → Finding → Type 0
Found turns callers format program reader text after Came =
    (next : Reader) × Comes turns callers format program reader next text × IsAt program after next
Found turns callers format program reader text after Other = IsOther turns callers format program reader text
Found turns callers format program reader text after EndsOtherwise = IsOther turns callers format program reader text
Found turns callers format program reader text after Beyond = IsUnsettled turns callers format program reader text

-- the line was read: the finding holds for each reader that the progress is of
abbrev pub Reads : ℕ → Callers → Format → Typed → List ℕ → Progress → Progress → Finding → Type 0
Reads turns callers format program text old new finding =
    (reader : Reader) → IsAt program old reader → Found turns callers format program reader text new finding

-- a line that may not come is not the line of a next call up to its end, and the progress stays
pub record IsLeft (callers : Callers) (format : Format) (program : Typed) (text : List ℕ) (old new : Progress) : Type 0 where
  pub same : new ≡ old
  pub names : (reader : Reader) → IsAt program old reader → NamesNone callers format program reader (text ∷ [])

-- the line ends otherwise than its call, whose line was written
abbrev pub EndsSo : ℕ → Callers → Format → Typed → List ℕ → Progress → List ℕ → Type 0
EndsSo turns callers format program text old written = (reader : Reader) → IsAt program old reader →
    MayCome turns callers format program reader written × KeepsCall callers format program reader (text ∷ []) written
    × IsDetermined callers format program reader (text ∷ [])

-- the progress after a line that may not come, and the line that was written for it
abbrev pub Leaves : ℕ → Callers → Format → Typed → List ℕ → Progress → Progress → List ℕ → Finding → Type 0
Leaves turns callers format program text old new written Came = ⊤
Leaves turns callers format program text old new written Other = IsLeft callers format program text old new
Leaves turns callers format program text old new written EndsOtherwise = EndsSo turns callers format program text old written
Leaves turns callers format program text old new written Beyond = ⊤

-- the first of lines is this one, if there is any
abbrev pub BeginsWith : List (List ℕ) → Option (List ℕ) → Type 0
BeginsWith lines line = slice_get lines 0 ≡ line

-- what may come at the progress, if the remaining lines begin with `line`, which is not the line of a next call
abbrev pub Suggests : ℕ → Callers → Format → Typed → Progress → Option (List ℕ) → Wanted → Type 0
Suggests turns callers format program at line wanted = (reader : Reader) (lines : List (List ℕ)) → BeginsWith lines line →
    IsAt program at reader → NamesNone callers format program reader lines →
    IsWanted turns callers format program reader lines wanted

-- the same for each next line
abbrev pub SuggestsFor : ℕ → Callers → Format → Typed → Progress → Wanted → Type 0
SuggestsFor turns callers format program at wanted = (line : Option (List ℕ)) → Suggests turns callers format program at line wanted

-- the verdict on lines that came, of which there are two fewer than this number, and what may come after them
abbrev pub EndsAs : ℕ → Callers → Format → Typed → Progress → ℕ → Judgement → Type 0
EndsAs turns callers format program at number judgement = (reader : Reader) (lines : List (List ℕ)) → IsAt program at reader →
    Reaches turns callers format program lines number reader [] →
    Holds turns callers format program lines judgement.verdict
    × Explains turns callers format program lines judgement.verdict judgement.wanted

-- the fault of a line's numbers, at the progress
abbrev pub LacksAt : Format → Progress → Told → Lack → Type 0
LacksAt format at told lack = (reader : Reader) → AreSeats at.seats reader.order → at.position ≡ length reader.order →
    LacksNumber format reader.order told lack

-- the numbers of a call's line are right at the progress
abbrev pub AreInTurnAt : Format → Progress → Told → Type 0
AreInTurnAt format at told = (reader : Reader) → AreSeats at.seats reader.order → at.position ≡ length reader.order →
    AreInTurn format reader.order told

-- ---- the call of a line

-- a program that is prepared for its calls
pub record IsReady (replay : Replay) : Type 0 where
  pub well_formed : IsChecked replay.program.now
  pub prepared : replay.prepared.program.now ≡ replay.program.now
  pub expansion : IsExpansion replay.program.now replay.prepared.written.now
  pub sections : AreNumbersOf (map (λ (s : Section). string_bytes s.name) replay.program.now.sections.items) replay.sections
  pub pools : AreNumbersOf (map (λ (p : Pool). string_bytes p.name) replay.program.now.shape.pools.items) replay.pools

-- the values of what was read
abbrev pub items_of : {Y : Type 0} → Vec Value Y → List Value
items_of values = values.items

-- the call that was read
abbrev pub invocation_of : Invoked → Invocation
invocation_of invoked = record { section = invoked.section; arguments = invoked.arguments.items }

abbrev pub invocation_at : Option Invoked → Option Invocation
invocation_at invoked = option_map invocation_of invoked

-- a thread's next call may tell this begin
abbrev pub begins_at : Format → ℕ → ℕ → ℕ → Bool
begins_at One least position begun = true
begins_at Two least position begun = nat_le least begun && nat_le begun position

-- the call of a thread with this number
abbrev pub call_in : Typed → ℕ → ℕ → Option Call
call_in program t step = lookup (slice_get program.threads.items t) (λ (thread : Thread). slice_get thread.calls.items step)

-- no call's line reads so
abbrev pub IsNoCall : Callers → Format → Typed → Progress → List ℕ → Type 0
IsNoCall callers format program at text =
    (reader : Reader) (call : Scheduled) (begun : ℕ) (end : List ℕ) → IsAt program at reader →
    IsNextCall callers format program reader.order text call begun end → ⊥

-- the call is the next of its thread, by the count of its seat, if the line is the call's up to its end, and the line
-- is not that of another call
pub record IsOnlyCall (callers : Callers) (format : Format) (program : Typed) (at : Progress) (text : List ℕ) (this : CallRef) : Type 0 where
  pub counted : called_at at.seats this.thread ≡ this.step
  pub thread : IsThread callers program this.thread
  pub few : this.step < 2 ^ 63
  pub next : (reader : Reader) (end : List ℕ) → IsAt program at reader →
      text ≡ call_head format program (scheduled_called this) this.begun ++ end → IsNext callers program reader.order (scheduled_called this)
  pub begins : (reader : Reader) → IsAt program at reader → MayBegin format reader.order this.thread this.begun
  pub fits : CanCall program this.section this.arguments.now
  pub only : (reader : Reader) (call : Scheduled) (begun : ℕ) (end : List ℕ) → IsAt program at reader →
      IsNextCall callers format program reader.order text call begun end →
      (call ≡ scheduled_called this) × (call_head format program call begun ≡ call_head format program (scheduled_called this) this.begun)

-- the only call whose line may read so, if there is one
abbrev pub IsCandidate : Callers → Format → Typed → Progress → List ℕ → Option CallRef → Type 0
IsCandidate callers format program at text (Some this) = IsOnlyCall callers format program at text this
IsCandidate callers format program at text None = IsNoCall callers format program at text

-- `written` is the line of the call up to its end, and the text begins with it
pub record IsHead (format : Format) (program : Typed) (text : List ℕ) (written : List ℕ) (this : CallRef) : Type 0 where
  pub is : written ≡ call_head format program (scheduled_called this) this.begun
  pub begins : IsTrue (begins written text)

-- the same, if there is such a call
abbrev pub IsHeadOf : Format → Typed → List ℕ → List ℕ → Option CallRef → Type 0
IsHeadOf format program text written (Some this) = IsHead format program text written this
IsHeadOf format program text written None = ⊤

-- the seats count all calls of all scripts
abbrev pub SeatsAreFull : Typed → BTreeMap ℕ ThreadProgress → Type 0
SeatsAreFull program seats = (t : ℕ) → called_at seats t ≡ length (script_of program t)

-- the seats count all calls that must come; if anyone may call, each number is right
abbrev pub SeatsAreAll : Callers → Typed → BTreeMap ℕ ThreadProgress → Type 0
SeatsAreAll Scripts program seats = SeatsAreFull program seats
SeatsAreAll Anyone program seats = ⊤
