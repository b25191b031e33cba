-- Closed runs of real threads.
use Rattle.std.specs.Prelude.{◌≡◌, ◌<◌, ℕ, List, [], ◌∷◌, ◌++◌, length, map, replicate, slice_get, Some, None, Any, ⊤}
use Rattle.core_lang.specs.declared.value.Value.{Value}
use Rattle.core_lang.specs.Whole.{Finished}
use Rattle.core_lang.specs.Serial.{Invocation, Ended, Scheduled, WholeCall, SerialFromOpening, end_of}
use Rattle.code.specs.Memory.{overwritten}
use Rattle.history.specs.Commits.{Commit, call_of, script_call, answer_of, committed}
use Rattle.lowering.specs.Plans.{Plan, IsCompiled}
use Rattle.outcomes.specs.declared.outcome.Asked.{Asked}
use Rattle.outcomes.specs.Ends.{Told, TellsEveryEnd, seen_cells}
use Rattle.input_files.specs.declared.turn.Turn.{Turn}
use Rattle.input_files.specs.Turns.{steps_of}
use Rattle.worlds.specs.Claims.{AreOfScripts}
use Rattle.worlds.specs.Worlds.{World, ThreadState, Activation, HasOpen, call_at, opening_world, world_after, final}
use Rattle.workers.specs.Logs.{IsSound}
use Rattle.workers.specs.Answers.{IsHistoryOf, RunsAsAccepted, HasScript, script_at}

-- all entries are of calls of this thread
abbrev pub AreOf : ℕ → List Commit → Type 0
AreOf t [] = ⊤
AreOf t (c ∷ cs) = (c.thread ≡ t) × AreOf t cs

-- the history's calls are these, and the history says what they answer, print and leave, whatever that is, when they
-- run whole one after another
pub record IsSerialRun (plan : Plan) (log : List Commit) (values : List Value) (calls : List Invocation) : Type 0 where
  pub calls_are : map call_of log ≡ calls
  pub runs : SerialFromOpening plan.accepted calls (map answer_of log) values
  pub alone : (ends : List Ended) (heap : List Value) → SerialFromOpening plan.accepted calls ends heap →
      (ends ≡ map answer_of log) × (heap ≡ values)

-- a run in which only one thread has called, and has finished its script
abbrev pub OneSeatIsSerial : Type 0
OneSeatIsSerial =
    (plan : Plan) (log : List Commit) (values : List Value) (t : ℕ) (script : List Invocation) → RunsAsAccepted plan log values →
    AreOf t log → HasScript plan log t → script_at plan t ≡ Some script → IsSerialRun plan log values script

-- the call used no cell
pub record IsQuiet (c : Commit) : Type 0 where
  pub reads : c.reads ≡ []
  pub writes : c.writes ≡ []

-- the law: such an entry may be put anywhere among the others
abbrev pub QuietCallsStandAnywhere : Type 0
QuietCallsStandAnywhere =
    (plan : Plan) (before after first last : List Commit) (c : Commit) → IsQuiet c → IsSound plan (before ++ c ∷ after) →
    first ++ last ≡ before ++ after →
    IsSound plan (first ++ c ∷ last)
    × (committed plan.layout.opening (first ++ c ∷ last) ≡ committed plan.layout.opening (before ++ c ∷ after))

-- ---- runs by whole calls

-- no section is open, and each cell has the heap's value
pub record IsAtRest (w : World) (heap : List Value) : Type 0 where
  pub none_open : (t : ℕ) (a : Activation) → HasOpen w t a → ⊥
  pub cells : w.cells ≡ map (λ (v : Value). Some v) heap

-- the next call of the thread's script is `next`
pub record IsNext (plan : Plan) (w : World) (next : Scheduled) : Type 0 where
  pub thread : ThreadState
  pub here : slice_get w.threads next.thread ≡ Some thread
  pub step : thread.step ≡ next.step
  pub call : call_at plan next.thread next.step ≡ Some next.call

-- between two worlds exactly this call has run: the history has one more entry, which is of the call, with this end and
-- these prints, and whose begin is the earlier length of the history; no section is open, and the cells have these
-- values
pub record HasRunWhole (before after : World) (call : Scheduled) (ended : Ended) (heap : List Value) : Type 0 where
  pub entry : Commit
  pub history : after.history ≡ before.history ++ entry ∷ []
  pub call_is : script_call entry ≡ call
  pub ends : answer_of entry ≡ ended
  pub begun : entry.begun ≡ length before.history
  pub rest : IsAtRest after heap

-- the law: in a world that is reached by steps and in which no section is open, a thread's next call that ends when it
-- is run whole on the cells comes to the same end by some number of steps of its thread alone, with the same prints,
-- and leaves the same cells
abbrev pub CallsEndAlone : Type 0
CallsEndAlone =
    (plan : Plan) (steps : List ℕ) (next : Scheduled) (heap : List Value) (finished : Finished) → IsCompiled plan →
    let w = final plan steps in
    IsAtRest w heap → IsNext plan w next → WholeCall plan.program next.call heap finished →
    (count : ℕ) × HasRunWhole w (world_after plan w (replicate count next.thread)) next (end_of finished) finished.heap

-- a turn for each entry, in which steps of its thread alone run its call whole: to the entry's end and prints, and to
-- the cells that the entry leaves
abbrev pub RunWhole : Plan → World → List Value → List Commit → List Turn → Type 0
RunWhole plan w heap [] [] = ⊤
RunWhole plan w heap [] (turn ∷ turns) = ⊥
RunWhole plan w heap (c ∷ cs) [] = ⊥
RunWhole plan w heap (c ∷ cs) (turn ∷ turns) =
    let next = world_after plan w (replicate turn.count turn.thread) in
    let left = overwritten heap c.writes in
    (turn.thread ≡ c.thread) × HasRunWhole w next (script_call c) (answer_of c) left × RunWhole plan next left cs turns

-- the end of the simulator's run of these turns
abbrev pub simulated : Plan → List Turn → World
simulated plan turns = final plan (steps_of turns)

-- no thread has a call left
abbrev pub NoneIsLeft : Plan → World → Type 0
NoneIsLeft plan w =
    (t : ℕ) (thread : ThreadState) → slice_get w.threads t ≡ Some thread → call_at plan t thread.step ≡ None

-- there are turns of whole calls, one for each entry in order, after which the history has the same calls of the same
-- threads, with the same ends and prints, no section is open, no call is left, and the cells have these values
pub record IsSimulated (plan : Plan) (log : List Commit) (values : List Value) : Type 0 where
  pub turns : List Turn
  pub whole : RunWhole plan (opening_world plan) plan.layout.opening log turns
  pub calls : map script_call (simulated plan turns).history ≡ map script_call log
  pub answers : map answer_of (simulated plan turns).history ≡ map answer_of log
  pub rest : IsAtRest (simulated plan turns) values
  pub none_left : NoneIsLeft plan (simulated plan turns)

-- a history has each thread's script, and no entry of another thread
pub record HasAllScripts (plan : Plan) (log : List Commit) : Type 0 where
  pub each : (t : ℕ) → t < length plan.program.threads.items → HasScript plan log t
  pub nobody_else : AreOfScripts plan log

-- the law: each closed run of all scripts is simulated. An entry's lists of reads and
-- writes are not compared, only the cells that it leaves. A turn has as many steps as its call takes
abbrev pub ClosedRunsAreSimulated : Type 0
ClosedRunsAreSimulated =
    (plan : Plan) (log : List Commit) (values : List Value) → IsCompiled plan → IsHistoryOf plan log values →
    HasAllScripts plan log → IsSimulated plan log values

-- the law: the requested cells that such a run leaves are those of a reported end, where every end is reported
abbrev pub ClosedEndsAreTold : Type 0
ClosedEndsAreTold =
    (plan : Plan) (log : List Commit) (values : List Value) (asked : Asked) (told : List Told) → IsCompiled plan →
    IsHistoryOf plan log values → RunsAsAccepted plan log values → HasAllScripts plan log →
    TellsEveryEnd plan.accepted asked told → Any (λ (e : Told). e.left.cells ≡ seen_cells asked.cells values) told
