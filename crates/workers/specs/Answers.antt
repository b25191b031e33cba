-- What an answer of a call says, and what a closed history says about all answers.
use Rattle.std.specs.Prelude.{◌≡◌, ◌+◌, ◌==◌, ◌&&◌, ℕ, ℤ, Bool, true, List, [], ◌∷◌, length, map, if◌then◌else◌, Option}
use Rattle.std.specs.Prelude.{Some, slice_get}
use Rattle.std.specs.List.{Contains}
use Rattle.core_lang.specs.declared.value.Value.{Value}
use Rattle.core_lang.specs.declared.value.Outcome.{Outcome}
use Rattle.core_lang.specs.Serial.{Invocation, WholeCall, SerialFromOpening}
use Rattle.core_lang.specs.Typing.{HasCells}
use Rattle.history.specs.Commits.{Commit, call_of, answer_of, committed}
use Rattle.lowering.specs.Plans.{Plan}
use Rattle.worlds.specs.Worlds.{scripts}
use Rattle.workers.specs.Logs.{IsSound}
use Rattle.workers.specs.Seats.{ReplyOf, SeatOf, AreBegunInTurn}

-- after some legal history of true entries, as long as the answer's position, the call, run whole, ends and prints as
-- the answer says
pub record IsAnswer (plan : Plan) (call : Invocation) (position : ℕ) (outcome : Outcome) (prints : List ℤ) : Type 0
  where
    pub log : List Commit
    pub long : length log ≡ position
    pub sound : IsSound plan log
    pub heap : List Value
    pub gives : WholeCall plan.program call (committed plan.layout.opening log)
        (record { outcome = outcome; prints = prints; heap = heap })

-- a call by its section and its arguments
abbrev pub as_call : ℕ → List Value → Invocation
as_call section arguments = record { section = section; arguments = arguments }

-- the answer that a seat keeps for an entry at this position
abbrev pub reply_at : ℕ → Commit → ReplyOf
reply_at position c =
    record { position = position; begun = c.begun; call = call_of c; outcome = c.outcome; prints = c.prints }

-- the answers that a seat keeps for its thread's entries, in order; the first entry of the list has this position
abbrev pub replies_of : ℕ → ℕ → List Commit → List ReplyOf
replies_of thread position [] = []
replies_of thread position (c ∷ cs) =
    if c.thread == thread then reply_at position c ∷ replies_of thread (position + 1) cs
    else replies_of thread (position + 1) cs

-- the steps of a thread's entries count up by one from `step`
abbrev pub in_step : ℕ → ℕ → List Commit → Bool
in_step thread step [] = true
in_step thread step (c ∷ cs) =
    if c.thread == thread then ((c.step == step) && in_step thread (step + 1) cs) else in_step thread step cs

-- the thread's entries are the seat's answers and began in turn, and the step of each is the number of those before it
pub record AnswersAreIn (log : List Commit) (s : SeatOf) : Type 0 where
  pub answers : s.answers ≡ replies_of s.thread 0 log
  pub begun : AreBegunInTurn 0 s.answers
  pub steps : in_step s.thread 0 log ≡ true

-- one of the seats is that of the thread
abbrev pub HasSeat : List SeatOf → ℕ → Type 0
HasSeat seats thread = Contains (map (λ (s : SeatOf). s.thread) seats) thread

-- one of the seats is that of the entry's thread
abbrev pub IsSeated : List SeatOf → Commit → Type 0
IsSeated seats c = HasSeat seats c.thread

-- a history of the program: it is sound, and the values are those that it leaves, one for each cell. Its calls, run
-- whole one after another, end and print as it says, and leave these values
pub record IsHistoryOf (plan : Plan) (log : List Commit) (values : List Value) : Type 0 where
  pub sound : IsSound plan log
  pub values_are : values ≡ committed plan.layout.opening log
  pub cells : HasCells plan.program values
  pub serial : SerialFromOpening plan.program (map call_of log) (map answer_of log) values

-- the calls of the log, run whole one after another on the program as it was accepted, before its helpers are expanded,
-- end and print as the log says and leave these values
abbrev pub RunsAsAccepted : Plan → List Commit → List Value → Type 0
RunsAsAccepted plan log values = SerialFromOpening plan.accepted (map call_of log) (map answer_of log) values

-- a log exists, as long as the position, whose calls run so, and after which the call, run whole on the program as it
-- was accepted, ends and prints as the answer says
pub record IsAnswerAsAccepted (plan : Plan) (call : Invocation) (position : ℕ) (outcome : Outcome) (prints : List ℤ) :
    Type 0 where
  pub log : List Commit
  pub long : length log ≡ position
  pub sound : IsSound plan log
  pub before : RunsAsAccepted plan log (committed plan.layout.opening log)
  pub heap : List Value
  pub gives : WholeCall plan.accepted call (committed plan.layout.opening log)
      (record { outcome = outcome; prints = prints; heap = heap })

-- ---- scripts

-- the call of an answer
abbrev pub call_in : ReplyOf → Invocation
call_in h = h.call

-- a thread's script; none for an unknown thread
abbrev pub script_at : Plan → ℕ → Option (List Invocation)
script_at plan t = slice_get (scripts plan) t

-- thread t's entries are its script's calls in order, each once, with the steps 0, 1, 2 and so on
pub record HasScript (plan : Plan) (log : List Commit) (t : ℕ) : Type 0 where
  pub calls : Some (map call_in (replies_of t 0 log)) ≡ script_at plan t
  pub begun : AreBegunInTurn 0 (replies_of t 0 log)
  pub steps : in_step t 0 log ≡ true
