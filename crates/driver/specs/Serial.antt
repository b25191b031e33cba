-- The answers of `serial`.
use Rattle.std.specs.Prelude.{◌≡◌, ℕ, Bool, if◌then◌else◌, List, [], ◌∷◌, ◌++◌, map}
use Rattle.core_lang.specs.declared.typed.Typed.{Typed}
use Rattle.core_lang.specs.declared.value.Value.{Value}
use Rattle.core_lang.specs.Serial.{Scheduled, Invocation, Ended, all_calls, run_call, serial_run, SerialFromOpening}
use Rattle.core_lang.specs.Whole.{Beyond_turns}
use Rattle.input_files.specs.declared.format.Format.TheVariants.{One}
use Rattle.report.specs.Entry.{Entry}
use Rattle.report.specs.History.{changed_history_of, history_of, unsettled_of}
use Rattle.driver.specs.declared.status.Status.{Status}
use Rattle.driver.specs.declared.status.Status.TheVariants.{Done, Unsettled}

-- the invocations of calls
abbrev pub calls_of : List Scheduled → List Invocation
calls_of ss = map (λ (s : Scheduled). s.call) ss

-- a call of a script and how it ended, as an entry of a text without begins
abbrev pub entry : Scheduled → Ended → Entry
entry s e = record {
  thread = s.thread;
  step = s.step;
  begun = 0;
  section = s.call.section;
  arguments = s.call.arguments;
  outcome = e.outcome;
  prints = e.prints;
}

-- calls and how they ended, as entries
abbrev pub entries : List Scheduled → List Ended → List Entry
entries [] es = []
entries (s ∷ ss) [] = []
entries (s ∷ ss) (e ∷ es) = entry s e ∷ entries ss es

-- the history text of calls, with all cells, or with the changed ones where `changed` is true
abbrev pub serial_text : Bool → Typed → List Entry → List Value → List ℕ
serial_text changed program entries values =
    if changed then changed_history_of program entries values else history_of One program entries values

-- the turns settle all calls: out is the history text of their serial meaning; err is empty
pub record IsHistory (turns : ℕ) (changed : Bool) (program : Typed) (status : Status) (out err : List ℕ) : Type 0 where
  pub settled : (serial_run program turns).unsettled ≡ []
  pub serial : SerialFromOpening program (calls_of (all_calls program)) (serial_run program turns).ends (serial_run program turns).heap
  pub ended : status ≡ Done
  pub written : out ≡ serial_text changed program (entries (all_calls program) (serial_run program turns).ends) (serial_run program turns).heap
  pub told : err ≡ []

-- the turns settle the calls before `this`, and `this` meets a loop that goes on after them: out is the text of the
-- serial meaning of the calls before it, and names this call; err is empty
pub record StopsAtCall (turns : ℕ) (program : Typed) (status : Status) (out err : List ℕ) : Type 0 where
  pub before : List Scheduled
  pub this : Scheduled
  pub after : List Scheduled
  pub parts : all_calls program ≡ before ++ this ∷ after
  pub unsettled : (serial_run program turns).unsettled ≡ calls_of (this ∷ after)
  pub serial : SerialFromOpening program (calls_of before) (serial_run program turns).ends (serial_run program turns).heap
  pub beyond : run_call program turns this.call (serial_run program turns).heap ≡ Beyond_turns
  pub ended : status ≡ Unsettled
  pub written : out ≡ unsettled_of program (entries before (serial_run program turns).ends) this.thread this.step
  pub told : err ≡ []

-- the answers of `serial` for a program
pub data IsRun (turns : ℕ) (changed : Bool) (program : Typed) (status : Status) (out err : List ℕ) : Type 0 where
  all_settled : IsHistory turns changed program status out err → IsRun turns changed program status out err
  stopped : StopsAtCall turns program status out err → IsRun turns changed program status out err
