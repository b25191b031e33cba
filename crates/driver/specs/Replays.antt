-- The answers of `replay`.
use Rattle.std.specs.Prelude.{◌≡◌, ℕ, ◌-◌, Bool, List, [], ◌++◌, slice_get, codes, string_bytes, Option, Some, None}
use Rattle.std.specs.Prelude.{Ok, Err, if◌then◌else◌}
use Rattle.std.specs.Fmt.{decimal}
use Rattle.std.specs.List.{flat_map}
use Rattle.std.specs.Option.{option_map_or}
use Rattle.std.specs.Str.Lossy.{utf8_lossy}
use Rattle.code.specs.Listing.{line}
use Rattle.lowering.specs.Plans.{Plan}
use Rattle.input_files.specs.declared.format.Format.{Format}
use Rattle.input_files.specs.declared.format.Format.TheVariants.{One, Two}
use Rattle.input_files.specs.declared.history_refusal.HistoryFault.{HistoryFault}
use Rattle.input_files.specs.Histories.{history_in}
use Rattle.input_files.specs.Refusals.{history_fault_text}
use Rattle.replay.specs.declared.callers.Callers.{Callers}
use Rattle.replay.specs.declared.callers.Callers.TheVariants.{Scripts, Anyone}
use Rattle.replay.specs.declared.verdict.Verdict.{Verdict}
use Rattle.replay.specs.declared.verdict.Verdict.TheVariants as verdict
use Rattle.replay.specs.declared.wanted.Lack.{Lack}
use Rattle.replay.specs.declared.wanted.Lack.TheVariants as lack
use Rattle.replay.specs.declared.wanted.Wanted.{Wanted}
use Rattle.replay.specs.declared.wanted.Wanted.TheVariants as wanted
use Rattle.replay.specs.Verdicts.{Holds}
use Rattle.replay.specs.Wanted.{Explains}
use Rattle.driver_words.specs.declared.line.ReplayOptions.{ReplayOptions}
use Rattle.driver.specs.declared.status.Status.{Status}
use Rattle.driver.specs.declared.status.Status.TheVariants.{Done, Differs, BadInput, Unsettled}

-- the callers: the scripts, or, with --open, anyone
abbrev pub callers_of : Bool → Callers
callers_of anyone = if anyone then Anyone else Scripts

-- the text of a verdict
abbrev pub verdict_text : Verdict → List ℕ
verdict_text verdict.Same = codes "same"
verdict_text (verdict.Differs number) = codes "differs at line " ++ decimal number
verdict_text (verdict.Unsettled number) = codes "unsettled at line " ++ decimal number

-- the exit status of a verdict
abbrev pub verdict_status : Verdict → Status
verdict_status verdict.Same = Done
verdict_status (verdict.Differs number) = Differs
verdict_status (verdict.Unsettled number) = Unsettled

-- the line of a call that may come, given up to its end
abbrev pub call_wanted : List ℕ → List ℕ
call_wanted head = line (codes "expected: " ++ head ++ codes "..")

-- the line of words that say what may come
abbrev pub wanted_line : List ℕ → List ℕ
wanted_line words = line (codes "expected: " ++ words)

-- the form of a call's line
abbrev pub form_text : Format → List ℕ
form_text One = codes "call T K NAME(ARGUMENTS) .."
form_text Two = codes "call T K B NAME(ARGUMENTS) .."

-- the range of the begins that a call may have
abbrev pub begins_text : ℕ → ℕ → List ℕ
begins_text least most = (codes "expected: B from " ++ decimal least) ++ line (codes " to " ++ decimal most)

-- what a line lacks to be the line of a call, where anyone may call
abbrev pub lack_text : Lack → List ℕ
lack_text (lack.Form format) = wanted_line (form_text format) ++ wanted_line (codes "cells")
lack_text lack.Thread = wanted_line (codes "T from 0 to 4294967295")
lack_text (lack.Number number) = wanted_line (codes "K " ++ decimal number)
lack_text (lack.Begin least most) = begins_text least most
lack_text lack.Section = wanted_line (codes "a section of the program")
lack_text lack.Arguments = wanted_line (codes "arguments that fit the section")

-- what may come at a line: that line, the line of each call that may come up to its end, or what the line lacks
abbrev pub wanted_text : Wanted → List ℕ
wanted_text (wanted.Line text) = wanted_line (string_bytes text)
wanted_text (wanted.Calls heads) = flat_map (λ head. call_wanted (string_bytes head)) heads.items
wanted_text (wanted.Open missing) = lack_text missing
wanted_text wanted.Nothing = wanted_line (codes "no line")

-- the line of a file with the given number, where `lines` are the lines after the first; bytes that are not UTF-8 are
-- replaced
abbrev pub found_text : List (List ℕ) → ℕ → List ℕ
found_text lines number = line (codes "found: " ++ option_map_or utf8_lossy (slice_get lines (number - 2)) (codes "no line"))

-- why a history differs
abbrev pub why_text : Verdict → Option Wanted → List (List ℕ) → List ℕ
why_text (verdict.Differs number) (Some wanted) lines = wanted_text wanted ++ found_text lines number
why_text (verdict.Differs number) None lines = []
why_text verdict.Same wanted lines = []
why_text (verdict.Unsettled number) wanted lines = []

-- the text of a verdict on these lines, and the reason where it is asked for
abbrev pub judgement_text : Bool → Verdict → Option Wanted → List (List ℕ) → List ℕ
judgement_text why verdict wanted lines = line (verdict_text verdict) ++ (if why then why_text verdict wanted lines else [])

-- the text is a history: out is the verdict that holds of it, and the reason where it is asked for; err is empty
pub record IsJudged (judging : ReplayOptions) (text : List ℕ) (plan : Plan) (status : Status) (out err : List ℕ) : Type 0 where
  pub format : Format
  pub lines : List (List ℕ)
  pub said : history_in text ≡ Ok (format, lines)
  pub verdict : Verdict
  pub holds : Holds judging.turns (callers_of judging.open) format plan.accepted lines verdict
  pub wanted : Option Wanted
  pub explains : Explains judging.turns (callers_of judging.open) format plan.accepted lines verdict wanted
  pub ended : status ≡ verdict_status verdict
  pub written : out ≡ judgement_text judging.why verdict wanted lines
  pub told : err ≡ []

-- the text is not a history: out is empty, err is the line of its first fault
pub record HasBadHistory (history_file text : List ℕ) (status : Status) (out err : List ℕ) : Type 0 where
  pub fault : HistoryFault
  pub said : history_in text ≡ Err fault
  pub ended : status ≡ BadInput
  pub written : out ≡ []
  pub told : err ≡ line (history_fault_text history_file fault)

-- the answers of `replay` for a program and a history file's text
pub data IsReplayed (judging : ReplayOptions) (history_file text : List ℕ) (plan : Plan) (status : Status) (out err : List ℕ) : Type 0 where
  judged : IsJudged judging text plan status out err → IsReplayed judging history_file text plan status out err
  bad_history : HasBadHistory history_file text status out err →
      IsReplayed judging history_file text plan status out err
