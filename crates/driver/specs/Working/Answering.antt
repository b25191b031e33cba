-- What this crate's functions compute of an answer. It mirrors the code: nobody has to believe it.
use Rattle.std.specs.Prelude.{◌≡◌, ℕ, Bool, List, [], ◌++◌, map, string_bytes, Option, Result, Ok, Err}
use Rattle.code.specs.Listing.{line}
use Rattle.compiler.specs.Programs.{Accepts}
use Rattle.core_lang.specs.declared.typed.Typed.{Typed}
use Rattle.lowering.specs.Plans.{Plan, IsCompiled}
use Rattle.outcomes.specs.declared.outcome.Asked.{Asked}
use Rattle.outcomes.specs.Ends.{Told}
use Rattle.report_runs.specs.declared.ends.Scope.{Scope}
use Rattle.report_runs.specs.Outcomes.{outcomes_text}
use Rattle.source.specs.declared.fault.Fault.{Fault}
use Rattle.explanation.specs.declared.explanation.Acceptance.{Acceptance}
use Rattle.explanation.specs.declared.explanation.Explanation.{Explanation}
use Rattle.explanation.specs.Further.{further_of}
use Rattle.explanation.specs.Notes.{note_of}
use Rattle.explanation.specs.Warnings.{warning_of}
use Rattle.source.specs.Faults.{fault_text}
use Rattle.input_files.specs.declared.steps_refusal.StepsFault.{StepsFault}
use Rattle.input_files.specs.Steps.{steps_fault_text}
use Rattle.rope.specs.Working.Ropes.{rope_text}
use Rattle.driver_words.specs.declared.line.Color.{Color}
use Rattle.driver.specs.declared.answer.Answer.{Answer}
use Rattle.driver.specs.declared.status.Status.{Status}
use Rattle.driver.specs.declared.status.Status.TheVariants.{Done, Refused, BadInput}
use Rattle.driver.specs.Answers.{IsRefused}
use Rattle.driver.specs.Checks.{IsCheckReport}
use Rattle.driver.specs.Explanations.{acceptance_told, fault_told}
use Rattle.driver.specs.Listings.{IsListed}
use Rattle.driver.specs.declared.exploring.Expected as exploring
use Rattle.driver.specs.Outcomes.{IsLookedAt, Expected, breach_of, judged, ended_by}
use Rattle.report_runs.specs.ExpectationTexts.{said_of}
use Rattle.driver.specs.Replays.{IsReplayed, verdict_status, judgement_text}
use Rattle.driver.specs.Serial.{IsRun}
use Rattle.driver.specs.Simulations.{IsSimulated}
use Rattle.driver.specs.ThreadRuns.{IsStrange}
use Rattle.driver.specs.Traces.{IsTraceAnswer}
use Rattle.input_files.specs.declared.history_refusal.HistoryFault.{HistoryFault}
use Rattle.input_files.specs.Refusals.{history_fault_text}
use Rattle.replay.specs.declared.verdict.Judgement.{Judgement}

-- the answer's status and outputs are what is wanted of them
abbrev pub Meets : (Status → List ℕ → List ℕ → Type 0) → Answer → Type 0
Meets Wanted answer = Wanted answer.status (rope_text answer.out) (string_bytes answer.err)

-- an answer that writes nothing and reports this message
abbrev pub IsMessage : Status → List ℕ → Answer → Type 0
IsMessage status message answer =
    (answer.status ≡ status) × (rope_text answer.out ≡ []) × (string_bytes answer.err ≡ message)

-- what `explain` writes of a fault, by the values of the code
abbrev pub fault_told_of : Bool → Color → Explanation → List ℕ
fault_told_of json color x =
    fault_told json color x.file.now x.text.now x.fault.now (map note_of x.notes.now) (further_of x.further.now)

abbrev pub acceptance_told_of : Bool → Color → Acceptance → List ℕ
acceptance_told_of json color x =
    acceptance_told json color x.file.now x.text.now (map note_of x.notes.now) (map warning_of x.warnings.now)

-- the answer of `explain` for a text with a fault
abbrev pub IsExplainedAnswer : Bool → Color → Explanation → Answer → Type 0
IsExplainedAnswer json color explanation answer =
    (answer.status ≡ Refused) × (rope_text answer.out ≡ fault_told_of json color explanation) × (string_bytes answer.err ≡ [])

-- the answer of `explain` for an accepted text
abbrev pub IsAcceptedAnswer : Bool → Color → Acceptance → Answer → Type 0
IsAcceptedAnswer json color acceptance answer =
    (answer.status ≡ Done) × (rope_text answer.out ≡ acceptance_told_of json color acceptance) × (string_bytes answer.err ≡ [])

-- the answer of `replay` for a judgement on these lines
abbrev pub IsJudgementAnswer : Bool → Judgement → List (List ℕ) → Answer → Type 0
IsJudgementAnswer why judgement lines answer =
    (answer.status ≡ verdict_status judgement.verdict)
    × (rope_text answer.out ≡ judgement_text why judgement.verdict judgement.wanted lines) × (string_bytes answer.err ≡ [])

-- the expectation that a value of the code stands for
abbrev pub expected_of : exploring.Expected → Expected
expected_of e = record { text = e.text.now; said = said_of e.expectation; comparison = e.comparison }

-- the answer of `outcomes` for these ends, with the expectation of them
abbrev pub IsToldAnswer : Typed → Asked → Bool → Scope → List Told → Option Expected → Answer → Type 0
IsToldAnswer program asked full scope ends expected answer =
    (answer.status ≡ ended_by (breach_of expected asked ends))
    × (rope_text answer.out ≡ outcomes_text program asked full scope ends ++ judged program expected asked scope ends)
    × (string_bytes answer.err ≡ [])

-- a text was accepted, or this is the answer to its fault
abbrev pub IsAccepted : List ℕ → List ℕ → Result Plan Answer → Type 0
IsAccepted file text (Ok plan) = Accepts text plan.accepted × IsCompiled plan
IsAccepted file text (Err answer) = Meets (IsRefused file text) answer
