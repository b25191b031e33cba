-- No text is answered with some statuses.
use Rattle.std.proofs.Common.{◌≡◌, ℕ, List, Option, Some, None}
use Rattle.driver_words.specs.declared.line.Beside.{Beside}
use Rattle.driver_words.specs.declared.line.Beside.TheVariants.{Simulate, Trace, Replay}
use Rattle.driver_words.specs.declared.line.Alone.{Alone}
use Rattle.driver_words.specs.declared.line.Alone.TheVariants.{Report as of_report, Order, Explain, Format, Run}
use Rattle.driver_words.specs.declared.line.Report.{Report}
use Rattle.driver_words.specs.declared.line.Report.TheVariants.{Check, Listing, Serial, Outcomes, Schedule, Emit}
use Rattle.lowering.specs.Plans.{Plan}
use Rattle.outcomes.specs.Ends.{Told}
use Rattle.driver.specs.declared.status.Status.{Status}
use Rattle.driver.specs.declared.status.Status.TheVariants.{Done}
use Rattle.driver.specs.Answers.{accepted, refused}
use Rattle.driver.specs.Explanations.{faultless, explained}
use Rattle.driver.specs.Formats.{laid_out, unformatted}
use Rattle.driver.specs.OrderGraphs as graphs
use Rattle.driver.specs.Outcomes as outcomes
use Rattle.driver.specs.Outcomes.{breach_of, ended_by}
use Rattle.driver.specs.Requests.{IsReport, IsReportBeside, AloneAnswers, BesideAnswers}
use Rattle.driver.specs.Serial.{all_settled, stopped}
use Rattle.driver.specs.Replays.{verdict_status, judged, bad_history}
use Rattle.driver.specs.Simulations.{ran, bad_steps}
use Rattle.driver.specs.Traces as traces
use Rattle.driver.specs.ThreadRuns.{IsWritten, written, was_strange}
use Rattle.replay.specs.declared.verdict.Verdict.{Verdict}
use Rattle.replay.specs.declared.verdict.Verdict.TheVariants.{Same, Differs, Unsettled}
use Rattle.driver.proofs.ServingLemmas as serving
use Rattle.driver.proofs.ServingLemmas.{IsAnswered}

of_breach : {status : Status} (breach : Option Told) → status ≡ ended_by breach → IsAnswered status
of_breach None is = serving.done is
of_breach (Some breach) is = serving.unexpected is

of_program : (report : Report) (text : List ℕ) (plan : Plan) (status : Status) (out err : List ℕ) →
    IsReport report text plan status out err → IsAnswered status
of_program (Check source) text plan status out err is = serving.done is.ended
of_program (Listing places) text plan status out err is = serving.done is.ended
of_program (Serial turns changed) text plan status out err (all_settled is) = serving.done is.ended
of_program (Serial turns changed) text plan status out err (stopped is) = serving.unsettled is.ended
of_program (Outcomes looking) text plan status out err (outcomes.all_told is) = of_breach (breach_of is.expected is.asked is.ends) is.ended
of_program (Outcomes looking) text plan status out err (outcomes.reduced_told is) = of_breach (breach_of is.expected is.asked is.ends) is.ended
of_program (Outcomes looking) text plan status out err (outcomes.drawn_told is) = of_breach (breach_of is.expected is.asked is.ends) is.ended
of_program (Outcomes looking) text plan status out err (outcomes.meaningless is) = serving.bad_input is.ended
of_program (Outcomes looking) text plan status out err (outcomes.numberless is) = serving.bad_input is.ended
of_program (Outcomes looking) text plan status out err (outcomes.unknown_named is) = serving.bad_input is.ended
of_program (Outcomes looking) text plan status out err (outcomes.stopped is) = serving.unsettled is.ended
of_program (Schedule scheduling) text plan status out err is = serving.done is.ended
of_program (Emit emission) text plan status out err is = serving.done is.ended

of_runs : (times : Option ℕ) (plan : Plan) (status : Status) (out err : List ℕ) → IsWritten times plan status out err → status ≡ Done
of_runs None plan status out err is = is.ended
of_runs (Some times) plan status out err is = is.ended

pub alone_is_answered : (request : Alone) (file text : List ℕ) (status : Status) (out err : List ℕ) →
    AloneAnswers request file text status out err → IsAnswered status
alone_is_answered (of_report report) file text status out err (accepted plan accepts compiled is) =
    of_program report text plan status out err is
alone_is_answered (of_report report) file text status out err (refused is) = serving.refused is.ended
alone_is_answered Order file text status out err (graphs.ordered is) = serving.done is.ended
alone_is_answered Order file text status out err (graphs.cyclic is) = serving.refused is.ended
alone_is_answered Order file text status out err (graphs.refused is bare) = serving.refused is.ended
alone_is_answered (Explain json color) file text status out err (faultless is) = serving.done is.ended
alone_is_answered (Explain json color) file text status out err (explained is) = serving.refused is.ended
alone_is_answered Format file text status out err (laid_out is) = serving.done is.ended
alone_is_answered Format file text status out err (unformatted is) = serving.refused is.ended
alone_is_answered (Run running) file text status out err (accepted plan accepts compiled (written is)) =
    serving.done (of_runs running.times plan status out err is)
alone_is_answered (Run running) file text status out err (accepted plan accepts compiled (was_strange is)) = serving.strange is.ended
alone_is_answered (Run running) file text status out err (refused is) = serving.refused is.ended

of_verdict : {status : Status} (verdict : Verdict) → status ≡ verdict_status verdict → IsAnswered status
of_verdict Same is = serving.done is
of_verdict (Differs n) is = serving.differs is
of_verdict (Unsettled n) is = serving.unsettled is

of_pair : (request : Beside) (text other_file other : List ℕ) (plan : Plan) (status : Status) (out err : List ℕ) →
    IsReportBeside request text other_file other plan status out err → IsAnswered status
of_pair Simulate text other_file other plan status out err (ran is) = serving.done is.ended
of_pair Simulate text other_file other plan status out err (bad_steps is) = serving.bad_input is.ended
of_pair (Trace sections all) text other_file other plan status out err (traces.traced is) = serving.done is.ended
of_pair (Trace sections all) text other_file other plan status out err (traces.bad_steps is) = serving.bad_input is.ended
of_pair (Replay judging) text other_file other plan status out err (judged is) = of_verdict is.verdict is.ended
of_pair (Replay judging) text other_file other plan status out err (bad_history is) = serving.bad_input is.ended

pub beside_is_answered : (request : Beside) (file other_file text other : List ℕ) (status : Status) (out err : List ℕ) →
    BesideAnswers request file other_file text other status out err → IsAnswered status
beside_is_answered request file other_file text other status out err (accepted plan accepts compiled is) =
    of_pair request text other_file other plan status out err is
beside_is_answered request file other_file text other status out err (refused is) = serving.refused is.ended
