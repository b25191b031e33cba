-- The answer to each request.
use Rattle.std.specs.Prelude.{ℕ, List, not}
use Rattle.driver_words.specs.declared.line.Alone.{Alone}
use Rattle.driver_words.specs.declared.line.Alone.TheVariants as alone
use Rattle.driver_words.specs.declared.line.Beside.{Beside}
use Rattle.driver_words.specs.declared.line.Beside.TheVariants.{Simulate, Trace, Replay}
use Rattle.driver_words.specs.declared.line.Report.{Report}
use Rattle.driver_words.specs.declared.line.Report.TheVariants.{Check, Listing, Serial, Outcomes, Schedule, Emit}
use Rattle.lowering.specs.Plans.{Plan}
use Rattle.driver.specs.declared.status.Status.{Status}
use Rattle.driver.specs.Answers.{TextAnswers}
use Rattle.driver.specs.Checks.{IsCheckReport}
use Rattle.driver.specs.Emissions.{IsEmitted}
use Rattle.driver.specs.Explanations.{ExplainAnswers}
use Rattle.driver.specs.Formats.{FormatAnswers}
use Rattle.driver.specs.Listings.{IsListed}
use Rattle.driver.specs.OrderGraphs.{OrderAnswers}
use Rattle.driver.specs.Outcomes.{IsLookedAt}
use Rattle.driver.specs.Replays.{IsReplayed}
use Rattle.driver.specs.Schedules.{IsScheduled}
use Rattle.driver.specs.Serial.{IsRun}
use Rattle.driver.specs.Simulations.{IsSimulated}
use Rattle.driver.specs.ThreadRuns.{IsThreadsRun}
use Rattle.driver.specs.Traces.{IsTraceAnswer}

-- the answer to a report on an accepted program with this text
abbrev pub IsReport : Report → List ℕ → Plan → Status → List ℕ → List ℕ → Type 0
IsReport (Check source) text plan = IsCheckReport source text plan
IsReport (Listing places) text plan = IsListed places text plan
IsReport (Serial turns changed) text plan = IsRun turns changed plan.accepted
IsReport (Outcomes looking) text plan = IsLookedAt looking plan.accepted
IsReport (Schedule scheduling) text plan = IsScheduled scheduling plan
IsReport (Emit emission) text plan = IsEmitted emission text plan

-- the answer to a request that reads another file too, which has this name and text
abbrev pub IsReportBeside : Beside → List ℕ → List ℕ → List ℕ → Plan → Status → List ℕ → List ℕ → Type 0
IsReportBeside Simulate text other_file other = IsSimulated other_file other
IsReportBeside (Trace sections all) text other_file other = IsTraceAnswer (not sections) all other_file text other
IsReportBeside (Replay judging) text other_file other = IsReplayed judging other_file other

-- the answer to a request for a program's file with this name and text
abbrev pub AloneAnswers : Alone → List ℕ → List ℕ → Status → List ℕ → List ℕ → Type 0
AloneAnswers (alone.Report report) file text = TextAnswers (IsReport report text) file text
AloneAnswers alone.Order file text = OrderAnswers file text
AloneAnswers (alone.Explain json color) file text = ExplainAnswers json color file text
AloneAnswers alone.Format file text = FormatAnswers file text
AloneAnswers (alone.Run running) file text = TextAnswers (IsThreadsRun running.times) file text

-- the answer to a request for a program's file and another file with these names and texts
abbrev pub BesideAnswers : Beside → List ℕ → List ℕ → List ℕ → List ℕ → Status → List ℕ → List ℕ → Type 0
BesideAnswers request file other_file text other = TextAnswers (IsReportBeside request text other_file other) file text
