use Rattle.std.proofs.Common.{◌≡◌, ◌++◌, string_bytes, drop, map}
use Rattle.report.specs.Entry.{scheduled_called}
use Rattle.report_runs.specs.Outcomes.{answer_texts}
use Rattle.report_runs.proofs.ends.Ends.push_answers.Given as goal

-- the written text and that of the remaining items are the whole text
abbrev pub invariant-loop-number : goal.invariant-loop-number
invariant-loop-number l =
    string_bytes l.out ++ answer_texts l.self.program.now l.known l.answers l.number (map scheduled_called (drop l.number l.calls))
    ≡ string_bytes l.initial.out ++ answer_texts l.self.program.now l.known l.answers 0 (map scheduled_called l.calls)
