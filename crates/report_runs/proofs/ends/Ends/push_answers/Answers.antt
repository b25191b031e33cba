use Rattle.std.proofs.Common.{◌≡◌, ◌∙◌, ◌<◌, ◌+◌, [], ◌∷◌, ◌++◌, List, length, map, drop, get_or, add-one, drop-cons, ap, sym, arith, string_bytes}
use Rattle.report.specs.declared.record.CallRef.{CallRef}
use Rattle.report.specs.Entry.{scheduled_called}
use Rattle.report_runs.specs.Outcomes.{answer_texts}
use Rattle.report_runs.proofs.OrderSteps.{piece_more}
use Rattle.report_runs.proofs.ends.Ends.push_answers.Goals as goal

pub loop-number-preserved : goal.loop-number-preserved
loop-number-preserved c =
    let calls = c.args.calls.now in
    let number = c.loop-number.number in
    let none : CallRef = record { thread = 0; step = 0; begun = 0; section = 0; arguments = record { ref_ptr = (0, 0); now = [] } } in
    let within : number < length calls = omega (arith, c.loop-number-test.true) in
    let next : drop number calls ≡ get_or calls number none ∷ drop (number + 1) calls =
    rw add-one (drop-cons calls number none within) in
    piece_more _ _ _ _ _ (rw (c.answer_in-answer.ensures, c.answer_in.ensures) at c.in_ok-push_unknown_answer.ensures)
    (ap (λ (cs : List CallRef). string_bytes c.loop-number.out ++ answer_texts c.args.self.now.program.now c.args.known.now c.args.answers.now number (map scheduled_called cs)) (sym next)
    ∙ c.loop-number.invariant)
