use Rattle.std.proofs.lemmas.Result.{IfOk-weaker}
use Rattle.driver.specs.Answers.{accepted}
use Rattle.driver.proofs.answer.beside_answer.Goals as goal

pub returns-in-Simulate : goal.returns-in-Simulate
returns-in-Simulate c =
    let is = rw c.in-Ok.is at c.in_ok-program.ensures in
    rw c.in-Simulate.is (IfOk-weaker c.simulated.result _ _ (λ answer answers. accepted c.in-Ok.program is.0 is.1 answers) c.simulated.ensures)

pub returns-in-Trace : goal.returns-in-Trace
returns-in-Trace c =
    let is = rw c.in-Ok.is at c.in_ok-program.ensures in
    rw c.in-Trace.is (IfOk-weaker c.traced.result _ _ (λ answer answers. accepted c.in-Ok.program is.0 is.1 answers) c.traced.ensures)

pub returns : goal.returns
returns c =
    let is = rw c.in-Ok.is at c.in_ok-program.ensures in
    rw c.in-Replay.is (IfOk-weaker c.replayed.result _ _ (λ answer answers. accepted c.in-Ok.program is.0 is.1 answers) c.replayed.ensures)
