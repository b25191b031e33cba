use Rattle.std.proofs.lemmas.Result.{IfOk-weaker}
use Rattle.driver.specs.Answers.{accepted}
use Rattle.driver.proofs.answer.threads_answer.Goals as goal

pub returns-in-Ok : goal.returns-in-Ok
returns-in-Ok g c =
    let is = rw c.in-Ok.is at c.in_ok-program.ensures in
    IfOk-weaker c.answer.result _ _ (λ answer answers. accepted c.in-Ok.program is.0 is.1 answers) c.answer.ensures
