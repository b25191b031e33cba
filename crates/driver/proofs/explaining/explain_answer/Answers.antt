use Rattle.std.proofs.lemmas.Result.{IfOk-weaker}
use Rattle.driver.specs.Explanations.{explained, faultless}
use Rattle.driver.proofs.explaining.explain_answer.Goals as goal

pub returns-in-Faulty : goal.returns-in-Faulty
returns-in-Faulty c =
    let told = rw c.in-Faulty.is at c.in_ok-fault.ensures in
    IfOk-weaker c.explained.result _ _
    (λ answer is. explained (record {
      fault = c.in-Faulty.fault;
      notes = _;
      further = _;
      tell = rw (← c.deref.ensures.value) at told;
      ended = is.0;
      written = is.1;
      told = is.2;
    }))
    c.explained.ensures

pub returns-in-Accepted : goal.returns-in-Accepted
returns-in-Accepted c =
    let told = rw c.in-Accepted.is at c.in_ok-fault.ensures in
    IfOk-weaker c.accepted.result _ _
    (λ answer is. faultless (record {
      notes = _;
      warnings = _;
      tell = rw (← c.deref-in-Accepted.ensures.value, ← c.deref-in-Accepted-2.ensures.value) at told;
      ended = is.0;
      written = is.1;
      told = is.2;
    }))
    c.accepted.ensures
