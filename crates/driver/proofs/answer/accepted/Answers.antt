use Rattle.std.proofs.Common.{ap, ◌∙◌}
use Rattle.code.specs.Listing.{line}
use Rattle.driver.proofs.answer.accepted.Goals as goal

pub returns-in_ok-refused-in-Err-Fault : goal.returns-in_ok-refused-in-Err-Fault
returns-in_ok-refused-in-Err-Fault c =
    let is = c.in_ok-refused-in-Err-Fault.ensures in
    record {
      fault = c.in-Err-Fault.fault;
      given = rw c.in-Err-Fault.field-0-is at c.in-Err-Fault.ensures.fault;
      ended = is.0;
      written = is.1;
      told = is.2 ∙ ap line c.in_ok-line-in-Err-Fault.ensures;
    }
