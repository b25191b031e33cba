use Rattle.std.proofs.Common.{ap, ◌∙◌}
use Rattle.std.proofs.lemmas.Result.{IfOk-weaker}
use Rattle.code.specs.Listing.{line}
use Rattle.rope.specs.Working.Ropes.{rope_text}
use Rattle.driver.specs.Formats.{laid_out, unformatted}
use Rattle.driver.proofs.formats.format_answer.Goals as goal

pub returns-in-Ok : goal.returns-in-Ok
returns-in-Ok c = laid_out (record {
  program = c.in-Ok.ensures.program;
  ended = c.done.ensures.ended;
  written = rw (c.done.ensures.written ∙ ap rope_text c.of_bytes.ensures) c.in-Ok.ensures.found;
  told = c.done.ensures.told;
})

pub returns-in_ok-line-in-Err-Fault : goal.returns-in_ok-line-in-Err-Fault
returns-in_ok-line-in-Err-Fault c =
    let given = rw c.in-Err-Fault.field-0-is at c.in-Err-Fault.ensures.fault in
    IfOk-weaker c.refused.result _ _
    (λ answer is. unformatted (record {
      fault = c.in-Err-Fault.fault;
      given = given.0;
      bare = given.1;
      ended = is.0;
      written = is.1;
      told = is.2 ∙ ap line c.in_ok-line-in-Err-Fault.ensures;
    }))
    c.refused.ensures
