use Rattle.std.proofs.Common.{◌∙◌, List, map, ap}
use Rattle.report.specs.{entry_of, unsettled_of}
use Rattle.report.specs.Entry.{Entry}
use Rattle.rope.specs.Working.Ropes.{rope_text}
use Rattle.driver.specs.Serial.{stopped}
use Rattle.driver.proofs.SerialLemmas.{stop_told}
use Rattle.driver.proofs.answer.ran.Goals as goal

pub returns : goal.returns
returns c =
    let ran = c.in_ok-ran.ensures.ran in
    let texts = λ (es : List Entry). unsettled_of c.args.program.now es c.in-Some.thread c.in-Some.step in
    stopped
    (stop_told c.settled_are_serial.ensures c.args.turns c.args.program.now c.in-Some.thread c.in-Some.step _ _ _ c.written.ensures.ended (rw c.in-Some.is at ran.stop)
    (c.written.ensures.written ∙ ap rope_text c.of-in-Some.ensures ∙ c.in_ok-out-in-Some.ensures ∙ ap texts (ap (map entry_of) c.deref-in-Some.ensures.value ∙ ran.records)) c.written.ensures.told)
