use Rattle.std.specs.Prelude.{codes}
use Rattle.driver.specs.Replays.{form_text, wanted_line}
use Rattle.driver.proofs.AddedTexts.{both_added}
use Rattle.driver.proofs.why.push_open.Goals as goal

pub returns : goal.returns
returns c =
    both_added c.push_words.result (wanted_line (form_text c.args.format)) (wanted_line (codes "cells")) c.args.out.now c.push_form.new.out c.push_words.new.out c.in_ok-push_form.ensures c.push_words.ensures
