use Rattle.std.proofs.Common.{ap, ◌∙◌}
use Rattle.rope.specs.Working.Ropes.{rope_text}
use Rattle.driver.proofs.explaining.accepted.Goals as goal

pub returns : goal.returns
returns c = (c.done.ensures.ended, c.done.ensures.written ∙ ap rope_text c.of.ensures ∙ c.in_ok-out.ensures, c.done.ensures.told)
