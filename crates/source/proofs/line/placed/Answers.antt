-- The pieces of the format literal, grouped to the left.
use Rattle.std.proofs.Common.{rules, append_assoc}
use Rattle.source.specs.Faults.{placed_text}
use Rattle.source.proofs.line.placed.Goals as goal

pub returns : goal.returns
unfolding placed_text
returns c = search (rules, append_assoc)
