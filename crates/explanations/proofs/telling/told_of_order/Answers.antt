use Rattle.lowering.specs.Working.Compiled.{program_of}
use Rattle.explanations.specs.Told.{faultless}
use Rattle.explanations.proofs.telling.told_of_order.Goals as goal

pub returns : goal.returns
returns c = faultless (record {
  program = c.args.ordered.now.trees.accepted;
  accepts = c.requires.accepts;
  written_out = program_of c.args.ordered.now.trees;
  expanded = c.requires.expanded;
  ranks = c.args.ordered.now.ranks.items;
  are_ranks = c.requires.ranks;
  tell = rw (c.program.ensures, c.deref.ensures.value) at c.in_ok-notes.ensures;
  warned = rw c.program-2.ensures at c.in_ok-warnings.ensures;
})
