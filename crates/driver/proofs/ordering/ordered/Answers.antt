use Rattle.std.proofs.Common.{ap, ◌∙◌}
use Rattle.rope.specs.Working.Ropes.{rope_text}
use Rattle.report_check.specs.Order.{order_text}
use Rattle.lowering.specs.Working.Compiled.{program_of}
use Rattle.driver.specs.OrderGraphs as graphs
use Rattle.driver.proofs.ordering.ordered.Goals as goal

pub returns : goal.returns
returns c = graphs.ordered (record {
  program = c.args.found.now.trees.accepted;
  accepts = c.requires.accepts;
  written_out = program_of c.args.found.now.trees;
  expanded = c.requires.expanded;
  ranks = c.args.found.now.ranks.items;
  are_ranks = c.requires.ranks;
  pairs = c.in_ok-pairs.pairs.items;
  are = rw c.program-program.ensures at c.in_ok-pairs.ensures;
  ended = c.done.ensures.ended;
  written = c.done.ensures.written ∙ ap rope_text c.of.ensures ∙ c.in_ok-text.ensures
      ∙ ap (λ p. order_text c.args.source.now.text.now p c.deref.result.now c.deref-2.result.now) c.program-program.ensures
      ∙ ap (λ rs. order_text c.args.source.now.text.now (program_of c.args.found.now.trees) rs c.deref-2.result.now) c.deref.ensures.value
      ∙ ap (λ ps. order_text c.args.source.now.text.now (program_of c.args.found.now.trees) c.args.found.now.ranks.items ps) c.deref-2.ensures.value;
  told = c.done.ensures.told;
})
