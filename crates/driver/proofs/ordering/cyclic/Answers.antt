use Rattle.std.proofs.Common.{ap, refl, ◌∙◌}
use Rattle.rope.specs.Working.Ropes.{rope_text}
use Rattle.report_check.specs.Order.{cyclic_order_text}
use Rattle.lowering.specs.Working.Compiled.{program_of}
use Rattle.driver.specs.OrderGraphs as graphs
use Rattle.driver.proofs.ordering.cyclic.Goals as goal

pub returns : goal.returns
returns c = graphs.cyclic (record {
  fault = c.args.found.now.fault;
  given = c.requires.first;
  accepted = c.args.found.now.trees.accepted;
  program = program_of c.args.found.now.trees;
  meant = c.requires.program;
  edges = c.args.found.now.edges.items;
  cycle = c.requires.cycle;
  of_cycle = c.requires.told;
  pairs = c.in_ok-pairs.pairs.items;
  are = rw c.program-program.ensures at c.in_ok-pairs.ensures;
  ended = refl;
  written = ap rope_text c.of.ensures ∙ c.in_ok-text.ensures
      ∙ ap (λ p. cyclic_order_text c.args.source.now.text.now p c.deref.result.now c.deref-2.result.now) c.program-program.ensures
      ∙ ap (λ ps. cyclic_order_text c.args.source.now.text.now (program_of c.args.found.now.trees) ps c.deref-2.result.now) c.deref.ensures.value
      ∙ ap (λ es. cyclic_order_text c.args.source.now.text.now (program_of c.args.found.now.trees) c.in_ok-pairs.pairs.items es) c.deref-2.ensures.value;
  told = c.in_ok-err.ensures;
})
