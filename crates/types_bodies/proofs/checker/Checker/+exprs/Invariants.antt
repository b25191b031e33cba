use Rattle.std.proofs.Common.{◌≡◌, drop}
use Rattle.std.specs.Prelude.{option_map}
use Rattle.syntax.specs.Views.{links_of}
use Rattle.syntax.specs.declared.tree.Level.TheVariants.{Sum, Conjunction}
use Rattle.resolution.specs.CoreViews.{core_condition}
use Rattle.resolution.specs.Working.TypedExpressions.{typed_links, typed_tests}
use Rattle.resolution.specs.Working.Findings.{found_in}
use Rattle.resolution.specs.Working.FaultLists.{link_faults}
use Rattle.types_bodies.specs.Working.Checkers.{scope}
use Rattle.types_bodies.specs.Working.Parts.{so_far}
use Rattle.types_bodies.proofs.Chains.{operations_joined, tests_joined}
use Rattle.types_bodies.proofs.checker.Checker.+exprs.Given as goal

abbrev pub invariant-operations-loop-link : goal.invariant-operations-loop-link
invariant-operations-loop-link l = record {
  value : operations_joined (option_map (λ os. os.items) l.operations) (typed_links (scope l.self) (links_of (drop l.link-index l.links))) ≡ typed_links (scope l.self) (links_of l.links);
  faults : found_in l.firsts (link_faults (scope l.self) Sum (links_of (drop l.link-index l.links))) ≡ found_in l.fn.firsts (link_faults (scope l.self) Sum (links_of l.links));
}

abbrev pub invariant-tests-loop-link : goal.invariant-tests-loop-link
invariant-tests-loop-link l = record {
  value : tests_joined (scope l.self) (option_map so_far l.tests) (links_of (drop l.link-index l.links)) ≡ typed_tests (scope l.self) (option_map core_condition l.fn.first) (links_of l.links);
  faults : found_in l.firsts (link_faults (scope l.self) Conjunction (links_of (drop l.link-index l.links))) ≡ found_in l.fn.firsts (link_faults (scope l.self) Conjunction (links_of l.links));
}
