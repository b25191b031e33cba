use Rattle.std.proofs.Common.{◌≡◌, ◌++◌, List, ℕ, sym, ap, ◌∙◌}
use Rattle.std.specs.Prelude.{codes}
use Rattle.test_support.proofs.Words.{named_simulate, named_check, named_lists, named_graph, named_listing, named_places}
use Rattle.test_support.proofs.Words.{named_outcomes, named_tokens, named_tree, named_print, named_again, named_paths}
use Rattle.test_support.proofs.Words.{named_points, named_order}
use Rattle.test_support.proofs.asked.Asked.named.Goals as goal

pub returns-in-check : goal.returns-in-check
returns-in-check c = rw c.in-check.is named_check

pub returns-in-lists : goal.returns-in-lists
returns-in-lists c = rw c.in-lists.is named_lists

pub returns-in-graph : goal.returns-in-graph
returns-in-graph c = rw c.in-graph.is named_graph

pub returns-in-outcomes : goal.returns-in-outcomes
returns-in-outcomes c = rw c.in-outcomes.is named_outcomes

pub returns-in-listing : goal.returns-in-listing
returns-in-listing c = rw (c.in-listing.is, c.listing.ensures) named_listing

pub returns-in-places : goal.returns-in-places
returns-in-places c = rw (c.in-places.is, c.listing-in-places.ensures) named_places

pub returns-in-tokens : goal.returns-in-tokens
returns-in-tokens c = rw c.in-tokens.is named_tokens

pub returns-in-tree : goal.returns-in-tree
returns-in-tree c = rw c.in-tree.is named_tree

pub returns-in-print : goal.returns-in-print
returns-in-print c = rw c.in-print.is named_print

pub returns-in-again : goal.returns-in-again
returns-in-again c = rw c.in-again.is named_again

pub returns-in-paths : goal.returns-in-paths
returns-in-paths c = rw c.in-paths.is named_paths

pub returns-in-points : goal.returns-in-points
returns-in-points c = rw c.in-points.is named_points

pub returns-in-order : goal.returns-in-order
returns-in-order c = rw c.in-order.is named_order

pub returns-in-Some-strip_prefix : goal.returns-in-Some-strip_prefix
returns-in-Some-strip_prefix c =
    let cases = c.in-Some-strip_prefix.ensures.cases in
    let is : c.args.word.now ≡ codes "simulate " ++ c.in-Some-strip_prefix.steps.now = cases.1.1 ∙ ap (λ (s : List ℕ). codes "simulate " ++ s) (sym cases.2) in
    rw is (named_simulate _)
