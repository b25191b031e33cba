use Rattle.std.proofs.Common.{◌≡◌, ◌++◌, drop}
use Rattle.outcomes.specs.Working.Touches.{tests_in_all}
use Rattle.outcomes.specs.Working.Listing.{touches}
use Rattle.outcomes.proofs.accesses.+tests.Given as goal

abbrev pub invariant-loop-c : goal.invariant-loop-c
invariant-loop-c l =
    touches l.list.items ++ tests_in_all (drop l.c-index l.c-items) ≡ touches l.initial.list.items ++ tests_in_all
    l.c-items
