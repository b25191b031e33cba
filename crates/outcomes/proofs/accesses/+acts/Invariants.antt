use Rattle.std.proofs.Common.{◌≡◌, ◌++◌, drop}
use Rattle.outcomes.specs.Working.Touches.{acts_in_all}
use Rattle.outcomes.specs.Working.Listing.{touches}
use Rattle.outcomes.proofs.accesses.+acts.Given as goal

abbrev pub invariant-push_statements-loop-statement : goal.invariant-push_statements-loop-statement
invariant-push_statements-loop-statement l =
    touches l.list.items ++ acts_in_all (drop l.statement-index l.statements) ≡ touches
    l.initial.list.items ++ acts_in_all l.statements
