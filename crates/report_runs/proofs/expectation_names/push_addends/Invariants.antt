use Rattle.std.proofs.Common.{◌≡◌, ◌++◌, take, map}
use Rattle.report_runs.specs.declared.comparison.Quantity.TheVariants.{Cell}
use Rattle.report_runs.proofs.expectation_names.push_addends.Given as goal

abbrev pub invariant-loop-number : goal.invariant-loop-number
invariant-loop-number l =
    l.addends.items ≡ l.initial.addends.items ++ map (λ cell. record { sign = l.sign; quantity = Cell cell }) (take l.number-index l.number-items)
