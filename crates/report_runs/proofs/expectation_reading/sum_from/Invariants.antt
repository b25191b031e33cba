use Rattle.std.proofs.Common.{◌≡◌, ◌≤◌, ℕ, length, map}
use Rattle.report_runs.specs.ExpectationTexts.{part_of, in_front, sum_from}
use Rattle.report_runs.proofs.expectation_reading.sum_from.Given as goal

-- the terms so far and the remaining ones are all terms
abbrev pub invariant-items : goal.invariant-items
invariant-items l =
    (n : ℕ) → length l.text ≤ n → (m : ℕ) × (length l.rest ≤ m)
    × (in_front (map part_of l.terms.items) (sum_from m l.before l.rest) ≡ sum_from n l.fn.first l.text)

abbrev pub decreases-items : goal.decreases-items
decreases-items l = length l.rest
