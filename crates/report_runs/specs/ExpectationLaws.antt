-- What the reported ends say of every order.
use Rattle.std.specs.Prelude.{◌≡◌, ℕ, List, true, None}
use Rattle.core_lang.specs.declared.typed.Typed.{Typed}
use Rattle.outcomes.specs.declared.outcome.Asked.{Asked}
use Rattle.outcomes.specs.Ends.{Left, Told, EndsIn, TellsEveryEnd, seen_cells}
use Rattle.report_runs.specs.declared.comparison.Comparison.{Comparison}
use Rattle.report_runs.specs.Sums.{holds}
use Rattle.report_runs.specs.Breaches.{breach_in}

-- where every end is reported, and a comparison holds of each reported end, it holds of what the calls leave in any
-- order
abbrev pub HoldsInEveryOrder : Type 0
HoldsInEveryOrder =
    (program : Typed) (asked : Asked) (comparison : Comparison) (told : List Told) → TellsEveryEnd program asked told →
    breach_in asked.cells comparison told ≡ None →
    (order : List ℕ) (left : Left) → EndsIn program asked.answers order left →
    holds asked.cells (seen_cells asked.cells left.cells) comparison ≡ true
