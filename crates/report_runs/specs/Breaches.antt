-- The report on ends of which something is expected, as bytes: that all are as expected, and whether these are the ends
-- of all orders; or an order that leads to one that is not, and what the cells hold at this end.
use Rattle.std.specs.Prelude.{ℕ, not, List, ◌++◌, find, codes, Option, Some, None}
use Rattle.core_lang.specs.declared.typed.Typed.{Typed}
use Rattle.code.specs.Listing.{line}
use Rattle.outcomes.specs.declared.outcome.Cells.{Cells}
use Rattle.outcomes.specs.Ends.{Told}
use Rattle.report_runs.specs.declared.ends.Scope.{Scope}
use Rattle.report_runs.specs.declared.ends.Scope.TheVariants.{All as Every_order, Reduced, Drawn}
use Rattle.report_runs.specs.Outcomes.{order_text, whole_cells_text}
use Rattle.report_runs.specs.declared.comparison.Comparison.{Comparison}
use Rattle.report_runs.specs.Sums.{holds}

-- the first end that is not as expected
abbrev pub breach_in : Cells → Comparison → List Told → Option Told
breach_in cells comparison ends = find (λ (end : Told). not (holds cells end.left.cells comparison)) ends

-- the orders that have the ends; all orders, where the explored ones represent all
abbrev pub scope_text : Scope → List ℕ
scope_text (Every_order states) = codes "all orders"
scope_text (Reduced states) = codes "all orders"
scope_text Drawn = codes "the orders drawn"

-- expected TEXT holds in all orders
abbrev pub held_text : List ℕ → Scope → List ℕ
held_text text scope = line (codes "expected " ++ text ++ codes " holds in " ++ scope_text scope)

-- expected TEXT fails after T T .., and the cells there
abbrev pub broken_text : Typed → Cells → List ℕ → Told → List ℕ
broken_text program cells text end =
    line (codes "expected " ++ text ++ codes " fails after" ++ order_text end.order) ++ whole_cells_text program cells end.left.cells

-- the report on the first end that is not as expected, if there is one
abbrev pub expected_text : Typed → Cells → List ℕ → Scope → Option Told → List ℕ
expected_text program cells text scope None = held_text text scope
expected_text program cells text scope (Some end) = broken_text program cells text end
