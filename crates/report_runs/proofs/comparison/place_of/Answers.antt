use Rattle.std.proofs.Common.{◌∙◌, ℕ, List, ap, sym}
use Rattle.std.specs.Prelude.{◌==◌, position}
use Rattle.outcomes.specs.declared.outcome.Cells.{Cells}
use Rattle.report_runs.specs.Sums.{place_of}
use Rattle.report_runs.proofs.comparison.place_of.Goals as goal

pub returns-in-These : goal.returns-in-These
returns-in-These c =
    c.position.ensures ∙ ap (λ (ns : List ℕ). position (λ other. other == c.args.number) ns) c.deref.ensures.value
    ∙ ap (λ (cells : Cells). place_of cells c.args.number) (sym c.in-These.is)
