use Rattle.std.proofs.Common.{◌≡◌, ◌∙◌, true, false, sym}
use Rattle.resolution.specs.Limits.{OBJECT_LIMIT, CELL_LIMIT}
use Rattle.resolution.specs.Numbers.{objects_of, cells_of}
use Rattle.types_symbols.specs.Working.Views.{decls_of}
use Rattle.explanation_faults.specs.AmountsPassed.{objects, cells, calls}
use Rattle.explanation_faults.proofs.AmountsPassed.{over_if, none_amount}
use Rattle.explanation_faults.proofs.amounts_passed.amount_passed.Goals as goal

pub returns-then-is_first_over : goal.returns-then-is_first_over
returns-then-is_first_over c =
    let ds = decls_of c.args.symbols.now in
    objects (over_if objects_of c.args.at OBJECT_LIMIT ds (sym c.is_first_over.ensures ∙ c.if-is_first_over.true))

pub returns-then-is_first_over-2 : goal.returns-then-is_first_over-2
returns-then-is_first_over-2 c =
    let ds = decls_of c.args.symbols.now in
    cells (over_if (cells_of ds) c.args.at CELL_LIMIT ds (sym c.is_first_over-2.ensures ∙ c.if-is_first_over-2.true))

pub returns-then-branch : goal.returns-then-branch
returns-then-branch c =
    let so = rw c.items.ensures at c.in_ok-are_calls_past.ensures in
    calls (so.0 c.if-branch.true)

pub returns : goal.returns
returns c =
    let ds = decls_of c.args.symbols.now in
    let so = rw c.items.ensures at c.in_ok-are_calls_past.ensures in
    none_amount ds c.args.at (sym c.is_first_over.ensures ∙ c.if-is_first_over.false) (sym c.is_first_over-2.ensures ∙ c.if-is_first_over-2.false)
    (λ p. let e : false ≡ true = sym c.if-branch.false ∙ so.1 p in absurd cc)
