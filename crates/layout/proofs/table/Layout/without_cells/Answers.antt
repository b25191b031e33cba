use Rattle.std.proofs.Common.{replicate, ap, ◌∙◌}
use Rattle.layout.proofs.Placed.{none_placed}
use Rattle.layout.proofs.table.Layout.without_cells.Goals as goal

pub invariant_of-result : goal.invariant_of-result
invariant_of-result c =
    none_placed c.args.numbering.locks.items c.in_ok-cells.cells.items c.in_ok-sizes.sizes.items c.in_ok-cells.ensures.items
    (c.in_ok-sizes.ensures.items_if_clones_equal (λ y e. e) ∙ ap (λ n. replicate n 0) (c.len.ensures ∙ c.args.numbering.locks.ok.0))
