use Rattle.std.proofs.Common.{◌∙◌, length, ap, sym}
use Rattle.std.proofs.lemmas.List.{length-map}
use Rattle.core_lang.specs.declared.typed.Cell.{Cell}
use Rattle.lock_manager.proofs.committed.Committed.open.Goals as goal

pub invariant_of-result : goal.invariant_of-result
invariant_of-result c =
    let program = c.requires in
    record {
      members = c.in_ok-members.ensures;
      count = ap length (c.in_ok-values.ensures ∙ program.1.opening) ∙ length-map program.0.cells.items (λ (cell : Cell). cell.opening) ∙ sym program.1.cells;
      distinct = program.1.distinct;
    }
