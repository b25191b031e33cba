use Rattle.meaning.proofs.Kept.{kept_at_first}
use Rattle.meaning.proofs.draft.Draft.new.Goals as goal

pub invariant_of-result : goal.invariant_of-result
invariant_of-result c = kept_at_first c.heap.inside.is_written.items c.heap.inside.cells.items c.clear.new.self.items c.heap.invariant c.clear.ensures.items
