use Rattle.std.proofs.Common.{map, drop}
use Rattle.explanation.specs.Notes.{note_of}
use Rattle.explanations.proofs.Orders.{Completes}
use Rattle.explanations.proofs.cycle_edges.Edges.push_pairs.Given as goal

-- the notes on the remaining pairs, after those written, are the notes on all pairs
abbrev pub invariant-loop-pair : goal.invariant-loop-pair
invariant-loop-pair l =
    Completes l.self.program.now l.pairs (drop l.pair-index l.pairs) (map note_of l.initial.notes.items) (map note_of l.notes.items)
