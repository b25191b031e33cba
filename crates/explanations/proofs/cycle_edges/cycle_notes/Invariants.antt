use Rattle.std.proofs.Common.{◌++◌, List, map, drop}
use Rattle.explanation.specs.Notes.{Note, note_of}
use Rattle.explanations.specs.CycleNotes.{TellEdges}
use Rattle.explanations.proofs.cycle_edges.cycle_notes.Given as goal

-- the notes on the remaining edges, after those written, are the notes on all edges
abbrev pub invariant-loop-i : goal.invariant-loop-i
invariant-loop-i l =
    (more : List Note) → TellEdges l.program l.first (drop l.i l.edges) more →
    TellEdges l.program l.first l.edges (map note_of l.notes.items ++ more)
