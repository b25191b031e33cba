use Rattle.std.proofs.Common.{◌≡◌, ◌++◌, map, take}
use Rattle.std.specs.List.{flat_map}
use Rattle.explanation.specs.Notes.{note_of}
use Rattle.explanations.specs.CycleCalls.{edge_calls}
use Rattle.explanations.proofs.cycle_calls.Calls.push.Given as goal

-- the notes of the edges so far are added
abbrev pub invariant-loop-edge : goal.invariant-loop-edge
invariant-loop-edge l =
    map note_of l.notes.items
    ≡ map note_of l.initial.notes.items ++ flat_map (edge_calls l.self.program.now l.written) (take l.edge-index l.edges)
