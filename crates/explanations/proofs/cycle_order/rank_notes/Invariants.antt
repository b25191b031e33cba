use Rattle.std.proofs.Common.{◌≡◌, ◌++◌, ◌-◌, length, map}
use Rattle.std.specs.List.{range_with_len}
use Rattle.explanation.specs.Notes.{note_of}
use Rattle.explanations.specs.OrderNotes.{rank_note, rank_notes}
use Rattle.explanations.proofs.cycle_order.rank_notes.Given as goal

-- the notes written and those of the remaining ranks are all
abbrev pub invariant-loop-rank : goal.invariant-loop-rank
invariant-loop-rank l =
    map note_of l.notes.items ++ map (rank_note l.program l.ranks) (range_with_len l.rank (length l.ranks - l.rank))
    ≡ rank_notes l.program l.ranks
