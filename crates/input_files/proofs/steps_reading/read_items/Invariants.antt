use Rattle.std.proofs.Common.{◌≡◌, ◌≤◌, ◌+◌, length}
use Rattle.std.specs.List.{slice_split}
use Rattle.input_files.specs.Steps.{is_white, in_front, items_from, items_in, STEP_LIMIT}
use Rattle.input_files.proofs.steps_reading.read_items.Given as goal

-- the items so far and those of the remaining pieces are all items
abbrev pub invariant-pieces : goal.invariant-pieces
invariant-pieces l =
    (in_front l.reader.items.items (items_from l.threads l.start l.reader.steps (slice_split is_white l.rest)) ≡ items_in l.threads l.text)
    × (l.start + length l.rest ≡ length l.text) × (l.reader.steps ≤ STEP_LIMIT)

abbrev pub decreases-pieces : goal.decreases-pieces
decreases-pieces l = length l.rest
