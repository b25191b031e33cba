use Rattle.std.proofs.Common.{◌≡◌, length}
use Rattle.std.specs.Prelude.{◌==◌}
use Rattle.std.specs.List.{list_all, slice_split}
use Rattle.input_files.specs.Pieces.{is_next_value}
use Rattle.input_files.proofs.piece.are_next_values.Given as goal

-- the rest is a list of values exactly if the whole is
abbrev pub invariant-values : goal.invariant-values
invariant-values l =
    list_all is_next_value (slice_split (λ b. b == 44) l.rest) ≡ list_all is_next_value (slice_split (λ b. b == 44) l.text)

abbrev pub decreases-values : goal.decreases-values
decreases-values l = length l.rest
