use Rattle.std.proofs.Common.{◌≡◌, length}
use Rattle.std.specs.Prelude.{◌==◌}
use Rattle.std.specs.List.{slice_split}
use Rattle.replay.specs.Told.{values_in}
use Rattle.replay.proofs.Members.{behind_all}
use Rattle.replay.proofs.candidate.Replay.arguments_in.Given as goal

-- the values so far and those of the remaining pieces are all values
abbrev pub invariant-values : goal.invariant-values
invariant-values l =
    behind_all l.values.items (values_in l.self.program.now.shape (slice_split (λ b. b == 44) l.rest))
    ≡ values_in l.self.program.now.shape (slice_split (λ b. b == 44) l.text)

abbrev pub decreases-values : goal.decreases-values
decreases-values l = length l.rest
