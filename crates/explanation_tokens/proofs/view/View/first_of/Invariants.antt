use Rattle.std.proofs.Common.{◌≡◌, take, None}
use Rattle.std.specs.List.{find}
use Rattle.explanation_tokens.specs.Working.Seen.{fitting}
use Rattle.explanation_tokens.proofs.view.View.first_of.Given as goal

-- none of the rows so far fits
abbrev pub invariant-loop-row : goal.invariant-loop-row
invariant-loop-row l = find (fitting l.self) (take l.row-index l.rows) ≡ None
