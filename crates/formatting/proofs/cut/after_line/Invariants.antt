use Rattle.std.proofs.Common.{◌≡◌, length}
use Rattle.source.specs.Texts.{is_in_line}
use Rattle.lexer.specs.Working.Reading.{after_run}
use Rattle.formatting.proofs.cut.after_line.Given as goal

abbrev pub invariant-run : goal.invariant-run
invariant-run l = after_run is_in_line l.rest ≡ after_run is_in_line l.text

abbrev pub decreases-run : goal.decreases-run
decreases-run l = length l.rest
