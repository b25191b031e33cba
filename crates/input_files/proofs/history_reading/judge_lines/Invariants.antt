use Rattle.std.proofs.Common.{◌≤◌, ◌+◌, length}
use Rattle.std.specs.Prelude.{◌==◌}
use Rattle.std.specs.List.{slice_split}
use Rattle.input_files.specs.declared.stage.Stage.TheVariants.{Opening}
use Rattle.input_files.specs.Histories.{lines_from, lines_in}
use Rattle.input_files.specs.Working.HistoryReading.{lines_at}
use Rattle.input_files.proofs.ReadingLemmas.{Follows}
use Rattle.input_files.proofs.history_reading.judge_lines.Given as goal

-- the answer for the remaining pieces is that for all
abbrev pub invariant-lines : goal.invariant-lines
invariant-lines l = record {
  left : Follows (lines_from l.fn.format Opening 2 (slice_split (λ b. b == 10) l.text)) (lines_at l.reader (slice_split (λ b. b == 10) l.rest)) (lines_in l.text) (lines_in l.rest);
  number : l.reader.number + length l.rest ≤ length l.text + 2;
}

abbrev pub decreases-lines : goal.decreases-lines
decreases-lines l = length l.rest
