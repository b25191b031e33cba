use Rattle.std.proofs.Common.{◌≤◌, ◌+◌, length}
use Rattle.input_files.specs.Histories.{lines_in, recorded_lines}
use Rattle.replay.proofs.Replays.{HasRead}
use Rattle.replay.proofs.candidate.Replay.judgement.Given as goal

-- the lines before the remaining ones came
abbrev pub invariant-lines : goal.invariant-lines
invariant-lines l = record {
  read : HasRead l.self.turns l.self.callers l.self.format l.self.program.now (recorded_lines l.recorded) l.number (lines_in l.rest) l.at;
  number : l.number + length l.rest ≤ length l.recorded.text.now + 2;
}

abbrev pub decreases-lines : goal.decreases-lines
decreases-lines l = length l.rest
