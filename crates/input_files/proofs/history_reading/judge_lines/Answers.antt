use Rattle.std.proofs.Common.{arith}
use Rattle.std.proofs.lemmas.List.{length-drop}
use Rattle.input_files.proofs.ReadingLemmas.{end_judged, line_refused, line_more}
use Rattle.input_files.proofs.history_reading.judge_lines.Goals as goal

pub returns-then-place-rest : goal.returns-then-place-rest
returns-then-place-rest c =
    end_judged c.lines.reader c.lines.rest.now c.place_of-place.result _ _ c.place_of-place.ensures.place c.lines.invariant.left
    c.end.result (omega arith) c.end.ensures.ok c.end.ensures.fault

pub returns-in-Err : goal.returns-in-Err
returns-in-Err c =
    line_refused c.lines.reader c.lines.rest.now c.place_of-place.result _ _ c.place_of-place.ensures.place c.lines.invariant.left
    (omega arith) c.in-Err.fault c.in-Err.ensures.fault

pub lines-preserved : goal.lines-preserved
lines-preserved c = record {
  left = rw c.behind-rest.ensures
      (line_more c.lines.reader c.lines.rest.now c.place_of-place.result _ _ c.place_of-place.ensures.place c.lines.invariant.left
      c.read.new.self (omega arith) c.in-Ok.ensures.ok);
  number = rw c.behind-rest.ensures (simp length-drop (omega (arith, c.in-Ok.ensures.number, c.lines.invariant.number)));
}
