use Rattle.std.proofs.Common.{arith}
use Rattle.input_files.proofs.ReadingLemmas.{line_first, line_none}
use Rattle.input_files.proofs.history_reading.next_line.Goals as goal

pub returns-then-place-text-clause-some : goal.returns-then-place-text-clause-some
returns-then-place-text-clause-some c =
    rw c.behind.ensures (line_first c.args.text.now c.place_of-place.result c.place_of-place.ensures.place (omega arith))

pub returns-else-place-text-clause-none : goal.returns-else-place-text-clause-none
returns-else-place-text-clause-none c = λ none.
    line_none c.args.text.now c.place_of-place.result c.place_of-place.ensures.place (omega arith)
