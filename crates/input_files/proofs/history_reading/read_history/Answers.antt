use Rattle.std.proofs.Common.{◌∙◌, sym, arith}
use Rattle.input_files.proofs.ReadingLemmas.{first_long, first_alone, first_bad, first_good, first_refused}
use Rattle.input_files.proofs.ReadingLemmas.{first_answers}
use Rattle.input_files.proofs.history_reading.read_history.Goals as goal

pub returns-then-place-gt-LINE_LIMIT : goal.returns-then-place-gt-LINE_LIMIT
returns-then-place-gt-LINE_LIMIT c =
    rw c.fault.ensures (first_long c.args.text.now c.place_of-place.result c.place_of-place.ensures.place c.place_of-place.ensures.bound (omega arith))

pub returns-then-place-text : goal.returns-then-place-text
returns-then-place-text c =
    rw c.fault-then-place-text.ensures (first_alone c.args.text.now c.place_of-place.result c.place_of-place.ensures.place (omega arith) (omega arith))

pub returns-in_default : goal.returns-in_default
returns-in_default c =
    rw c.fault-in_default.ensures
    (first_bad c.args.text.now c.place_of-place.result c.place_of-place.ensures.place (omega arith) (omega arith) (sym c.format_of.ensures ∙ c.in_default.is))

pub returns-in-Err : goal.returns-in-Err
returns-in-Err c =
    first_refused _ _ c.in-Some.format c.in-Err.fault
    (first_good c.args.text.now c.place_of-place.result c.place_of-place.ensures.place c.in-Some.format (omega arith) (omega arith) (sym c.format_of.ensures ∙ c.in-Some.is))
    (rw c.behind-text.ensures at c.in-Err.ensures)

pub returns-in-Ok : goal.returns-in-Ok
returns-in-Ok c =
    rw c.behind-text.ensures (first_answers _ _ c.in-Some.format _
    (first_good c.args.text.now c.place_of-place.result c.place_of-place.ensures.place c.in-Some.format (omega arith) (omega arith) (sym c.format_of.ensures ∙ c.in-Some.is))
    (rw c.behind-text.ensures at c.in-Ok.ensures))
