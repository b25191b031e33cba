use Rattle.std.proofs.Common.{◌∙◌, sym, arith}
use Rattle.input_files.proofs.Cuts.{argument_alone, arguments_more}
use Rattle.input_files.proofs.piece.are_arguments.Goals as goal

pub returns-then-place-text : goal.returns-then-place-text
returns-then-place-text c =
    c.is_value.ensures
    ∙ argument_alone c.args.text.now c.place_of-place.result (sym c.is_empty.ensures ∙ c.if-is_empty.false) c.place_of-place.ensures.place (omega arith)

pub returns-then-is_value : goal.returns-then-is_value
returns-then-is_value c =
    let more = arguments_more c.args.text.now c.place_of-place.result (sym c.is_empty.ensures ∙ c.if-is_empty.false) c.place_of-place.ensures.place (omega arith) in
    c.are_next_values.ensures ∙ rw (c.behind.ensures) (rw (sym c.is_value-2.ensures ∙ c.if-is_value.true) at more)

pub returns-else-is_value : goal.returns-else-is_value
returns-else-is_value c =
    let more = arguments_more c.args.text.now c.place_of-place.result (sym c.is_empty.ensures ∙ c.if-is_empty.false) c.place_of-place.ensures.place (omega arith) in
    rw (c.if-is_value.false) (rw (sym c.is_value-2.ensures ∙ c.if-is_value.false) at more)
