use Rattle.std.proofs.Common.{◌∙◌, sym, arith}
use Rattle.input_files.proofs.Cuts.{values_fail, values_last, values_more}
use Rattle.input_files.proofs.piece.are_next_values.Goals as goal

pub returns-then-not-is_next_value : goal.returns-then-not-is_next_value
returns-then-not-is_next_value c =
    sym (sym c.values.invariant
    ∙ values_fail c.values.rest.now c.place_of-place.result c.place_of-place.ensures.place c.place_of-place.ensures.bound
    (sym c.is_next_value.ensures ∙ c.if-not-is_next_value.true))

pub returns-then-place-rest : goal.returns-then-place-rest
returns-then-place-rest c =
    sym (sym c.values.invariant
    ∙ values_last c.values.rest.now c.place_of-place.result c.place_of-place.ensures.place (omega arith)
    (sym c.is_next_value.ensures ∙ c.if-not-is_next_value.false))

pub values-preserved : goal.values-preserved
values-preserved c =
    rw c.behind-rest.ensures
    (values_more c.values.rest.now c.place_of-place.result c.place_of-place.ensures.place (omega arith)
    (sym c.is_next_value.ensures ∙ c.if-not-is_next_value.false) ∙ c.values.invariant)
