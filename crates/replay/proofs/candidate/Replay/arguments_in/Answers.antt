use Rattle.std.proofs.Common.{◌≡◌, ◌∙◌, arith, ap, sym, take, Some, None, List, ℕ}
use Rattle.std.specs.Prelude.{◌==◌}
use Rattle.std.specs.List.{slice_split}
use Rattle.core_lang.specs.declared.value.Value.{Value}
use Rattle.replay.specs.Told.{unspaced, value_in, values_in}
use Rattle.replay.proofs.Members.{behind_all, behind_pushed, last_value, more_values, no_value, some_text}
use Rattle.replay.proofs.candidate.Replay.arguments_in.Goals as goal

pub returns-in_default : goal.returns-in_default
returns-in_default c =
    let shape = c.args.self.now.program.now.shape in
    let none : value_in shape (unspaced (take c.place_of-place.result c.values.rest.now)) ≡ None =
    ap (value_in shape) (sym c.unspaced.ensures) ∙ sym c.value_in.ensures ∙ c.in_default.is in
    sym (some_text shape c.args.text.now (sym c.is_empty.ensures ∙ c.if-is_empty.false) ∙ sym c.values.invariant
    ∙ ap (behind_all c.values.values.items) (no_value shape c.values.rest.now c.place_of-place.result c.place_of-place.ensures.place c.place_of-place.ensures.bound none))

pub returns-then-place-rest : goal.returns-then-place-rest
returns-then-place-rest c =
    let shape = c.args.self.now.program.now.shape in
    let some : value_in shape (unspaced (take c.place_of-place.result c.values.rest.now)) ≡ Some c.in-Some.value =
    ap (value_in shape) (sym c.unspaced.ensures) ∙ sym c.value_in.ensures ∙ c.in-Some.is in
    ap Some c.in_ok-push.ensures.items
    ∙ sym (some_text shape c.args.text.now (sym c.is_empty.ensures ∙ c.if-is_empty.false) ∙ sym c.values.invariant
    ∙ ap (behind_all c.values.values.items) (last_value shape c.values.rest.now c.place_of-place.result c.place_of-place.ensures.place c.in-Some.value (omega arith) some))

pub values-preserved : goal.values-preserved
values-preserved c =
    let shape = c.args.self.now.program.now.shape in
    let some : value_in shape (unspaced (take c.place_of-place.result c.values.rest.now)) ≡ Some c.in-Some.value =
    ap (value_in shape) (sym c.unspaced.ensures) ∙ sym c.value_in.ensures ∙ c.in-Some.is in
    let left = values_in shape (slice_split (λ (b : ℕ). b == 44) c.behind-rest.result.now) in
    ap (λ (vs : List Value). behind_all vs left) c.in_ok-push.ensures.items
    ∙ behind_pushed c.values.values.items c.in-Some.value left
    ∙ sym (ap (behind_all c.values.values.items) (rw (c.behind-rest.ensures)
    (more_values shape c.values.rest.now c.place_of-place.result c.place_of-place.ensures.place c.in-Some.value (omega arith) some)))
    ∙ c.values.invariant
