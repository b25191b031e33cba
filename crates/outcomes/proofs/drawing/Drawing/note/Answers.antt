use Rattle.std.proofs.Common.{◌≡◌, ◌∙◌, ◌++◌, ◌∷◌, [], ℕ, List, length, inl, inr, ap, sym, subst, refl}
use Rattle.core_lang.specs.declared.value.Value.{Value}
use Rattle.outcomes.specs.declared.state.Change.{Change}
use Rattle.outcomes.specs.Ends.{Left, seen, seen_cells}
use Rattle.outcomes.specs.Working.Changes.{applied, AreChanges}
use Rattle.outcomes.specs.Working.States.{left_with, at, IsAlike, NoneIsAlike}
use Rattle.outcomes.specs.Working.Drawing.{left_of}
use Rattle.outcomes.proofs.ChangeLemmas.{are_changes, cells_from, seen_long}
use Rattle.outcomes.proofs.drawing.Drawing.note.Goals as goal

pub find-requires : goal.find-requires
find-requires c =
    let drawing = c.args.self.now in
    let cells = seen_cells c.args.asked.now drawing.walk.heap in
    let long : length cells ≡ length drawing.ends.opening =
    seen_long c.args.asked.now drawing.walk.heap c.args.opening.now c.requires.long ∙ sym (ap (λ (l : List Value). length l) c.requires.ends) in
    subst (AreChanges drawing.ends.opening) (sym c.deref-2.ensures.value)
    (are_changes drawing.ends.opening cells c.in_ok-changes.changes.items long c.in_ok-changes.ensures)

pub push-requires-clause-changes : goal.push-requires-clause-changes
push-requires-clause-changes c =
    let drawing = c.args.self.now in
    let cells = seen_cells c.args.asked.now drawing.walk.heap in
    let long : length cells ≡ length drawing.ends.opening =
    seen_long c.args.asked.now drawing.walk.heap c.args.opening.now c.requires.long ∙ sym (ap (λ (l : List Value). length l) c.requires.ends) in
    are_changes drawing.ends.opening cells c.in_ok-changes.changes.items long c.in_ok-changes.ensures

pub returns-in-Some : goal.returns-in-Some
returns-in-Some c =
    let drawing = c.args.self.now in
    let asked = c.args.asked.now in
    let walk = drawing.walk in
    let opening = drawing.ends.opening in
    let long : length (seen_cells asked walk.heap) ≡ length opening =
    seen_long asked walk.heap c.args.opening.now c.requires.long ∙ sym (ap (λ (l : List Value). length l) c.requires.ends) in
    let cells = cells_from opening (seen_cells asked walk.heap) c.in_ok-changes.changes.items long c.in_ok-changes.ensures in
    let left : left_with (applied c.deref-2.result.now opening) c.deref-3.result.now ≡ seen asked (left_of walk) =
    ap (λ (v : List Change). left_with (applied v opening) c.deref-3.result.now) c.deref-2.ensures.value
    ∙ ap (λ (v : List Value). left_with v c.deref-3.result.now) cells ∙ ap (left_with (seen_cells asked walk.heap)) c.deref-3.ensures.value in
    let found = c.in-Some.ensures in
    let alike : IsAlike c.deref.result.now (left_with (applied c.deref-2.result.now opening) c.deref-3.result.now) (at drawing.ends.states c.in-Some.number) =
    found.1 in (
      refl,
      c.add_orders.ensures.opening,
      inl (record {
        number = c.in-Some.number;
        within = found.0;
        alike = subst (λ (l : Left). IsAlike walk.done.items l (at drawing.ends.states c.in-Some.number)) left
            (subst (λ (d : List ℕ). IsAlike d (left_with (applied c.deref-2.result.now opening) c.deref-3.result.now) (at drawing.ends.states c.in-Some.number)) c.deref.ensures.value alike);
        states = c.add_orders.ensures.states;
        trail_is = refl;
      }),
    )

pub returns-in_ok-push-in-None : goal.returns-in_ok-push-in-None
returns-in_ok-push-in-None c =
    let drawing = c.args.self.now in
    let asked = c.args.asked.now in
    let walk = drawing.walk in
    let opening = drawing.ends.opening in
    let long : length (seen_cells asked walk.heap) ≡ length opening =
    seen_long asked walk.heap c.args.opening.now c.requires.long ∙ sym (ap (λ (l : List Value). length l) c.requires.ends) in
    let cells = cells_from opening (seen_cells asked walk.heap) c.in_ok-changes.changes.items long c.in_ok-changes.ensures in
    let left : left_with (applied c.deref-2.result.now opening) c.deref-3.result.now ≡ seen asked (left_of walk) =
    ap (λ (v : List Change). left_with (applied v opening) c.deref-3.result.now) c.deref-2.ensures.value
    ∙ ap (λ (v : List Value). left_with v c.deref-3.result.now) cells ∙ ap (left_with (seen_cells asked walk.heap)) c.deref-3.ensures.value in
    let pushed : left_with (applied c.in_ok-changes.changes.items opening) c.in_ok-answers-in-None.answers.items ≡ seen asked (left_of walk) =
    ap (λ (v : List Value). left_with v c.in_ok-answers-in-None.answers.items) cells
    ∙ ap (left_with (seen_cells asked walk.heap)) (c.in_ok-answers-in-None.ensures.items ∙ c.deref-in-None-3.ensures.value) in
    let done : c.in_ok-done-in-None.done.items ≡ walk.done.items = c.in_ok-done-in-None.ensures.items ∙ c.deref-in-None-2.ensures.value in
    let first = c.in_ok-first-in-None.first in (
      refl,
      c.in_ok-push-in-None.ensures.opening,
      inr (record {
        none = subst (λ (l : Left). NoneIsAlike walk.done.items l drawing.ends.states) left (rw c.deref.ensures.value at c.in-None.ensures);
        first = first;
        ends = c.in_ok-push-in-None.ensures.ok
            ∙ ap (λ (l : Left). drawing.ends.states ++ (record { done = c.in_ok-done-in-None.done.items; left = l; orders = 1; first = first }) ∷ []) pushed
            ∙ ap (λ (d : List ℕ). drawing.ends.states ++ (record { done = d; left = seen asked (left_of walk); orders = 1; first = first }) ∷ []) done;
        longer = c.in_ok-first-in-None.ensures.longer;
        within = c.in_ok-first-in-None.ensures.within;
        order = c.in_ok-first-in-None.ensures.order ∙ c.deref-in-None.ensures.value;
      }),
    )
