use Rattle.std.proofs.Common.{◌≡◌, ◌∙◌, ◌++◌, ◌∷◌, [], ℕ, List, length, inl, inr, ap, sym, subst}
use Rattle.core_lang.specs.declared.value.Value.{Value}
use Rattle.core_lang.specs.Serial.{opening_heap}
use Rattle.outcomes.specs.declared.state.Change.{Change}
use Rattle.outcomes.specs.Ends.{Left, seen, seen_cells}
use Rattle.outcomes.specs.Working.Changes.{applied, changes_of, AreChanges}
use Rattle.outcomes.specs.Working.States.{left_with, at, IsAlike, NoneIsAlike}
use Rattle.outcomes.specs.Working.Steps.{state_in}
use Rattle.outcomes.proofs.ChangeLemmas.{are_changes, cells_from, length-applied, seen_long}
use Rattle.outcomes.proofs.search.Search.tell.Goals as goal

pub seen_changes-requires-clause-long : goal.seen_changes-requires-clause-long
seen_changes-requires-clause-long c =
    let opening = opening_heap c.args.self.now.program.now in
    let asked = c.args.self.now.asked.now.cells in
    let long : length c.cells.result.now ≡ length opening =
    ap (λ (l : List Value). length l) (c.cells.ensures ∙ c.requires.heap) ∙ length-applied c.args.state.now.changes.items opening in
    ap (λ (l : List Value). length l) (c.opening.ensures ∙ c.requires.opening) ∙ seen_long asked opening c.cells.result.now (sym long)

pub find-requires : goal.find-requires
find-requires c =
    let opening = opening_heap c.args.self.now.program.now in
    let asked = c.args.self.now.asked.now.cells in
    let long : length c.cells.result.now ≡ length opening =
    ap (λ (l : List Value). length l) (c.cells.ensures ∙ c.requires.heap) ∙ length-applied c.args.state.now.changes.items opening in
    let is : c.in_ok-changes-2.changes.items ≡ changes_of c.args.ends.now.opening (seen_cells asked c.cells.result.now) =
    c.in_ok-changes-2.ensures ∙ ap (λ (o : List Value). changes_of o (seen_cells asked c.cells.result.now)) c.opening.ensures in
    let seen_is : length (seen_cells asked c.cells.result.now) ≡ length c.args.ends.now.opening =
    seen_long asked c.cells.result.now opening long ∙ sym (ap (λ (l : List Value). length l) c.requires.opening) in
    subst (AreChanges c.args.ends.now.opening) (sym c.deref-3.ensures.value)
    (are_changes c.args.ends.now.opening (seen_cells asked c.cells.result.now) c.in_ok-changes-2.changes.items seen_is is)

pub push-requires-clause-changes : goal.push-requires-clause-changes
push-requires-clause-changes c =
    let opening = opening_heap c.args.self.now.program.now in
    let asked = c.args.self.now.asked.now.cells in
    let long : length c.cells.result.now ≡ length opening =
    ap (λ (l : List Value). length l) (c.cells.ensures ∙ c.requires.heap) ∙ length-applied c.args.state.now.changes.items opening in
    let is : c.in_ok-changes-2.changes.items ≡ changes_of c.args.ends.now.opening (seen_cells asked c.cells.result.now) =
    c.in_ok-changes-2.ensures ∙ ap (λ (o : List Value). changes_of o (seen_cells asked c.cells.result.now)) c.opening.ensures in
    let seen_is : length (seen_cells asked c.cells.result.now) ≡ length c.args.ends.now.opening =
    seen_long asked c.cells.result.now opening long ∙ sym (ap (λ (l : List Value). length l) c.requires.opening) in
    are_changes c.args.ends.now.opening (seen_cells asked c.cells.result.now) c.in_ok-changes-2.changes.items seen_is is

-- the changes give the cells that are reported
pub returns-in-Some : goal.returns-in-Some
returns-in-Some c =
    let opening = opening_heap c.args.self.now.program.now in
    let asked = c.args.self.now.asked.now.cells in
    let state = state_in c.args.self.now c.args.state.now in
    let same : c.cells.result.now ≡ state.left.cells = c.cells.ensures ∙ c.requires.heap in
    let long : length c.cells.result.now ≡ length opening =
    ap (λ (l : List Value). length l) same ∙ length-applied c.args.state.now.changes.items opening in
    let is : c.in_ok-changes-2.changes.items ≡ changes_of c.args.ends.now.opening (seen_cells asked c.cells.result.now) =
    c.in_ok-changes-2.ensures ∙ ap (λ (o : List Value). changes_of o (seen_cells asked c.cells.result.now)) c.opening.ensures in
    let seen_is : length (seen_cells asked c.cells.result.now) ≡ length c.args.ends.now.opening =
    seen_long asked c.cells.result.now opening long ∙ sym (ap (λ (l : List Value). length l) c.requires.opening) in
    let cells = cells_from c.args.ends.now.opening (seen_cells asked c.cells.result.now) c.in_ok-changes-2.changes.items seen_is is
    ∙ ap (seen_cells asked) same in
    let left : left_with (applied c.deref-3.result.now c.args.ends.now.opening) c.deref-4.result.now ≡ seen asked state.left =
    ap (λ (v : List Change). left_with (applied v c.args.ends.now.opening) c.deref-4.result.now) c.deref-3.ensures.value
    ∙ ap (λ (v : List Value). left_with v c.deref-4.result.now) cells ∙ ap (left_with (seen_cells asked state.left.cells)) c.deref-4.ensures.value in
    let found = c.in-Some.ensures in
    let alike : IsAlike c.deref-2.result.now (left_with (applied c.deref-3.result.now c.args.ends.now.opening) c.deref-4.result.now) (at c.args.ends.now.states c.in-Some.number) =
    found.1 in
    record {
      opening = c.add_orders.ensures.opening;
      there = inl (record {
        number = c.in-Some.number;
        within = found.0;
        alike = subst (λ (l : Left). IsAlike state.done l (at c.args.ends.now.states c.in-Some.number)) left
            (subst (λ (d : List ℕ). IsAlike d (left_with (applied c.deref-3.result.now c.args.ends.now.opening) c.deref-4.result.now) (at c.args.ends.now.states c.in-Some.number)) c.deref-2.ensures.value alike);
        ends = c.add_orders.ensures.states;
      });
    }

pub returns-in_ok-push-in-None : goal.returns-in_ok-push-in-None
returns-in_ok-push-in-None c =
    let opening = opening_heap c.args.self.now.program.now in
    let asked = c.args.self.now.asked.now.cells in
    let state = state_in c.args.self.now c.args.state.now in
    let same : c.cells.result.now ≡ state.left.cells = c.cells.ensures ∙ c.requires.heap in
    let long : length c.cells.result.now ≡ length opening =
    ap (λ (l : List Value). length l) same ∙ length-applied c.args.state.now.changes.items opening in
    let is : c.in_ok-changes-2.changes.items ≡ changes_of c.args.ends.now.opening (seen_cells asked c.cells.result.now) =
    c.in_ok-changes-2.ensures ∙ ap (λ (o : List Value). changes_of o (seen_cells asked c.cells.result.now)) c.opening.ensures in
    let seen_is : length (seen_cells asked c.cells.result.now) ≡ length c.args.ends.now.opening =
    seen_long asked c.cells.result.now opening long ∙ sym (ap (λ (l : List Value). length l) c.requires.opening) in
    let cells = cells_from c.args.ends.now.opening (seen_cells asked c.cells.result.now) c.in_ok-changes-2.changes.items seen_is is
    ∙ ap (seen_cells asked) same in
    let left : left_with (applied c.deref-3.result.now c.args.ends.now.opening) c.deref-4.result.now ≡ seen asked state.left =
    ap (λ (v : List Change). left_with (applied v c.args.ends.now.opening) c.deref-4.result.now) c.deref-3.ensures.value
    ∙ ap (λ (v : List Value). left_with v c.deref-4.result.now) cells ∙ ap (left_with (seen_cells asked state.left.cells)) c.deref-4.ensures.value in
    let pushed : left_with (applied c.in_ok-changes-2.changes.items c.args.ends.now.opening) c.in_ok-answers-in-None.answers.items ≡ seen asked state.left =
    ap (λ (v : List Value). left_with v c.in_ok-answers-in-None.answers.items) cells
    ∙ ap (left_with (seen_cells asked state.left.cells)) (c.in_ok-answers-in-None.ensures.items ∙ c.deref-in-None-2.ensures.value) in
    let done : c.in_ok-done-in-None.done.items ≡ state.done = c.in_ok-done-in-None.ensures.items ∙ c.deref-in-None.ensures.value in
    record {
      opening = c.in_ok-push-in-None.ensures.opening;
      there = inr (record {
        none = subst (λ (l : Left). NoneIsAlike state.done l c.args.ends.now.states) left (rw c.deref-2.ensures.value at c.in-None.ensures);
        ends = c.in_ok-push-in-None.ensures.ok
            ∙ ap (λ (l : Left). c.args.ends.now.states ++ (record { done = c.in_ok-done-in-None.done.items; left = l; orders = state.orders; first = state.first }) ∷ []) pushed
            ∙ ap (λ (d : List ℕ). c.args.ends.now.states ++ (record { done = d; left = seen asked state.left; orders = state.orders; first = state.first }) ∷ []) done;
      });
    }
