use Rattle.std.proofs.Common.{◌≡◌, ◌∙◌, ◌+◌, ◌++◌, ◌∷◌, [], ℕ, List, length, map, Some, None, cond, sym, subst, nat_eq, arith, ap, refl, slice_get}
use Rattle.std.proofs.lemmas.List.{map-append}
use Rattle.std.proofs.lemmas.Option.{slice_get_read}
use Rattle.std.specs.HashMap.{get}
use Rattle.outcomes.specs.declared.layer.Entry.{Entry}
use Rattle.outcomes.specs.Working.Changes.{AreChanges}
use Rattle.outcomes.specs.Working.States.{Layered, reached_of, entry_state}
use Rattle.outcomes.specs.Working.Tables.{hash_of, IsKey, IsTable}
use Rattle.outcomes.proofs.TableLemmas.{table_push, linked, within_pushed}
use Rattle.outcomes.proofs.layer.Layer.push_by.Goals as goal

pub invariant_of-self-in-Ok : goal.invariant_of-self-in-Ok
invariant_of-self-in-Ok c =
    let start = c.self.inside.start in
    let opening = c.self.inside.opening.now in
    let entries = c.self.inside.entries.items in
    let places = c.self.inside.places in
    let state = c.args.state in
    let number = c.len-number.result in
    let more = c.push.new.self.items in
    let are : AreChanges opening state.changes.items =
    subst (λ (v : Layered). AreChanges v.opening state.changes.items) (sym c.self.view_is) c.requires.changes in
    let first : Entry = record { state = state; before = None } in
    let e : Entry = record { state = state; before = c.in-Ok.before } in
    let h : c.args.key ≡ hash_of start opening e =
    subst (λ (v : Layered). IsKey v (reached_of v.opening state) c.args.key) (sym c.self.view_is) c.requires.key in
    let link : e.before ≡ get nat_eq places (hash_of start opening e) = c.in-Ok.ensures.old ∙ ap (get nat_eq places) h in
    let long : number ≡ length entries = omega (arith, c.len-number.ensures) in
    let within = within_pushed start opening entries more first number long c.in_ok-push.ensures.items in
    let here : slice_get more number ≡ Some c.index_mut.result.now =
    slice_get_read more (length more) number c.index_mut.result.now refl within c.index_mut.ensures.value in
    let set = linked start opening entries more first c.index_mut.result.now number c.in-Ok.before long c.in_ok-push.ensures.items here in
    subst (λ (l : List Entry). IsTable start opening l c.insert.new.self (c.self.inside.total + state.orders)) (sym set)
    (table_push start opening entries places c.insert.new.self c.self.inside.total e c.self.invariant are link
    (λ q. c.in-Ok.ensures.updates.0 q
    ∙ ap (λ (k : ℕ). cond (nat_eq k q) (Some number) (get nat_eq places q)) h
    ∙ ap (λ (n : ℕ). cond (nat_eq (hash_of start opening e) q) (Some n) (get nat_eq places q)) long))

pub returns-in-Ok-clause-ok : goal.returns-in-Ok-clause-ok
returns-in-Ok-clause-ok c =
    let start = c.self.inside.start in
    let opening = c.self.inside.opening.now in
    let entries = c.self.inside.entries.items in
    let state = c.args.state in
    let number = c.len-number.result in
    let more = c.push.new.self.items in
    let first : Entry = record { state = state; before = None } in
    let e : Entry = record { state = state; before = c.in-Ok.before } in
    let long : number ≡ length entries = omega (arith, c.len-number.ensures) in
    let within = within_pushed start opening entries more first number long c.in_ok-push.ensures.items in
    let here : slice_get more number ≡ Some c.index_mut.result.now =
    slice_get_read more (length more) number c.index_mut.result.now refl within c.index_mut.ensures.value in
    let set = linked start opening entries more first c.index_mut.result.now number c.in-Ok.before long c.in_ok-push.ensures.items here in
    ap (map (entry_state opening)) set ∙ map-append (entry_state opening) entries (e ∷ [])
    ∙ ap (λ (v : Layered). v.states ++ reached_of v.opening state ∷ []) c.self.view_is
