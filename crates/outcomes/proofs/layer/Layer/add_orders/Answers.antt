use Rattle.std.proofs.Common.{◌≡◌, ◌∙◌, ◌<◌, length, Some, slice_get, slice_set, ap, sym, refl, arith}
use Rattle.std.proofs.lemmas.Option.{slice_get_read}
use Rattle.std.proofs.lemmas.List.{map-set, length-map}
use Rattle.std.proofs.lemmas.List.Sums.{get_or-le-sum_by}
use Rattle.outcomes.specs.Working.States.{Layered, Reached, entry_state, with_more, at, nowhere}
use Rattle.outcomes.proofs.TableLemmas.{table_set, at_entry}
use Rattle.outcomes.proofs.layer.Layer.add_orders.Goals as goal

pub overflow_add-state : goal.overflow_add-state
overflow_add-state c =
    let entries = c.self.inside.entries.items in
    let i = c.args.number in
    let inside : i < length entries = rw (← c.self.view_is, length-map) at c.requires.within in
    let is : slice_get entries i ≡ Some c.index_mut.result.now = slice_get_read entries (length entries) i c.index_mut.result.now refl inside c.index_mut.ensures.value in
    let same : (at c.args.self.now.states i).orders ≡ c.index_mut.result.now.state.orders =
    ap (λ (v : Layered). (at v.states i).orders) (sym c.self.view_is) ∙ ap (λ (s : Reached). s.orders) (at_entry c.self.inside.start c.self.inside.opening.now entries i c.index_mut.result.now is) in
    let most = get_or-le-sum_by (λ (s : Reached). s.orders) c.args.self.now.states i nowhere c.requires.within in
    omega (arith, same, most, c.requires.fit)

pub invariant_of-self : goal.invariant_of-self
invariant_of-self c =
    let entries = c.self.inside.entries.items in
    let i = c.args.number in
    let e = c.index_mut.result.now in
    let inside : i < length entries = rw (← c.self.view_is, length-map) at c.requires.within in
    let is : slice_get entries i ≡ Some e = slice_get_read entries (length entries) i e refl inside c.index_mut.ensures.value in
    table_set c.self.inside.start c.self.inside.opening.now entries c.self.inside.places c.self.inside.total i c.args.more e _ c.self.invariant is refl refl refl refl

pub returns-clause-states : goal.returns-clause-states
returns-clause-states c =
    let entries = c.self.inside.entries.items in
    let i = c.args.number in
    let e = c.index_mut.result.now in
    let inside : i < length entries = rw (← c.self.view_is, length-map) at c.requires.within in
    let is : slice_get entries i ≡ Some e = slice_get_read entries (length entries) i e refl inside c.index_mut.ensures.value in
    let same : entry_state c.self.inside.opening.now e ≡ at c.args.self.now.states i =
    sym (at_entry c.self.inside.start c.self.inside.opening.now entries i e is) ∙ ap (λ (v : Layered). at v.states i) c.self.view_is in
    map-set (entry_state c.self.inside.opening.now) entries i _ ∙ ap (λ (v : Layered). slice_set v.states i (with_more (entry_state c.self.inside.opening.now e) c.args.more)) c.self.view_is
    ∙ ap (λ (s : Reached). slice_set c.args.self.now.states i (with_more s c.args.more)) same
