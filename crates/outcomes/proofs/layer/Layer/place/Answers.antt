use Rattle.std.proofs.Common.{◌≡◌, ◌∙◌, ◌<◌, Some, List, length, slice_get, nat_eq, true, arith, ap, sym, subst, refl}
use Rattle.std.proofs.lemmas.Option.{slice_get_read}
use Rattle.std.specs.HashMap.{get}
use Rattle.std.proofs.lemmas.List.{length-map}
use Rattle.core_lang.specs.declared.value.Value.{Value}
use Rattle.outcomes.specs.declared.state.Change.{Change}
use Rattle.outcomes.specs.Ends.{Left}
use Rattle.outcomes.specs.Working.Changes.{applied, AreChanges}
use Rattle.outcomes.specs.Working.Hashes.{hash, hash_left}
use Rattle.outcomes.specs.Working.States.{Layered, left_with, IsAlike, NoneIsAlike, at, entry_state}
use Rattle.outcomes.specs.Working.Tables.{IsLeft}
use Rattle.outcomes.proofs.TableLemmas.{left_at_first, left_within, left_next, left_smaller, none_alike, at_entry}
use Rattle.outcomes.proofs.layer.Layer.place.Goals as goal

pub loop-last-init : goal.loop-last-init
loop-last-init c =
    let are : AreChanges c.self.inside.opening.now c.args.changes.now =
    subst (λ (v : Layered). AreChanges v.opening c.args.changes.now) (sym c.self.view_is) c.requires in
    left_at_first c.self.inside.start c.self.inside.opening.now c.self.inside.entries.items c.self.inside.places c.self.inside.total c.args.done.now (left_with (applied c.args.changes.now c.self.inside.opening.now) c.args.answers.now) c.copied-last.result c.self.invariant
    (sym (c.copied-last.ensures ∙ c.get.ensures.value ∙ ap (get nat_eq c.self.inside.places)
    (c.hash-key.ensures ∙ ap (λ (v : List Change). hash c.self.inside.start c.args.done.now v c.args.answers.now) are)))

pub is_alike-requires-clause-within : goal.is_alike-requires-clause-within
is_alike-requires-clause-within c =
    let within = left_within c.self.inside.start c.self.inside.opening.now c.self.inside.entries.items c.args.done.now (left_with (applied c.args.changes.now c.self.inside.opening.now) c.args.answers.now) c.loop-last.last c.in-Some.number c.loop-last.invariant c.in-Some.is in
    subst (λ (v : Layered). c.in-Some.number < length v.states) c.self.view_is within

pub returns-then-is_alike : goal.returns-then-is_alike
returns-then-is_alike c =
    let within = left_within c.self.inside.start c.self.inside.opening.now c.self.inside.entries.items c.args.done.now (left_with (applied c.args.changes.now c.self.inside.opening.now) c.args.answers.now) c.loop-last.last c.in-Some.number c.loop-last.invariant c.in-Some.is in
    (subst (λ (v : Layered). c.in-Some.number < length v.states) c.self.view_is within, c.is_alike.ensures.0 c.if-is_alike.true)

pub index-requires : goal.index-requires
index-requires c =
    let within = left_within c.self.inside.start c.self.inside.opening.now c.self.inside.entries.items c.args.done.now (left_with (applied c.args.changes.now c.self.inside.opening.now) c.args.answers.now) c.loop-last.last c.in-Some.number c.loop-last.invariant c.in-Some.is in
    let inside : c.in-Some.number < length c.self.inside.entries.items = rw length-map at within in
    omega arith

pub loop-last-smaller : goal.loop-last-smaller
loop-last-smaller c =
    let entries = c.self.inside.entries.items in
    let k = c.in-Some.number in
    let within = left_within c.self.inside.start c.self.inside.opening.now entries c.args.done.now (left_with (applied c.args.changes.now c.self.inside.opening.now) c.args.answers.now) c.loop-last.last k c.loop-last.invariant c.in-Some.is in
    let inside : k < length entries = rw length-map at within in
    let is : slice_get entries k ≡ Some c.index.result.now = slice_get_read entries (length entries) k c.index.result.now refl inside c.index.ensures in
    rw c.in-Some.is (left_smaller c.self.inside.start c.self.inside.opening.now entries c.self.inside.places c.self.inside.total k c.index.result.now c.self.invariant is)

pub loop-last-preserved : goal.loop-last-preserved
loop-last-preserved c =
    let entries = c.self.inside.entries.items in
    let k = c.in-Some.number in
    let within = left_within c.self.inside.start c.self.inside.opening.now entries c.args.done.now (left_with (applied c.args.changes.now c.self.inside.opening.now) c.args.answers.now) c.loop-last.last k c.loop-last.invariant c.in-Some.is in
    let inside : k < length entries = rw length-map at within in
    let is : slice_get entries k ≡ Some c.index.result.now = slice_get_read entries (length entries) k c.index.result.now refl inside c.index.ensures in
    let same : at c.args.self.now.states k ≡ entry_state c.self.inside.opening.now c.index.result.now = ap (λ (v : Layered). at v.states k) (sym c.self.view_is) ∙ at_entry c.self.inside.start c.self.inside.opening.now entries k c.index.result.now is in
    left_next c.self.inside.start c.self.inside.opening.now entries c.self.inside.places c.self.inside.total c.args.done.now (left_with (applied c.args.changes.now c.self.inside.opening.now) c.args.answers.now) k c.index.result.now c.self.invariant
    (subst (IsLeft c.self.inside.start c.self.inside.opening.now entries c.args.done.now (left_with (applied c.args.changes.now c.self.inside.opening.now) c.args.answers.now)) c.in-Some.is c.loop-last.invariant) is
    (λ alike. absurd (let there = subst (IsAlike c.args.done.now (left_with (applied c.args.changes.now c.self.inside.opening.now) c.args.answers.now)) (sym same) alike in
    let yes : c.is_alike.result ≡ true = c.is_alike.ensures.1
    (subst (λ (o : List Value). IsAlike c.args.done.now (left_with (applied c.args.changes.now o) c.args.answers.now) (at c.args.self.now.states k))
    (ap (λ (v : Layered). v.opening) c.self.view_is) there) in cc))

pub returns : goal.returns
returns c =
    let are : AreChanges c.self.inside.opening.now c.args.changes.now =
    subst (λ (v : Layered). AreChanges v.opening c.args.changes.now) (sym c.self.view_is) c.requires in
    let left : List Value → Left = λ opening. left_with (applied c.args.changes.now opening) c.args.answers.now in (
      subst (λ (v : Layered). NoneIsAlike c.args.done.now (left v.opening) v.states) c.self.view_is
          (none_alike c.self.inside.start c.self.inside.opening.now c.self.inside.entries.items c.args.done.now (left c.self.inside.opening.now) c.loop-last.last c.loop-last.invariant c.in_default.is),
      subst (λ (v : Layered). c.hash-key.result ≡ hash_left v.start v.opening c.args.done.now (left v.opening)) c.self.view_is
          (c.hash-key.ensures ∙ ap (λ (v : List Change). hash c.self.inside.start c.args.done.now v c.args.answers.now) are),
    )
