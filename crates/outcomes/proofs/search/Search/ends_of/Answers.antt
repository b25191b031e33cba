use Rattle.std.proofs.Common.{◌≡◌, ◌∙◌, ◌<◌, ℕ, List, length, map, take, ap, sym, subst, take_all, refl, arith}
use Rattle.core_lang.specs.declared.value.Value.{Value}
use Rattle.outcomes.specs.Ends.{seen_cells, told_of}
use Rattle.outcomes.specs.Working.Changes.{applied, AreChanges}
use Rattle.outcomes.specs.Working.Searching.{as_told}
use Rattle.outcomes.specs.Working.States.{Layered, Reached, at, reached_of}
use Rattle.outcomes.specs.Working.Steps.{AreEndsOfStates}
use Rattle.outcomes.proofs.SeenEnds.{no_ends, ends_of_more, room_for_one}
use Rattle.outcomes.proofs.search.Search.ends_of.Goals as goal

pub loop-number-init : goal.loop-number-init
loop-number-init c = record {
  ends = no_ends c.args.self.now c.args.work.now.trail c.new-ends.result.states c.new-ends.ensures.states;
  over =
      c.new-ends.ensures.opening ∙ c.deref.ensures.value ∙ c.in_ok-opening.ensures
      ∙ ap (seen_cells c.args.self.now.asked.now.cells) (c.opening.ensures ∙ c.requires.opening);
  back = c.requires.work;
  trail = refl;
}

pub visit-requires : goal.visit-requires
visit-requires c = c.loop-number.invariant.back.back ∙ sym c.loop-number.invariant.back.opening

pub tell-requires-clause-heap : goal.tell-requires-clause-heap
tell-requires-clause-heap c =
    c.in_ok-visit.ensures.heap ∙ ap (applied c.get-state.result.now.changes.items) c.loop-number.invariant.back.opening

pub tell-requires-clause-changes : goal.tell-requires-clause-changes
tell-requires-clause-changes c =
    subst (λ (o : List Value). AreChanges o c.get-state.result.now.changes.items) c.requires.opening c.get-state.ensures.changes

pub tell-requires-clause-opening : goal.tell-requires-clause-opening
tell-requires-clause-opening c = c.loop-number.invariant.over

pub tell-requires-clause-fit : goal.tell-requires-clause-fit
tell-requires-clause-fit c =
    let states = c.args.layer.now.states in
    let within : c.loop-number.number < length states = omega (arith, c.loop-number-test.true, c.len-number-end.ensures) in
    let one = c.get-state.ensures.one ∙ ap (λ (o : List Value). reached_of o c.get-state.result.now) c.requires.opening in
    let few = room_for_one c.args.self.now c.args.work.now.trail states c.loop-number.ends.states c.loop-number.number c.get-state.result.now within
    one c.loop-number.invariant.ends in
    omega (arith, few, c.orders-all.ensures, c.orders-all.type_inv)

pub loop-number-preserved : goal.loop-number-preserved
loop-number-preserved c =
    let states = c.args.layer.now.states in
    let one = c.get-state.ensures.one ∙ ap (λ (o : List Value). reached_of o c.get-state.result.now) c.requires.opening in
    let inv = c.loop-number.invariant in
    let visits = c.in_ok-visit.ensures in
    record {
      ends = ends_of_more c.args.self.now c.args.work.now.trail states c.loop-number.ends c.tell.new.ends c.loop-number.number c.get-state.result.now
          c.requires.layer (omega (arith, c.loop-number-test.true, c.len-number-end.ensures)) one inv.ends c.in_ok-tell.ensures;
      over = c.in_ok-tell.ensures.opening ∙ inv.over;
      back = record {
        opening = ap (λ (l : Layered). l.opening) visits.next ∙ inv.back.opening;
        back = visits.back ∙ inv.back.opening;
      };
      trail = visits.trail ∙ inv.trail;
    }

pub told-requires : goal.told-requires
told-requires c = λ k within.
    subst (λ (t : List (List ℕ)). (at c.loop-number.ends.states k).first < length t) (sym c.loop-number.invariant.trail)
    (c.loop-number.invariant.ends.are.each k within).good.first

pub returns-clause-told : goal.returns-clause-told
returns-clause-told c =
    let states = c.args.layer.now.states in
    let inv = c.loop-number.invariant in
    let all : c.loop-number.number ≡ length states = omega (arith, c.loop-number-test.false, c.len-number-end.ensures, c.loop-number.auto.number-end) in
    let whole : take c.loop-number.number states ≡ states = take_all c.loop-number.number states (omega arith) in (
      c.loop-number.ends.states,
      subst (λ (s : List Reached). AreEndsOfStates c.args.self.now c.args.work.now.trail s c.loop-number.ends.states) whole inv.ends,
      subst (λ (t : List (List ℕ)). map told_of c.in_ok-told.told.items ≡ map (as_told t) c.loop-number.ends.states) inv.trail c.in_ok-told.ensures,
    )

pub returns-clause-trail : goal.returns-clause-trail
returns-clause-trail c = c.loop-number.invariant.trail
