-- Ends, distinguished by what the request asks for.
use Rattle.std.proofs.Common.{◌≡◌, ◌∙◌, ℕ, ◌+◌, ◌*◌, ◌<◌, ◌≤◌, List, [], ◌∷◌, length, take, inl, inr}
use Rattle.std.proofs.Common.{sum_by, ap, sym, subst, refl, arith}
use Rattle.std.proofs.lemmas.List.Sums.{sum_by_more, sum_by_push, sum_by-cons, sum_by-set, sum_by-take-le}
use Rattle.core_lang.specs.WellFormed.{calls_together}
use Rattle.outcomes.specs.declared.search.Search.{Search}
use Rattle.outcomes.specs.declared.state.State.{State}
use Rattle.outcomes.specs.Ends.{Left, seen}
use Rattle.outcomes.specs.Working.States.{Layered, Reached, at, nowhere, with_more, orders_to}
use Rattle.outcomes.specs.Working.Trails.{IsLonger}
use Rattle.outcomes.specs.Working.Searching.{IsGood, AreGood}
use Rattle.outcomes.specs.Working.Steps.{IsEnd, AreEnds, AreEndsOfStates, Tells, IsKnown, IsNew, counted_in, start_of, state_in}
use Rattle.outcomes.proofs.Leading.{good_longer, good_more, set_apart, push_apart}

pub end_longer : (search : Search) (trail trail' : List (List ℕ)) (s : Reached) → IsLonger trail trail' →
    IsEnd search trail s → IsEnd search trail' s
end_longer search trail trail' s longer end =
    record {
      left = end.left;
      good = good_longer search.program.now search.turns (calls_together search.program.now.threads.items) (start_of search) trail trail'
          (record s { left = end.left }) longer end.good;
      seen_is = end.seen_is;
    }

pub end_more : (search : Search) (trail : List (List ℕ)) (s : Reached) (more : ℕ) →
    IsEnd search trail s → IsEnd search trail (with_more s more)
end_more search trail s more end =
    record {
      left = end.left;
      good = good_more search.program.now search.turns (calls_together search.program.now.threads.items) more (start_of search) trail
          (record s { left = end.left }) end.good;
      seen_is = end.seen_is;
    }

-- if all calls are done in a state, the part that the request asks for is an end
end_of_state : (search : Search) (trail : List (List ℕ)) (s : Reached) →
    IsGood search.program.now search.turns (calls_together search.program.now.threads.items) (start_of search) trail s →
    IsEnd search trail (record s { left = seen search.asked.now.cells s.left })
end_of_state search trail s good = record { left = s.left; good = good; seen_is = refl }

-- no states have no ends
pub no_ends : (search : Search) (trail : List (List ℕ)) (ends : List Reached) → ends ≡ [] → AreEndsOfStates search trail [] ends
no_ends search trail ends none =
    rw none (record {
      are = record { each = λ k within. absurd (omega arith); apart = λ j k below within alike. omega arith };
      counts = λ w. refl;
    })

times_more : (a b w : ℕ) → (a + b) * w ≡ a * w + b * w
times_more a b w = omega arith

after : (a b c d x y : ℕ) → a + b ≡ c + d → d ≡ b + x → x ≡ y → a ≡ c + y
after a b c d x y p q r = omega arith

counted_known : (w : Left → ℕ) (old new : List Reached) (s : Reached) (left : Left) → IsKnown old new s left →
    counted_in w new ≡ counted_in w old + s.orders * w left
counted_known w old new s left known =
    let g : Reached → ℕ = λ r. r.orders * w r.left in
    let r = at old known.number in
    let sums = sum_by-set g old known.number (with_more r s.orders) nowhere known.within in
    let same : s.orders * w r.left ≡ s.orders * w left = ap (λ (l : Left). s.orders * w l) known.alike.1 in
    ap (sum_by g) known.ends ∙ after _ _ _ _ _ _ sums (times_more r.orders s.orders (w r.left)) same

counted_new : (w : Left → ℕ) (old new : List Reached) (s : Reached) (left : Left) → IsNew old new s left →
    counted_in w new ≡ counted_in w old + s.orders * w left
counted_new w old new s left is =
    let g : Reached → ℕ = λ r. r.orders * w r.left in
    ap (sum_by g) is.ends ∙ sum_by_push g old (record s { left = left })

-- one more state
pub ends_of_more : (search : Search) (trail : List (List ℕ)) (layer : List Reached) (old new : Layered) (k : ℕ) (state : State) →
    AreGood search.program.now search.turns (calls_together search.program.now.threads.items) (start_of search) trail layer →
    k < length layer → at layer k ≡ state_in search state → AreEndsOfStates search trail (take k layer) old.states →
    Tells search old new state → AreEndsOfStates search trail (take (k + 1) layer) new.states
ends_of_more search trail layer old new k state good within is before tells =
    let cells = search.asked.now.cells in
    let s = state_in search state in
    let end = end_of_state search trail s (subst (IsGood search.program.now search.turns (calls_together search.program.now.threads.items) (start_of search) trail) is (good.each k within)) in
    record {
      are = elim tells.there [
        | inl known ↦ subst (AreEnds search trail) (sym known.ends)
            (set_apart (IsEnd search trail) old.states known.number s.orders (end_more search trail) before.are)
        | inr new ↦ subst (AreEnds search trail) (sym new.ends)
            (push_apart (IsEnd search trail) old.states (record s { left = seen cells s.left }) new.none end before.are)
      ];
      counts = λ w. (
          let g : Reached → ℕ = λ r. r.orders * w (seen cells r.left) in
          let more : counted_in w new.states ≡ counted_in w old.states + s.orders * w (seen cells s.left) =
          elim tells.there [
            | inl known ↦ counted_known w old.states new.states s (seen cells s.left) known
            | inr new_end ↦ counted_new w old.states new.states s (seen cells s.left) new_end
          ] in
          more ∙ ap (λ (x : ℕ). x + s.orders * w (seen cells s.left)) (before.counts w)
          ∙ sym (sum_by_more g layer k nowhere within ∙ ap (λ (r : Reached). sum_by g (take k layer) + g r) is));
    }

counted_once : (states : List Reached) → counted_in (λ (left : Left). 1) states ≡ orders_to states
counted_once [] = refl
counted_once (s ∷ states) =
    sum_by-cons (λ (r : Reached). r.orders * 1) s states ∙ ap (λ (x : ℕ). s.orders * 1 + x) (counted_once states)
    ∙ (let whole = sum_by-cons (λ (r : Reached). r.orders) s states in omega (arith, whole))

-- the number of orders counted so far is at most the number of those that lead to the states
pub room_for_one : (search : Search) (trail : List (List ℕ)) (layer ends : List Reached) (k : ℕ) (state : State) →
    k < length layer → at layer k ≡ state_in search state → AreEndsOfStates search trail (take k layer) ends →
    orders_to ends + state.orders ≤ orders_to layer
room_for_one search trail layer ends k state within is before =
    let count : Reached → ℕ = λ r. r.orders in
    let all : orders_to ends ≡ orders_to (take k layer) =
    sym (counted_once ends) ∙ before.counts (λ (left : Left). 1) ∙ counted_once (take k layer) in
    let next = sum_by_more count layer k nowhere within in
    let own : count (at layer k) ≡ state.orders = ap count is in
    let few = sum_by-take-le count layer (k + 1) in
    omega (arith, all, next, own, few)
