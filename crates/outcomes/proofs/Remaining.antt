-- The orders that the groups leave, and their number.
use Rattle.std.proofs.Common.{◌≡◌, ◌∙◌, ℕ, ◌+◌, ◌-◌, ◌*◌, ◌<◌, ◌≤◌, zero, suc, Bool, true, false, cond, List, [], ◌∷◌, ◌++◌}
use Rattle.std.proofs.Common.{length, map, Option, Some, None, nat_eq, inl, inr, ap, sym, refl, arith}
use Rattle.std.proofs.Common.{append-nil, length-append}
use Rattle.std.specs.Prelude.{slice_index}
use Rattle.std.proofs.Math.ListN.{length-set}
use Rattle.std.proofs.lemmas.Bool.{cases_eq}
use Rattle.std.proofs.lemmas.Bool.Decides.{Decides-eqb}
use Rattle.std.proofs.lemmas.List.{length-map}
use Rattle.std.proofs.lemmas.List.Sums.{sum_by-cons}
use Rattle.core_lang.specs.declared.typed.Typed.{Typed}
use Rattle.core_lang.specs.Serial.{Invocation}
use Rattle.core_lang.specs.WellFormed.{calls_together}
use Rattle.outcomes.specs.declared.search.Search.{Search}
use Rattle.outcomes.specs.declared.search.Work.{Work}
use Rattle.outcomes.specs.Orders.{next_call, one_more, none_done, orders, orders_of, begun_with, begun_by}
use Rattle.outcomes.specs.Ends.{Left}
use Rattle.outcomes.specs.Theory.Done.{sums, lengths, sums_set}
use Rattle.outcomes.specs.Working.States.{Reached}
use Rattle.outcomes.specs.Working.Searching.{order_at, sum_over, weight, total}
use Rattle.outcomes.specs.Working.Steps.{GoesOn, HasTooMany, WeighsAll, opening_state, start_of}
use Rattle.outcomes.specs.Working.Reducing.{or_this, first_ready, by_group, by_first, reduced_from, reduced_from_all}
use Rattle.outcomes.specs.Working.Reducing.{begun_in, begun_first, orders_left, grouped_orders, left_over, IsOneGroup}
use Rattle.outcomes.proofs.Full.{Within, fits, some_order, one_more_within}
use Rattle.outcomes.proofs.OrderParts.{begins}
use Rattle.outcomes.proofs.Covering.{ready_is, ready_there}

-- ---- the sum that counts them

zero_plus : (a : ℕ) → 0 + a ≡ a
zero_plus a = omega arith

long_begun : (t : ℕ) (orders : List (List ℕ)) → length (map (λ (o : List ℕ). t ∷ o) orders) ≡ length orders
long_begun t orders = rw length-map

one_thread : (program : Typed) (turns : ℕ) (groups : List ℕ) (n : ℕ) (done : List ℕ) (left : Left) (t : ℕ) (o : Option Invocation) →
    sum_over program turns (left_over program groups n) done left (begun_with o t (orders_of program 0 (one_more done t)))
    ≡ length (begun_with o t (orders_left program groups n (one_more done t)))
one_thread program turns groups n done left t None = refl
one_thread program turns groups n done left t (Some call) =
    let more = orders_left program groups n (one_more done t) in
    let long : length (map (λ (o : List ℕ). t ∷ o) more) ≡ length more = long_begun t more in
    zero_plus (length more) ∙ sym long

times_both : (k a b c : ℕ) → a ≡ b + c → k * a ≡ k * b + k * c
times_both k a b c is = ap (λ (y : ℕ). k * y) is ∙ omega arith

times_none : (k a : ℕ) → a ≡ 0 → 0 ≡ k * a
times_none k a none = sym (ap (λ (y : ℕ). k * y) none ∙ omega arith)

in_parts : (k x y : ℕ) (xs ys : List (List ℕ)) (b : Bool) → x ≡ k * length xs → y ≡ k * length ys →
    x + cond b y 0 ≡ k * length (xs ++ cond b ys [])
in_parts k x y xs ys true first second =
    let both = times_both k (length (xs ++ ys)) (length xs) (length ys) (length-append xs ys) in
    omega (arith, first, second, both)
in_parts k x y xs ys false first second =
    let all : k * length (xs ++ []) ≡ k * length xs = ap (λ (l : List (List ℕ)). k * length l) (append-nil xs) in
    omega (arith, first, all)

group_count : (search : Search) (groups : List ℕ) (group n : ℕ) (s : Reached) (count : ℕ) →
    by_group search groups group s count (left_over search.program.now groups n) 0
    ≡ s.orders * length (begun_in search.program.now groups group (orders_left search.program.now groups n) s.done count)
group_count search groups group n s zero = times_none s.orders 0 refl
group_count search groups group n s (suc t) =
    let program = search.program.now in
    in_parts s.orders _ _ _ _ (nat_eq (slice_index groups t) group) (group_count search groups group n s t)
    (ap (λ (k : ℕ). s.orders * k) (one_thread program search.turns groups n s.done s.left t (next_call program s.done t)))

first_count : (search : Search) (groups : List ℕ) (n : ℕ) (s : Reached) (o : Option ℕ) →
    by_first search groups s o (left_over search.program.now groups n) 0
    ≡ s.orders * length (begun_first search.program.now groups (orders_left search.program.now groups n) s.done o)
first_count search groups n s None = times_none s.orders 0 refl
first_count search groups n s (Some t) =
    group_count search groups (slice_index groups t) n s (length search.program.now.threads.items)

times_zero_plus : (k a : ℕ) → k * a ≡ k * (0 + a)
times_zero_plus k a = ap (λ (x : ℕ). k * x) (omega arith)

both_parts : (a b c d : ℕ) → a ≡ b → c ≡ d → a + c ≡ b + d
both_parts a b c d first second = omega arith

-- the growth from the states counts the orders that the groups leave to them
layer_count : (search : Search) (groups : List ℕ) (n : ℕ) (states : List Reached) →
    reduced_from_all search groups states (left_over search.program.now groups n) 0
    ≡ total search.program.now search.turns (left_over search.program.now groups (suc n)) 0 states
layer_count search groups n [] = refl
layer_count search groups n (s ∷ states) =
    let program = search.program.now in
    let f : Reached → ℕ = λ r. reduced_from search groups r (left_over program groups n) 0 in
    let g : Reached → ℕ = λ r. r.orders * sum_over program search.turns (left_over program groups (suc n)) r.done r.left (orders_of program 0 r.done) in
    sum_by-cons f s states
    ∙ both_parts _ _ _ _
    (first_count search groups n s (first_ready program s.done (length program.threads.items)) ∙ times_zero_plus s.orders _)
    (layer_count search groups n states)
    ∙ sym (sum_by-cons g s states)

-- ---- each state leaves one at least

begun_least : (program : Typed) (groups : List ℕ) (group : ℕ) (following : List ℕ → List (List ℕ)) (done : List ℕ) (count t : ℕ) → t < count →
    slice_index groups t ≡ group →
    length (begun_with (next_call program done t) t (following (one_more done t))) ≤ length (begun_in program groups group following done count)
begun_least program groups group following done zero t within same = absurd (omega (arith, within))
begun_least program groups group following done (suc c) t within same =
    let before = begun_in program groups group following done c in
    let last = begun_with (next_call program done c) c (following (one_more done c)) in
    let part = cond (nat_eq (slice_index groups c) group) last [] in
    let long : length (begun_in program groups group following done (suc c)) ≡ length before + length part = length-append before part in
    elim (cases_eq t c) [
      | inl here ↦ (
          let is : nat_eq (slice_index groups c) group ≡ true = (Decides-eqb (slice_index groups c) group).1 (ap (slice_index groups) (sym here) ∙ same) in
          let all : length part ≡ length last = ap (λ (b : Bool). length (cond b last [])) is in
          let own : length (begun_with (next_call program done t) t (following (one_more done t))) ≡ length last =
          ap (λ (x : ℕ). length (begun_with (next_call program done x) x (following (one_more done x)))) here in
          omega (arith, long, all, own))
      | inr other ↦ (
          let rest = begun_least program groups group following done c t (omega (arith, within, other)) same in
          omega (arith, long, rest))
    ]

-- a state from which calls are left leaves an order of them
left_some : (program : Typed) (groups : List ℕ) (n : ℕ) (done : List ℕ) → length done ≡ length program.threads.items →
    Within done (lengths program.threads.items) → sums done + n ≡ calls_together program.threads.items →
    1 ≤ length (orders_left program groups n done)
left_some program groups zero done long few sum = omega arith
left_some program groups (suc n) done long few sum =
    let count = length program.threads.items in
    let some = some_order program (suc n) done long few sum in
    let parts = begins program (orders_of program n) done count some.0 some.1 in
    let ready = ready_there program done count parts.thread parts.call parts.below parts.next in
    let first = ready_is program done count ready.0 ready.1 in
    let u = ready.0 in
    let inside : u < length done = omega (arith, first.1, long) in
    let more : sums (one_more done u) ≡ suc (sums done) = sums_set done u inside in
    let following = orders_left program groups n in
    let rest = left_some program groups n (one_more done u) (length-set done u _ ∙ long) (one_more_within program done u first.0 long first.2 few)
    (omega (arith, more, sum)) in
    let begun : length (begun_with (next_call program done u) u (following (one_more done u))) ≡ length (following (one_more done u)) =
    ap (λ (o : Option Invocation). length (begun_with o u (following (one_more done u)))) first.2
    ∙ long_begun u (following (one_more done u)) in
    let least = begun_least program groups (slice_index groups u) following done count u first.1 refl in
    let here : length (orders_left program groups (suc n) done) ≡ length (begun_in program groups (slice_index groups u) following done count) =
    ap (λ (o : Option ℕ). length (begun_first program groups following done o)) ready.1 in
    omega (arith, rest, begun, least, here)

left_weighs : (search : Search) (groups : List ℕ) (depth n : ℕ) → depth + n ≡ calls_together search.program.now.threads.items →
    WeighsAll search depth (left_over search.program.now groups n) 0
left_weighs search groups depth n all trail s good =
    let program = search.program.now in
    let fit = fits program search.turns (start_of search) (order_at trail s.first) s.done s.left good.leads in
    let some = left_some program groups n s.done fit.0 fit.1 (omega (arith, fit.2, good.long, all)) in
    let is : weight program search.turns (left_over program groups n) 0 s.done s.left ≡ length (orders_left program groups n s.done) =
    zero_plus (length (orders_left program groups n s.done)) in
    omega (arith, some, is)

-- ---- the layers of a search

abbrev pub CountsLeft : Search → List ℕ → ℕ → List Reached → Type 0
CountsLeft search groups depth states =
    (n : ℕ) → total search.program.now search.turns (left_over search.program.now groups n) 0 states
    ≡ length (orders_left search.program.now groups (depth + n) (none_done search.program.now))

one_state : (a : ℕ) → 0 + 1 * (0 + a) ≡ a
one_state a = omega arith

pub counts_first : (search : Search) (groups : List ℕ) (layer : List Reached) → layer ≡ opening_state search ∷ [] →
    CountsLeft search groups 0 layer
counts_first search groups layer is n =
    let program = search.program.now in
    ap (total program search.turns (left_over program groups n) 0) is
    ∙ one_state (length (orders_left program groups n (none_done program)))
    ∙ ap (λ (k : ℕ). length (orders_left program groups k (none_done program))) (omega arith)

pub counts_more : (search : Search) (groups : List ℕ) (old new : Work) (layer : List Reached) (depth : ℕ) →
    GoesOn search old new (reduced_from_all search groups layer) → old.next.states ≡ [] → CountsLeft search groups depth layer →
    CountsLeft search groups (depth + 1) new.next.states
counts_more search groups old new layer depth goes empty counts n =
    let program = search.program.now in
    let none : total program search.turns (left_over program groups n) 0 old.next.states ≡ 0 =
    ap (total program search.turns (left_over program groups n) 0) empty in
    let grown = goes.grows (left_over program groups n) 0 in
    let here = layer_count search groups n layer in
    let before = counts (suc n) in
    let place : length (orders_left program groups (depth + suc n) (none_done program)) ≡ length (orders_left program groups ((depth + 1) + n) (none_done program)) =
    ap (λ (k : ℕ). length (orders_left program groups k (none_done program))) (omega arith) in
    omega (arith, none, grown, here, before, place)

pub leaves_more : (search : Search) (groups : List ℕ) (old : Work) (layer : List Reached) (calls depth : ℕ) →
    HasTooMany search old (reduced_from_all search groups layer) → old.next.states ≡ [] → old.depth ≡ depth →
    depth < calls → calls ≡ calls_together search.program.now.threads.items → CountsLeft search groups depth layer →
    search.most < length (grouped_orders search.program.now groups)
leaves_more search groups old layer calls depth many empty deep below all counts =
    let program = search.program.now in
    let n = calls - (depth + 1) in
    let more = many (left_over program groups n) 0 (left_weighs search groups (suc old.depth) n (omega arith)) in
    let none : total program search.turns (left_over program groups n) 0 old.next.states ≡ 0 =
    ap (total program search.turns (left_over program groups n) 0) empty in
    let here = layer_count search groups n layer in
    let before = counts (suc n) in
    let whole : length (orders_left program groups (depth + suc n) (none_done program)) ≡ length (grouped_orders program groups) =
    ap (λ (k : ℕ). length (orders_left program groups k (none_done program))) (omega arith) in
    omega (arith, more, none, here, before, whole)

-- ---- one group

none_parts : (before : Option ℕ) (call : Option Invocation) (t : ℕ) → or_this before call t ≡ None → (before ≡ None) × (call ≡ None)
none_parts (Some u) call t none = cc
none_parts None (Some call) t none = cc
none_parts None None t none = (refl, refl)

none_begun : (program : Typed) (following : List ℕ → List (List ℕ)) (done : List ℕ) (count : ℕ) → first_ready program done count ≡ None →
    begun_by program following done count ≡ []
none_begun program following done zero none = refl
none_begun program following done (suc t) none =
    let parts = none_parts (first_ready program done t) (next_call program done t) t none in
    ap (λ (xs : List (List ℕ)). xs ++ begun_with (next_call program done t) t (following (one_more done t))) (none_begun program following done t parts.0)
    ∙ ap (λ (o : Option Invocation). [] ++ begun_with o t (following (one_more done t))) parts.1

same_begun : (program : Typed) (groups : List ℕ) (group : ℕ) (f g : List ℕ → List (List ℕ)) (done : List ℕ) (count : ℕ) →
    ((t : ℕ) → t < count → slice_index groups t ≡ group) → ((d : List ℕ) → f d ≡ g d) →
    begun_in program groups group f done count ≡ begun_by program g done count
same_begun program groups group f g done zero one same = refl
same_begun program groups group f g done (suc t) one same =
    let is : nat_eq (slice_index groups t) group ≡ true = (Decides-eqb (slice_index groups t) group).1 (one t (omega arith)) in
    ap (λ (xs : List (List ℕ)). xs ++ cond (nat_eq (slice_index groups t) group) (begun_with (next_call program done t) t (f (one_more done t))) [])
    (same_begun program groups group f g done t (λ u within. one u (omega (arith, within))) same)
    ∙ ap (λ (b : Bool). begun_by program g done t ++ cond b (begun_with (next_call program done t) t (f (one_more done t))) []) is
    ∙ ap (λ (os : List (List ℕ)). begun_by program g done t ++ begun_with (next_call program done t) t os) (same (one_more done t))

module _ (program : Typed) (groups : List ℕ) (long : length groups ≡ length program.threads.items) (one : IsOneGroup groups) where
  first_same : (f g : List ℕ → List (List ℕ)) (done : List ℕ) (o : Option ℕ) → ((d : List ℕ) → f d ≡ g d) →
      first_ready program done (length program.threads.items) ≡ o →
      begun_first program groups f done o ≡ begun_by program g done (length program.threads.items)
  first_same f g done None same ready = sym (none_begun program g done (length program.threads.items) ready)
  first_same f g done (Some u) same ready =
      let there = ready_is program done (length program.threads.items) u ready in
      same_begun program groups (slice_index groups u) f g done (length program.threads.items)
      (λ t within. one t u (omega (arith, within, long)) (omega (arith, there.1, long))) same

  orders_same : (n : ℕ) (done : List ℕ) → orders_left program groups n done ≡ orders_of program n done
  orders_same zero done = refl
  orders_same (suc n) done =
      first_same (orders_left program groups n) (orders_of program n) done (first_ready program done (length program.threads.items)) (λ d. orders_same n d) refl

  -- one group leaves all orders
  pub one_leaves_all : length (grouped_orders program groups) ≡ length (orders program)
  one_leaves_all = ap length (orders_same (calls_together program.threads.items) (none_done program))
