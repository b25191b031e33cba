-- Some orders stand for all.
use Rattle.std.proofs.Common.{◌≡◌, ◌∙◌, ◌≢◌, ℕ, ◌+◌, ◌-◌, ◌*◌, ◌<◌, ◌≤◌, zero, suc, Bool, true, false, cond, List, [], ◌∷◌, ◌++◌}
use Rattle.std.proofs.Common.{length, map, take, add-one, Option, Some, None, sum_by, nat_eq, ◌⊎◌, inl, inr, ap, sym, subst, refl, arith}
use Rattle.std.specs.Prelude.{slice_index}
use Rattle.std.specs.List.{Any, Contains}
use Rattle.std.proofs.lemmas.Bool.{cases_eq}
use Rattle.std.proofs.lemmas.Bool.Decides.{Decides-eqb}
use Rattle.std.proofs.lemmas.List.{get_or-map, get_or_default, length-map}
use Rattle.std.proofs.lemmas.List.Sums.{sum_by_more, sum_by-take-le, get_or-le-sum_by}
use Rattle.core_lang.specs.declared.typed.Typed.{Typed}
use Rattle.core_lang.specs.Laws.{OverIsWhole, SettledAreSerial, HaveAtMostOneSerial}
use Rattle.core_lang.specs.Serial.{Invocation, go_on, run_call, serial_with}
use Rattle.core_lang.specs.Whole.{Finished, Run, Over, Beyond_turns, Gone_astray}
use Rattle.core_lang.specs.WellFormed.{calls_together}
use Rattle.outcomes.specs.Commuting.{AreIndependent}
use Rattle.outcomes.specs.declared.outcome.Cells.{Cells}
use Rattle.outcomes.specs.declared.search.Search.{Search}
use Rattle.outcomes.specs.declared.search.Work.{Work}
use Rattle.outcomes.specs.Orders.{next_call, one_more, none_done, orders, orders_of, begun_with, calls_of}
use Rattle.outcomes.specs.Ends.{Left, Told, IsTold, AreEndsOfAll, left_by, end_from, answers_after, no_answers, opening_left, seen}
use Rattle.outcomes.specs.Working.States.{Reached, left_with, at, nowhere}
use Rattle.outcomes.specs.Working.Searching.{left_after, Leads, order_at, AreGood, weight, total, sum_over, Summand, as_told}
use Rattle.outcomes.specs.Working.Steps.{GoesOn, AreEndsOfStates, AreToldOfStates, opening_state, start_of, counted_in}
use Rattle.outcomes.specs.Working.Reducing.{or_this, first_ready, by_thread, by_group, by_first, reduced_from, reduced_from_all, IsCovered, Covers}
use Rattle.outcomes.proofs.Full.{fits}
use Rattle.outcomes.proofs.Going.{goes_again}
use Rattle.outcomes.proofs.Leading.{next_within}
use Rattle.outcomes.proofs.Sums.{sum_with, leads_end}
use Rattle.outcomes.proofs.Configurations.{passing, tested, total_here, none_pass, unsettled, ends_at, counts_are, counts_same, same_counts}
use Rattle.outcomes.proofs.Whole.{all_end, ends_apart, unsettled_end, ends_as, some_term, passed, both_true, same_left, left_is, left_same, both_left, settled_left}
use Rattle.outcomes.proofs.OrderParts.{begins, no_order, first_of_group, NoneIn}
use Rattle.outcomes.proofs.Commuted.{moved, heads}

-- ---- the first thread that has a call left

ready_parts : (before : Option ℕ) (call : Option Invocation) (t u : ℕ) → or_this before call t ≡ Some u →
    (before ≡ Some u) ⊎ ((c : Invocation) × (call ≡ Some c) × (u ≡ t))
ready_parts (Some v) call t u is = inl is
ready_parts None (Some c) t u is = inr (c, refl, cc)
ready_parts None None t u is = cc

pub ready_is : (program : Typed) (done : List ℕ) (count u : ℕ) → first_ready program done count ≡ Some u →
    (call : Invocation) × (u < count) × (next_call program done u ≡ Some call)
ready_is program done zero u is = cc
ready_is program done (suc t) u is =
    elim (ready_parts (first_ready program done t) (next_call program done t) t u is) [
      | inl before ↦ (let rest = ready_is program done t u before in (rest.0, (let w = rest.1 in omega (arith, w)), rest.2))
      | inr (c, next, same) ↦ (c, omega (arith, same), ap (next_call program done) same ∙ next)
    ]

some_ready : (before : Option ℕ) (call : Option Invocation) (t : ℕ) →
    ((u : ℕ) × (before ≡ Some u)) ⊎ ((c : Invocation) × (call ≡ Some c)) → (u : ℕ) × (or_this before call t ≡ Some u)
some_ready (Some v) call t some = (v, refl)
some_ready None (Some c) t some = (t, refl)
some_ready None None t (inl (u, is)) = cc
some_ready None None t (inr (c, is)) = cc

pub ready_there : (program : Typed) (done : List ℕ) (count t : ℕ) (call : Invocation) → t < count →
    next_call program done t ≡ Some call → (u : ℕ) × (first_ready program done count ≡ Some u)
ready_there program done zero t call within next = absurd (omega (arith, within))
ready_there program done (suc c) t call within next =
    some_ready (first_ready program done c) (next_call program done c) c (elim (cases_eq t c) [
      | inl same ↦ inr (call, ap (next_call program done) (sym same) ∙ next)
      | inr other ↦ inl (ready_there program done c t call (omega (arith, within, other)) next)
    ])

none_before : (before : Option ℕ) (call : Invocation) (t u : ℕ) → before ≡ None → or_this before (Some call) t ≡ Some t
none_before (Some v) call t u none = cc
none_before None call t u none = refl

some_before : (before : Option ℕ) (call : Option Invocation) (t u : ℕ) → before ≡ Some u → or_this before call t ≡ Some u
some_before (Some v) call t u is = is
some_before None call t u is = cc

-- the first thread with a call left stays the first among more threads
pub ready_stays : (program : Typed) (done : List ℕ) (count t : ℕ) (call : Invocation) → first_ready program done t ≡ None →
    next_call program done t ≡ Some call → t < count → first_ready program done count ≡ Some t
ready_stays program done zero t call none next within = absurd (omega (arith, within))
ready_stays program done (suc c) t call none next within =
    elim (cases_eq t c) [
      | inl same ↦ subst (λ (x : ℕ). or_this (first_ready program done x) (next_call program done x) x ≡ Some t) same
          (ap (λ (o : Option Invocation). or_this (first_ready program done t) o t) next ∙ none_before (first_ready program done t) call t t none)
      | inr other ↦ some_before (first_ready program done c) (next_call program done c) c t
          (ready_stays program done c t call none next (omega (arith, within, other)))
    ]

-- ---- sums

-- one more thread of the group
pub group_more : (search : Search) (groups : List ℕ) (group : ℕ) (s : Reached) (t : ℕ) (a b c : Work) →
    GoesOn search a b (by_group search groups group s t) → GoesOn search b c (by_thread search s t) → slice_index groups t ≡ group →
    GoesOn search a c (by_group search groups group s (t + 1))
group_more search groups group s t a b c first second same =
    let is : nat_eq (slice_index groups t) group ≡ true = (Decides-eqb (slice_index groups t) group).1 same in
    goes_again search a b c (by_group search groups group s t) (by_thread search s t) (by_group search groups group s (t + 1)) first second
    (λ f left. ap (λ (n : ℕ). by_group search groups group s n f left) (add-one t)
    ∙ ap (λ (b : Bool). by_group search groups group s t f left + cond b (by_thread search s t f left) 0) is)

true_or_false : (b : Bool) → (b ≡ true) ⊎ (b ≡ false)
true_or_false true = inl refl
true_or_false false = inr refl

not_same : (a b : ℕ) → a ≢ b → nat_eq a b ≡ false
not_same a b other = elim (true_or_false (nat_eq a b)) [ inl is ↦ absurd (other ((Decides-eqb a b).0 is)) | inr not ↦ not ]

plus_none : (a : ℕ) → a + 0 ≡ a
plus_none a = omega arith

-- a thread of another group
pub group_past : (search : Search) (groups : List ℕ) (group : ℕ) (s : Reached) (t : ℕ) (a b : Work) →
    GoesOn search a b (by_group search groups group s t) → slice_index groups t ≢ group → GoesOn search a b (by_group search groups group s (t + 1))
group_past search groups group s t a b first other =
    record {
      depth = first.depth;
      work = first.work;
      longer = first.longer;
      grown = first.grown;
      grows = λ f left. first.grows f left ∙ ap (λ (x : ℕ). total search.program.now search.turns f left a.next.states + x)
          (sym (ap (λ (n : ℕ). by_group search groups group s n f left) (add-one t)
          ∙ ap (λ (b : Bool). by_group search groups group s t f left + cond b (by_thread search s t f left) 0) (not_same (slice_index groups t) group other)
          ∙ plus_none (by_group search groups group s t f left)));
    }

-- the calls from one more state
pub groups_more : (search : Search) (groups : List ℕ) (states : List Reached) (k : ℕ) (s : Reached) (a b c : Work) → k < length states →
    at states k ≡ s → GoesOn search a b (reduced_from_all search groups (take k states)) → GoesOn search b c (reduced_from search groups s) →
    GoesOn search a c (reduced_from_all search groups (take (k + 1) states))
groups_more search groups states k s a b c within is first second =
    goes_again search a b c (reduced_from_all search groups (take k states)) (reduced_from search groups s) (reduced_from_all search groups (take (k + 1) states)) first second
    (λ f left. (let g : Reached → ℕ = λ r. reduced_from search groups r f left in
    sum_by_more g states k nowhere within ∙ ap (λ (r : Reached). sum_by g (take k states) + g r) is))

-- a thread of the group adds its part to the sum
group_least : (search : Search) (groups : List ℕ) (group : ℕ) (s : Reached) (count t : ℕ) (f : Summand) (left : ℕ) → t < count →
    slice_index groups t ≡ group → by_thread search s t f left ≤ by_group search groups group s count f left
group_least search groups group s zero t f left within same = absurd (omega (arith, within))
group_least search groups group s (suc c) t f left within same =
    elim (cases_eq t c) [
      | inl last ↦ (
          let is : nat_eq (slice_index groups c) group ≡ true = (Decides-eqb (slice_index groups c) group).1 (ap (slice_index groups) (sym last) ∙ same) in
          let own = ap (λ (b : Bool). by_group search groups group s c f left + cond b (by_thread search s c f left) 0) is in
          let here = ap (λ (x : ℕ). by_thread search s x f left) last in
          omega (arith, own, here))
      | inr other ↦ (let rest = group_least search groups group s c t f left (omega (arith, within, other)) same in omega (arith, rest))
    ]

zero_plus : (t : ℕ) → 0 + t ≡ t
zero_plus t = omega arith

-- the first threads of a group have no more orders than all
group_below : (search : Search) (groups : List ℕ) (group : ℕ) (s : Reached) (t more : ℕ) (f : Summand) (left : ℕ) →
    by_group search groups group s t f left ≤ by_group search groups group s (more + t) f left
group_below search groups group s t zero f left = rw zero_plus (omega arith)
group_below search groups group s t (suc more) f left =
    let rest = group_below search groups group s t more f left in
    let next : by_group search groups group s (suc (more + t)) f left
    ≡ by_group search groups group s (more + t) f left
    + cond (nat_eq (slice_index groups (more + t)) group) (by_thread search s (more + t) f left) 0 = refl in
    let place : suc (more + t) ≡ suc more + t = omega arith in
    let grown = ap (λ (c : ℕ). by_group search groups group s c f left) place in
    omega (arith, rest, next, grown)

pub group_all : (search : Search) (groups : List ℕ) (group : ℕ) (s : Reached) (t : ℕ) (f : Summand) (left : ℕ) →
    t < length search.program.now.threads.items → slice_index groups t ≡ group →
    by_group search groups group s t f left + by_thread search s t f left
    ≤ by_group search groups group s (length search.program.now.threads.items) f left
group_all search groups group s t f left within same =
    let count = length search.program.now.threads.items in
    let is : nat_eq (slice_index groups t) group ≡ true = (Decides-eqb (slice_index groups t) group).1 same in
    let own : by_group search groups group s (suc t) f left ≡ by_group search groups group s t f left + by_thread search s t f left =
    ap (λ (b : Bool). by_group search groups group s t f left + cond b (by_thread search s t f left) 0) is in
    let rest = group_below search groups group s (suc t) (count - suc t) f left in
    let place = ap (λ (k : ℕ). by_group search groups group s k f left) (let p : (count - suc t) + suc t ≡ count = omega arith in p) in
    omega (arith, own, rest, place)

-- the same among the threads of the first group that has a call left
pub first_all : (search : Search) (groups : List ℕ) (s : Reached) (u t : ℕ) (f : Summand) (left : ℕ) →
    first_ready search.program.now s.done (length search.program.now.threads.items) ≡ Some u →
    t < length search.program.now.threads.items → slice_index groups t ≡ slice_index groups u →
    by_group search groups (slice_index groups u) s t f left + by_thread search s t f left ≤ reduced_from search groups s f left
first_all search groups s u t f left first within same =
    let all = group_all search groups (slice_index groups u) s t f left within same in
    let here = ap (λ (o : Option ℕ). by_first search groups s o f left) first in
    omega (arith, all, here)

-- the first states have no more orders than all
pub groups_all : (search : Search) (groups : List ℕ) (states : List Reached) (k : ℕ) (s : Reached) (f : Summand) (left : ℕ) → k < length states →
    at states k ≡ s →
    reduced_from_all search groups (take k states) f left + reduced_from search groups s f left ≤ reduced_from_all search groups states f left
groups_all search groups states k s f left within is =
    let g : Reached → ℕ = λ r. reduced_from search groups r f left in
    let next : sum_by g (take (k + 1) states) ≡ sum_by g (take k states) + g s =
    sum_by_more g states k nowhere within ∙ ap (λ (r : Reached). sum_by g (take k states) + g r) is in
    let few = sum_by-take-le g states (k + 1) in
    omega (arith, next, few)

-- a state of the layer adds its part to the sum
layer_least : (search : Search) (groups : List ℕ) (layer : List Reached) (k u t : ℕ) (f : Summand) (left : ℕ) → k < length layer →
    first_ready search.program.now (at layer k).done (length search.program.now.threads.items) ≡ Some u →
    t < length search.program.now.threads.items → slice_index groups t ≡ slice_index groups u →
    by_thread search (at layer k) t f left ≤ reduced_from_all search groups layer f left
layer_least search groups layer k u t f left within first inside same =
    let one : reduced_from search groups (at layer k) f left ≤ reduced_from_all search groups layer f left =
    get_or-le-sum_by (λ (s : Reached). reduced_from search groups s f left) layer k nowhere within in
    let own : by_thread search (at layer k) t f left ≤ by_group search groups (slice_index groups u) (at layer k) (length search.program.now.threads.items) f left =
    group_least search groups (slice_index groups u) (at layer k) (length search.program.now.threads.items) t f left inside same in
    let here : reduced_from search groups (at layer k) f left ≡ by_group search groups (slice_index groups u) (at layer k) (length search.program.now.threads.items) f left =
    ap (λ (o : Option ℕ). by_first search groups (at layer k) o f left) first in
    omega (arith, one, own, here)

-- ---- the states that are reached

-- the call of a thread in a state leads to one of these states
record IsMade (search : Search) (states : List Reached) (s : Reached) (t : ℕ) (call : Invocation) : Type 0 where
  finished : Finished
  over : run_call search.program.now search.turns call s.left.cells ≡ Over finished
  number : ℕ
  within : number < length states
  some : 0 < (at states number).orders
  done : (at states number).done ≡ one_more s.done t
  left : (at states number).left ≡ left_after search.program.now s.done t finished s.left

more_than_none : (b : Bool) (k : ℕ) → 0 < cond b k 0 → 0 < k
more_than_none true k more = more
more_than_none false k more = absurd (omega (arith, more))

-- the orders that begin with a call that does not end have no end
stuck_sum : (program : Typed) (n : ℕ) (done : List ℕ) (left : Left) (t : ℕ) (call : Invocation) (r : Run) → next_call program done t ≡ Some call →
    run_call program n call left.cells ≡ r →
    left_by program done (t ∷ []) left.answers (go_on r left.cells (call ∷ calls_of program (one_more done t) [])
    (λ h. serial_with program n h (calls_of program (one_more done t) []))) ≡ None →
    sum_over program n (tested unsettled) done left (begun_with (next_call program done t) t (orders_of program 0 (one_more done t))) ≡ 1
unfolding tested unsettled unsettled_end
stuck_sum program n done left t call r next runs none =
    let end : end_from program n done left (t ∷ []) ≡ None =
    ap (λ (c : Option Invocation). left_by program done (t ∷ []) left.answers (serial_with program n left.cells (Rattle.std.specs.Option.option_to_list c ++ calls_of program (one_more done t) []))) next
    ∙ ap (λ (r : Run). left_by program done (t ∷ []) left.answers (go_on r left.cells (call ∷ calls_of program (one_more done t) []) (λ h. serial_with program n h (calls_of program (one_more done t) [])))) runs
    ∙ none in
    ap (λ (c : Option Invocation). sum_over program n (tested unsettled) done left (begun_with c t (orders_of program 0 (one_more done t)))) next
    ∙ ap (λ (o : Option Left). 0 + tested unsettled (one_more done t) o) end

times_one : (a b : ℕ) → b ≡ 1 → a * b ≡ a
times_one a b is = ap (λ (x : ℕ). a * x) is ∙ omega arith

not_stuck : (search : Search) (states : List Reached) (s : Reached) (t : ℕ) →
    0 < s.orders →
    sum_over search.program.now search.turns (tested unsettled) s.done s.left (begun_with (next_call search.program.now s.done t) t (orders_of search.program.now 0 (one_more s.done t))) ≡ 1 →
    by_thread search s t (tested unsettled) 0 ≤ total search.program.now search.turns (tested unsettled) 0 states → ⊥
unfolding unsettled unsettled_end
not_stuck search states s t some one least =
    let none : total search.program.now search.turns (tested unsettled) 0 states ≡ 0 =
    total_here search.program.now search.turns unsettled states ∙ none_pass unsettled states (λ d h. refl) in
    let own : by_thread search s t (tested unsettled) 0 ≡ s.orders = times_one s.orders _ one in
    omega (arith, none, own, least, some)

made_by_run : (search : Search) (states : List Reached) (s : Reached) (t : ℕ) (call : Invocation) (r : Run) → 0 < s.orders →
    next_call search.program.now s.done t ≡ Some call → run_call search.program.now search.turns call s.left.cells ≡ r →
    ((f : Summand) → by_thread search s t f 0 ≤ total search.program.now search.turns f 0 states) → IsMade search states s t call
unfolding passing ends_at ends_as
made_by_run search states s t call (Over finished) some next runs least =
    let program = search.program.now in
    let n = search.turns in
    let done = one_more s.done t in
    let left = left_after program s.done t finished s.left in
    let test = ends_at done left in
    let child : Reached = record { done = done; left = left; orders = s.orders; first = 0 } in
    let own : by_thread search s t (tested test) 0 ≡ s.orders * weight program n (tested test) 0 done left =
    ap (λ (x : ℕ). s.orders * x) (sum_with program n 0 (tested test) s.done s.left t call finished next runs) in
    let one : total program n (tested test) 0 (child ∷ []) ≡ sum_by (passing test) (child ∷ []) = total_here program n test (child ∷ []) in
    let passes : test done (Some left) ≡ true = ap (λ (b : Bool). cond b (ends_as left (Some left)) false) (counts_same done) ∙ left_same left in
    let mine : sum_by (passing test) (child ∷ []) ≡ 0 + s.orders = ap (λ (b : Bool). 0 + cond b s.orders 0) passes in
    let here = total_here program n test states in
    let most = least (tested test) in
    let term = some_term (passing test) states (omega (arith, own, one, mine, here, most, some)) in
    let e = term.1 in
    let both = both_true (same_counts e.done done) (same_left e.left left) (passed (test e.done (Some e.left)) e.orders term.4) in
    let is : at states term.0 ≡ e = get_or_default states term.0 nowhere e term.2 ∙ term.3 in
    record {
      finished = finished;
      over = runs;
      number = term.0;
      within = term.2;
      some = subst (λ (x : Reached). 0 < x.orders) (sym is) (more_than_none (test e.done (Some e.left)) e.orders term.4);
      done = ap (λ (x : Reached). x.done) is ∙ counts_are e.done done both.0;
      left = ap (λ (x : Reached). x.left) is ∙ left_is e.left left both.1;
    }
made_by_run search states s t call Beyond_turns some next runs least =
    absurd (not_stuck search states s t some (stuck_sum search.program.now search.turns s.done s.left t call Beyond_turns next runs refl) (least (tested unsettled)))
made_by_run search states s t call Gone_astray some next runs least =
    absurd (not_stuck search states s t some (stuck_sum search.program.now search.turns s.done s.left t call Gone_astray next runs refl) (least (tested unsettled)))

-- the calls of a group in a layer lead to the next layer
made_there : (search : Search) (groups : List ℕ) (old new : Work) (layer : List Reached) (k u t : ℕ) (call : Invocation) →
    GoesOn search old new (reduced_from_all search groups layer) → old.next.states ≡ [] → k < length layer → 0 < (at layer k).orders →
    first_ready search.program.now (at layer k).done (length search.program.now.threads.items) ≡ Some u →
    slice_index groups t ≡ slice_index groups u → next_call search.program.now (at layer k).done t ≡ Some call →
    IsMade search new.next.states (at layer k) t call
made_there search groups old new layer k u t call goes empty within some first same next =
    let program = search.program.now in
    let n = search.turns in
    let s = at layer k in
    let inside = next_within program s.done t call next in
    made_by_run search new.next.states s t call (run_call program n call s.left.cells) some next refl (λ f. (
    let none : total program n f 0 old.next.states ≡ 0 = ap (total program n f 0) empty in
    let grown = goes.grows f 0 in
    let least = layer_least search groups layer k u t f 0 within first inside same in
    omega (arith, none, grown, least)))

-- ---- every order

pub covers_first : (search : Search) (layer : List Reached) → layer ≡ opening_state search ∷ [] →
    Covers search (calls_together search.program.now.threads.items) layer
covers_first search layer is =
    subst (Covers search (calls_together search.program.now.threads.items)) (sym is) (λ order there. record {
      number = 0;
      within = omega arith;
      some = omega arith;
      rest = order;
      is_rest = there;
      leads = λ done' left' leads. leads;
    })

-- an order through a layer goes through the next layer
covers_one : (search : Search) (groups : List ℕ) (old new : Work) (trail : List (List ℕ)) (layer : List Reached) (depth left : ℕ) (order : List ℕ) →
    AreIndependent search.program.now groups → GoesOn search old new (reduced_from_all search groups layer) → old.next.states ≡ [] →
    AreGood search.program.now search.turns depth (start_of search) trail layer →
    depth + suc left ≡ calls_together search.program.now.threads.items →
    IsCovered search (suc left) layer order → IsCovered search left new.next.states order
covers_one search groups old new trail layer depth left order independent goes empty good all c =
    let program = search.program.now in
    let n = search.turns in
    let count = length program.threads.items in
    let s = at layer c.number in
    let is_good = good.each c.number c.within in
    let fit = fits program n (start_of search) (order_at trail s.first) s.done s.left is_good.leads in
    let long = is_good.long in
    let parts = begins program (orders_of program left) s.done count c.rest c.is_rest in
    let ready = ready_there program s.done count parts.thread parts.call parts.below parts.next in
    let first_is = ready_is program s.done count ready.0 ready.1 in
    let first = first_of_group program groups (suc left) s.done c.rest ready.0 first_is.0 c.is_rest fit.0 fit.1
    (omega (arith, fit.2, long, all)) first_is.2 in
    let there : Contains (orders_of program (suc left) s.done) (first.before ++ first.thread ∷ first.behind) =
    subst (Contains (orders_of program (suc left) s.done)) first.is c.is_rest in
    let none : NoneIn groups (slice_index groups first.thread) first.before =
    subst (λ (g : ℕ). NoneIn groups g first.before) (sym first.same) first.none in
    let early = moved program groups n independent (suc left) s.done first.before first.thread first.behind none there in
    let rest = first.before ++ first.behind in
    let now = begins program (orders_of program left) s.done count (first.thread ∷ rest) early.there in
    let same = heads first.thread now.thread rest now.rest now.is in
    let next : next_call program s.done first.thread ≡ Some now.call = ap (next_call program s.done) same.0 ∙ now.next in
    let made = made_there search groups old new layer c.number ready.0 first.thread now.call goes empty c.within c.some ready.1 first.same next in
    record {
      number = made.number;
      within = made.within;
      some = made.some;
      rest = rest;
      is_rest = subst (λ (d : List ℕ). Contains (orders_of program left d) rest) (sym made.done)
          (subst (λ (t : ℕ). Contains (orders_of program left (one_more s.done t)) rest) (sym same.0)
          (subst (Contains (orders_of program left (one_more s.done now.thread))) (sym same.1) now.there));
      leads = λ done' left' leads. c.leads done' left' (
          subst (λ (o : List ℕ). Leads program n s.done s.left o done' left') (sym first.is) (early.leads s.left done' left' (
            now.call,
            made.finished,
            next,
            made.over,
            subst (λ (d : List ℕ). Leads program n d (left_after program s.done first.thread made.finished s.left) rest done' left') made.done
                (subst (λ (l : Left). Leads program n (at new.next.states made.number).done l rest done' left') made.left leads),
          )));
    }

pub covers_more : (search : Search) (groups : List ℕ) (old new : Work) (trail : List (List ℕ)) (layer : List Reached) (depth left : ℕ) →
    AreIndependent search.program.now groups → GoesOn search old new (reduced_from_all search groups layer) → old.next.states ≡ [] →
    AreGood search.program.now search.turns depth (start_of search) trail layer →
    depth + suc left ≡ calls_together search.program.now.threads.items →
    Covers search (suc left) layer → Covers search left new.next.states
covers_more search groups old new trail layer depth left independent goes empty good all covers order there =
    covers_one search groups old new trail layer depth left order independent goes empty good all (covers order there)

-- ---- every end is reported

seen_as : Cells → Left → Left → ℕ
seen_as cells left other = cond (same_left other (seen cells left)) 1 0

term_passes : (b : Bool) (k : ℕ) → 0 < k * cond b 1 0 → b ≡ true
term_passes true k more = refl
term_passes false k more = absurd (omega (arith, more))

told_is : (search : Search) (trail : List (List ℕ)) (layer ends : List Reached) (order : List ℕ) →
    AreEndsOfStates search trail layer ends → IsCovered search 0 layer order →
    IsTold search.program.now search.turns search.asked.now (map (as_told trail) ends) order
unfolding seen_as
told_is search trail layer ends order are c =
    let program = search.program.now in
    let n = search.turns in
    let cells = search.asked.now.cells in
    let s = at layer c.number in
    let nothing : c.rest ≡ [] = no_order program s.done c.rest c.is_rest in
    let leads : Leads program n (none_done program) (start_of search) order s.done s.left =
    c.leads s.done s.left (subst (λ (o : List ℕ). Leads program n s.done s.left o s.done s.left) (sym nothing) (refl, refl)) in
    let w = seen_as cells s.left in
    let sum = are.counts w in
    let one : s.orders * w (seen cells s.left) ≤ counted_in (λ (left : Left). w (seen cells left)) layer =
    get_or-le-sum_by (λ (r : Reached). r.orders * w (seen cells r.left)) layer c.number nowhere c.within in
    let is : s.orders * w (seen cells s.left) ≡ s.orders * 1 =
    ap (λ (b : Bool). s.orders * cond b 1 0) (left_same (seen cells s.left)) in
    let some = c.some in
    let term = some_term (λ (r : Reached). r.orders * w r.left) ends (omega (arith, sum, one, is, some)) in
    let e = term.1 in
    let told = as_told trail e in
    record {
      left = s.left;
      end = leads_end program n (none_done program) (start_of search) order s.done s.left leads;
      there = (
        term.0,
        told,
        (let within = term.2 in rw length-map within),
        get_or-map (as_told trail) ends term.0 e told term.2 ∙ ap (as_told trail) term.3,
        left_is e.left (seen cells s.left) (term_passes (same_left e.left (seen cells s.left)) e.orders term.4),
      );
    }

pub are_ends_of_all : OverIsWhole → SettledAreSerial → HaveAtMostOneSerial →
    (search : Search) (trail : List (List ℕ)) (layer : List Reached) (told : List Told) →
    search.most < length (orders search.program.now) → Covers search 0 layer → AreToldOfStates search trail layer told →
    AreEndsOfAll search.program.now search.turns search.most search.asked.now told
are_ends_of_all law settled once search trail layer told more covers is =
    let program = search.program.now in
    let n = search.turns in
    let asked = search.asked.now in
    let ends = is.0 in
    subst (AreEndsOfAll program n search.most asked) (sym is.2) (record {
      more = more;
      each = all_end law search trail ends is.1.are;
      apart = ends_apart search trail ends is.1.are;
      settled = λ order there. told_is search trail layer ends order is.1 (covers order there);
      all = λ order left ended. (
          let t = told_is search trail layer ends order is.1 (covers order ended.is_order) in
          let same : t.left ≡ left =
          settled_left settled once program n (opening_left program asked.answers) (none_done program) order left.cells t.left ended.ends ended.serial t.end
          ∙ both_left (left_with left.cells (answers_after program (none_done program) order ended.ends (no_answers asked.answers program))) left refl (sym ended.answered) in
          subst (λ (l : Left). Any (λ (e : Told). e.left ≡ seen asked.cells l) (map (as_told trail) ends)) same t.there);
    })
