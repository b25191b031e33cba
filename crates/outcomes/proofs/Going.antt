-- The search, one piece of work after another.
use Rattle.std.proofs.Common.{◌≡◌, ◌∙◌, ℕ, ◌+◌, ◌-◌, ◌*◌, ◌<◌, ◌≤◌, zero, suc, List, [], ◌∷◌, ◌++◌, length, take, Some, ◌⊎◌}
use Rattle.std.proofs.Common.{None, inl, inr, sum_by, ap, sym, subst, refl, arith, append-nil, add-one, length-append}
use Rattle.std.proofs.Math.ListN.{length-set}
use Rattle.std.proofs.lemmas.List.Sums.{sum_by_more, sum_by-cons, sum_by-take-le, get_or-le-sum_by}
use Rattle.core_lang.specs.declared.value.Value.{Value}
use Rattle.core_lang.specs.declared.value.Outcome.{Outcome}
use Rattle.core_lang.specs.declared.typed.Typed.{Typed}
use Rattle.core_lang.specs.Serial.{Invocation}
use Rattle.core_lang.specs.Typing.{HasCells, IsHeap}
use Rattle.core_lang.specs.WellFormed.{calls_together}
use Rattle.outcomes.specs.declared.search.Search.{Search}
use Rattle.outcomes.specs.declared.search.EarlyEnd.{EarlyEnd}
use Rattle.outcomes.specs.declared.search.EarlyEnd.TheVariants.{TooMany, Beyond}
use Rattle.outcomes.specs.declared.search.Work.{Work}
use Rattle.outcomes.specs.declared.state.State.{State}
use Rattle.outcomes.specs.Orders.{next_call, one_more, orders_of}
use Rattle.outcomes.specs.Ends.{Left, answered}
use Rattle.outcomes.specs.Working.States.{Layered, Reached, left_with, at, nowhere, with_more, orders_to}
use Rattle.outcomes.specs.Working.Trails.{longer}
use Rattle.outcomes.specs.Working.Searching.{left_after, order_at, IsGood, AreGood, weight, total, Summand, IsFound, IsAdded}
use Rattle.outcomes.specs.Working.Steps.{IsOver, IsBack, Visits, IsAtWork, state_in, IsReached, Growth, made_by, made_below, made_from}
use Rattle.outcomes.specs.Working.Steps.{made_from_all, GoesOn, IsStop, HasTooMany, WeighsAll, one, start_of}
use Rattle.outcomes.proofs.Sums.{sum_with, sum_without, sum_more, total_found, total_added, orders_found, orders_added}
use Rattle.outcomes.proofs.Full.{has_order}
use Rattle.outcomes.proofs.Leading.{good_longer, longer_again, good_child, good_found, good_added}

in_all : (a b c g h s : ℕ) → b ≡ a + g → c ≡ b + h → s ≡ g + h → c ≡ a + s
in_all a b c g h s first second sum = omega arith

with_none : (a g : ℕ) → g ≡ 0 → a ≡ a + g
with_none a g none = omega arith

times_none : (k x : ℕ) → x ≡ 0 → k * x ≡ 0
times_none k x none = ap (λ (y : ℕ). k * y) none ∙ omega arith

times_both : (k a b c : ℕ) → a ≡ b + c → k * a ≡ k * b + k * c
times_both k a b c is = ap (λ (y : ℕ). k * y) is ∙ omega arith

-- two pieces of work, one after the other
pub goes_again : (search : Search) (a b c : Work) (g h both : Growth) → GoesOn search a b g → GoesOn search b c h →
    ((f : Summand) (left : ℕ) → both f left ≡ g f left + h f left) → GoesOn search a c both
goes_again search a b c g h both first second sum =
    record {
      depth = second.depth ∙ first.depth;
      work = second.work;
      longer = longer_again a.trail b.trail c.trail first.longer second.longer;
      grown = (let f = first.grown in let s = second.grown in omega arith);
      grows = λ f left. in_all _ _ _ _ _ _ (first.grows f left) (second.grows f left) (sum f left);
    }

-- no work
pub goes_nowhere : (search : Search) (a : Work) (g : Growth) → IsAtWork search a →
    ((f : Summand) (left : ℕ) → g f left ≡ 0) → GoesOn search a a g
goes_nowhere search a g work none =
    record {
      depth = refl;
      work = work;
      longer = ([], sym (append-nil a.trail));
      grown = refl;
      grows = λ f left. with_none _ _ (none f left);
    }

-- the heap was brought to the state
pub goes_visited : (search : Search) (old mid : Work) (state : State) (g : Growth) → Visits old mid state → IsAtWork search old →
    ((f : Summand) (left : ℕ) → g f left ≡ 0) → GoesOn search old mid g
goes_visited search old mid state g visits work none =
    let program = search.program.now in
    let states : mid.next.states ≡ old.next.states = ap (λ (l : Layered). l.states) visits.next in
    record {
      depth = visits.depth;
      work = record {
        back = record {
          opening = ap (λ (l : Layered). l.opening) visits.next ∙ work.back.opening;
          back = visits.back ∙ work.back.opening;
        };
        few = (let same : orders_to mid.next.states ≡ orders_to old.next.states = ap orders_to states in let few = work.few in omega (arith, same, few));
        states = subst (λ (d : ℕ). AreGood program search.turns (suc d) (start_of search) mid.trail mid.next.states) (sym visits.depth)
            (subst (λ (t : List (List ℕ)). AreGood program search.turns (suc old.depth) (start_of search) t mid.next.states) (sym visits.trail)
            (subst (AreGood program search.turns (suc old.depth) (start_of search) old.trail) (sym states) work.states));
      };
      longer = ([], visits.trail ∙ sym (append-nil old.trail));
      grown = (let t : length mid.trail ≡ length old.trail = ap length visits.trail in let n : length mid.next.states ≡ length old.next.states = ap length states in omega (arith, t, n));
      grows = λ f left. ap (total program search.turns f left) states ∙ with_none _ _ (none f left);
    }

-- no thread is left to try
pub made_none : (search : Search) (from : State) (f : Summand) (left : ℕ) → made_below search from 0 f left ≡ 0
made_none search from f left = times_none from.orders _ refl

-- a state of the earlier layer stays one
pub reached_still : (search : Search) (a b : Work) (g : Growth) (from : State) → GoesOn search a b g →
    IsReached search a from → IsReached search b from
reached_still search a b g from goes reached =
    subst (λ (d : ℕ). IsGood search.program.now search.turns d (start_of search) b.trail (state_in search from)) (sym goes.depth)
    (good_longer search.program.now search.turns a.depth (start_of search) a.trail b.trail (state_in search from) goes.longer reached)

grown_found : (old new : List Reached) (trail trail' : List (List ℕ)) (done : List ℕ) (heap : Left) (more : ℕ) →
    IsFound old new trail trail' done heap more →
    length trail' + length old ≡ length trail + length new
grown_found old new trail trail' done heap more found =
    let states : length new ≡ length old = ap length found.states ∙ length-set old found.number (with_more (at old found.number) more) in
    let orders : length trail' ≡ length trail = ap length found.trail_is in
    omega arith

grown_added : (old new : List Reached) (trail trail' : List (List ℕ)) (done : List ℕ) (heap : Left) (more from thread : ℕ) →
    IsAdded old new trail trail' done heap more from thread → length trail' + length old ≡ length trail + length new
grown_added old new trail trail' done heap more from thread added =
    let s : Reached = record { done = done; left = heap; orders = more; first = length trail } in
    let states : length new ≡ length old + 1 = ap length added.states ∙ length-append old (s ∷ []) in
    let orders : length trail' ≡ length trail + 1 = ap length added.trail_is ∙ length-append trail (longer trail from thread ∷ []) in
    omega arith

-- the work after a call that is over, whose state is added to the layer
pub goes_step : (search : Search) (old new : Work) (cells : List Value) (from : State) (t : ℕ) (call : Invocation) (outcome : Outcome) →
    IsAtWork search old → IsReached search old from → next_call search.program.now from.done.items t ≡ Some call →
    IsOver search.program.now search.turns call (state_in search from).left.cells cells outcome →
    new.depth ≡ old.depth → IsBack search new → orders_to old.next.states + from.orders ≤ search.most →
    (IsFound old.next.states new.next.states old.trail new.trail (one_more from.done.items t)
    (left_with cells (answered search.program.now from.done.items t outcome from.answers.items)) from.orders
    ⊎ IsAdded old.next.states new.next.states old.trail new.trail (one_more from.done.items t)
    (left_with cells (answered search.program.now from.done.items t outcome from.answers.items)) from.orders from.first t) →
    GoesOn search old new (made_by search from t)
goes_step search old new cells from t call outcome work reached next over deep back room put =
    let program = search.program.now in
    let n = search.turns in
    let start = start_of search in
    let heap : Left = left_with cells (answered program from.done.items t outcome from.answers.items) in
    let heap_is : heap ≡ left_after program from.done.items t over.finished (state_in search from).left =
    ap (λ (c : List Value). left_with c (answered program from.done.items t outcome from.answers.items)) over.heap_is
    ∙ ap (λ (o : Outcome). left_with over.finished.heap (answered program from.done.items t o from.answers.items)) over.outcome_is in
    let made : Reached = record { done = one_more from.done.items t; left = heap; orders = from.orders; first = length old.trail } in
    let child : (trail' : List (List ℕ)) → trail' ≡ old.trail ++ longer old.trail from.first t ∷ [] → IsGood program n (suc old.depth) start trail' made =
    λ trail' is. subst (λ (h : Left). IsGood program n (suc old.depth) start trail' (record { done = one_more from.done.items t; left = h; orders = from.orders; first = length old.trail })) (sym heap_is)
    (good_child program n old.depth start old.trail trail' (state_in search from) t call over.finished from.orders reached next over.over
    (subst (HasCells program) over.heap_is over.there) (subst (IsHeap program) over.heap_is over.typed) is) in
    let leads : (f : Summand) (left : ℕ) →
    from.orders * weight program n f left (one_more from.done.items t) heap ≡ made_by search from t f left =
    λ f left. ap (λ (x : ℕ). from.orders * x)
    (ap (weight program n f left (one_more from.done.items t)) heap_is
    ∙ sym (sum_with program n left f from.done.items (state_in search from).left t call over.finished next over.over)) in
    let sum : orders_to new.next.states ≡ orders_to old.next.states + from.orders = elim put [
      | inl found ↦ orders_found old.next.states new.next.states old.trail new.trail (one_more from.done.items t) heap from.orders found
      | inr added ↦ orders_added old.next.states new.next.states old.trail new.trail (one_more from.done.items t) heap from.orders from.first t added
    ] in
    record {
      depth = deep;
      work = record {
        back = back;
        few = omega (arith, sum, room);
        states = subst (λ (d : ℕ). AreGood program n (suc d) start new.trail new.next.states) (sym deep) (elim put [
          | inl found ↦ good_found program n (suc old.depth) start old.trail new.trail old.next.states new.next.states (one_more from.done.items t) heap from.orders found work.states
          | inr added ↦ good_added program n (suc old.depth) start old.trail new.trail old.next.states new.next.states (one_more from.done.items t) heap from.orders from.first t added
              (child new.trail added.trail_is) work.states
        ]);
      };
      longer = elim put [
        | inl found ↦ ([], found.trail_is ∙ sym (append-nil old.trail))
        | inr added ↦ (longer old.trail from.first t ∷ [], added.trail_is)
      ];
      grown = elim put [
        | inl found ↦ grown_found old.next.states new.next.states old.trail new.trail (one_more from.done.items t) heap from.orders found
        | inr added ↦ grown_added old.next.states new.next.states old.trail new.trail (one_more from.done.items t) heap from.orders from.first t added
      ];
      grows = λ f left. elim put [
        | inl found ↦ total_found (weight program n f left) old.next.states new.next.states old.trail new.trail (one_more from.done.items t) heap from.orders found
            ∙ ap (λ (x : ℕ). total program n f left old.next.states + x) (leads f left)
        | inr added ↦ total_added (weight program n f left) old.next.states new.next.states old.trail new.trail (one_more from.done.items t) heap from.orders from.first t added
            ∙ ap (λ (x : ℕ). total program n f left old.next.states + x) (leads f left)
      ];
    }

-- the thread has no call left
pub goes_past : (search : Search) (work : Work) (from : State) (t : ℕ) → IsAtWork search work →
    next_call search.program.now from.done.items t ≡ None →
    GoesOn search work work (made_by search from t)
goes_past search work from t at_work none =
    goes_nowhere search work (made_by search from t) at_work
    (λ f left. times_none from.orders _ (sum_without search.program.now search.turns left f from.done.items (state_in search from).left t none))

-- one thread further
pub below_more : (search : Search) (from : State) (t : ℕ) (f : Summand) (left : ℕ) →
    made_below search from (t + 1) f left ≡ made_below search from t f left + made_by search from t f left
below_more search from t f left =
    ap (λ (c : ℕ). made_below search from c f left) (add-one t)
    ∙ times_both from.orders _ _ _ (sum_more search.program.now search.turns left f from.done.items (state_in search from).left t)

-- one state further
pub all_more : (search : Search) (states : List Reached) (k : ℕ) (from : State) → k < length states →
    at states k ≡ state_in search from →
    (f : Summand) (left : ℕ) →
    made_from_all search (take (k + 1) states) f left ≡ made_from_all search (take k states) f left + made_from search from f left
all_more search states k from within is f left =
    let g : Reached → ℕ = λ s. s.orders * weight search.program.now search.turns f (suc left) s.done s.left in
    sum_by_more g states k nowhere within ∙ ap (λ (s : Reached). sum_by g (take k states) + g s) is

-- ---- more orders than the limit

times_least : (a w : ℕ) → 1 ≤ w → a ≤ a * w
times_least a zero some = absurd (omega arith)
times_least a (suc w) some = omega arith

-- a good state has at least one order
pub weighs : (program : Typed) (n depth left : ℕ) (start : Left) (trail : List (List ℕ)) (s : Reached) → IsGood program n depth start trail s →
    depth + left ≡ calls_together program.threads.items →
    1 ≤ weight program n one left s.done s.left
weighs program n depth left start trail s good all =
    let there = has_order program n left start (order_at trail s.first) s.done s.left good.leads (ap (λ (k : ℕ). k + left) good.long ∙ all) in
    get_or-le-sum_by (λ (o : List ℕ). 1) (orders_of program left s.done) there.1.0 there.0 there.1.1

both_least : (a b c d : ℕ) → a ≤ b → c ≤ d → a + c ≤ b + d
both_least a b c d first second = omega arith

sum_least : (w : Reached → ℕ) (states : List Reached) → ((k : ℕ) → k < length states → 1 ≤ w (at states k)) →
    orders_to states ≤ sum_by (λ (s : Reached). s.orders * w s) states
sum_least w [] each = omega arith
sum_least w (s ∷ states) each =
    rw (sum_by-cons (λ (s : Reached). s.orders) s states, sum_by-cons (λ (s : Reached). s.orders * w s) s states)
    (both_least _ _ _ _ (times_least s.orders (w s) (each 0 (omega arith))) (sum_least w states (λ k within. each (suc k) (omega arith))))

in_parts : (m a b x y z : ℕ) → m < a + b → a ≤ x → b ≤ y → z ≡ y → m < x + z
in_parts m a b x y z many first second same = omega arith

pub many_at_step : (search : Search) (old : Work) (cells : List Value) (from : State) (t : ℕ) (call : Invocation) (outcome : Outcome) →
    IsAtWork search old → IsReached search old from → next_call search.program.now from.done.items t ≡ Some call →
    IsOver search.program.now search.turns call (state_in search from).left.cells cells outcome → search.most < orders_to old.next.states + from.orders → HasTooMany search old (made_by search from t)
many_at_step search old cells from t call outcome work reached next over many f left weighty =
    let program = search.program.now in
    let n = search.turns in
    let trail' = old.trail ++ longer old.trail from.first t ∷ [] in
    let start = start_of search in
    let child = good_child program n old.depth start old.trail trail' (state_in search from) t call over.finished from.orders reached next over.over
    (subst (HasCells program) over.heap_is over.there) (subst (IsHeap program) over.heap_is over.typed) refl in
    let here : 1 ≤ weight program n f left (one_more from.done.items t) (left_after program from.done.items t over.finished (state_in search from).left) = weighty trail' _ child in
    let leads : made_by search from t f left ≡ from.orders * weight program n f left (one_more from.done.items t) (left_after program from.done.items t over.finished (state_in search from).left) =
    ap (λ (x : ℕ). from.orders * x) (sum_with program n left f from.done.items (state_in search from).left t call over.finished next over.over) in
    let own : from.orders ≤ from.orders * weight program n f left (one_more from.done.items t) (left_after program from.done.items t over.finished (state_in search from).left) = times_least from.orders _ here in
    let others : orders_to old.next.states ≤ total program n f left old.next.states =
    sum_least (λ (s : Reached). weight program n f left s.done s.left) old.next.states
    (λ k within. weighty old.trail (at old.next.states k) (work.states.each k within)) in
    in_parts _ _ _ _ _ _ many others own leads

in_whole : (m a b c g w : ℕ) → m < a + g → a ≡ b + c → c + g ≤ w → m < b + w
in_whole m a b c g w many is few = omega arith

-- a stop after some work
pub stop_further : (search : Search) (old mid new : Work) (before g whole : Growth) (stop : EarlyEnd) →
    GoesOn search old mid before →
    ((f : Summand) (left : ℕ) → before f left + g f left ≤ whole f left) → IsStop search mid new g stop → IsStop search old new whole stop
stop_further search old mid new before g whole TooMany goes most is =
    λ f left weighty. in_whole _ _ _ _ _ _
    (is f left (subst (λ (d : ℕ). WeighsAll search (suc d) f left) (sym goes.depth) weighty)) (goes.grows f left) (most f left)
stop_further search old mid new before g whole (Beyond first thread) goes most is = is

zero_plus : (t : ℕ) → 0 + t ≡ t
zero_plus t = omega arith

-- the first threads have no more orders than all threads
below_least : (search : Search) (from : State) (t : ℕ) (f : Summand) (left more : ℕ) →
    made_below search from t f left ≤ made_below search from (more + t) f left
below_least search from t f left zero = rw zero_plus (omega arith)
below_least search from t f left (suc more) =
    let rest = below_least search from t f left more in
    let next = below_more search from (more + t) f left in
    let place : (more + t) + 1 ≡ suc more + t = omega arith in
    let grown = ap (λ (c : ℕ). made_below search from c f left) place in
    omega (arith, rest, next, grown)

pub below_all : (search : Search) (from : State) (t : ℕ) (f : Summand) (left : ℕ) → t < length search.program.now.threads.items →
    made_below search from t f left + made_by search from t f left ≤ made_from search from f left
below_all search from t f left within =
    let count = length search.program.now.threads.items in
    let least = below_least search from (t + 1) f left (count - (t + 1)) in
    let place : (count - (t + 1)) + (t + 1) ≡ count = omega arith in
    let whole = ap (λ (c : ℕ). made_below search from c f left) place in
    let next = below_more search from t f left in
    omega (arith, least, whole, next)

pub states_all : (search : Search) (states : List Reached) (k : ℕ) (from : State) (f : Summand) (left : ℕ) → k < length states →
    at states k ≡ state_in search from →
    made_from_all search (take k states) f left + made_from search from f left ≤ made_from_all search states f left
states_all search states k from f left within is =
    let next = all_more search states k from within is f left in
    let few = sum_by-take-le (λ (s : Reached). s.orders * weight search.program.now search.turns f (suc left) s.done s.left) states (k + 1) in
    omega (arith, next, few)
