-- The search from its begin to its end.
use Rattle.std.proofs.Common.{◌≡◌, ◌∙◌, ◌≢◌, ℕ, ◌+◌, ◌-◌, ◌*◌, ◌<◌, ◌≤◌, zero, suc, Bool, true, false, cond, List, [], ◌∷◌}
use Rattle.std.proofs.Common.{◌++◌, length, map, get_or, Option, Some, None, sum_by, nat_eq, ap, sym, subst, refl}
use Rattle.std.proofs.Common.{arith, ◌⊎◌, inl, inr, append-nil}
use Rattle.std.proofs.lemmas.Bool.Decides.{Decides-eqb}
use Rattle.std.specs.List.{All, AllPairs, Any, Contains, count_by}
use Rattle.std.proofs.lemmas.List.{get_or-map, length-map, length-replicate}
use Rattle.std.proofs.lemmas.List.Sums.{sum_by-cons, get_or-le-sum_by}
use Rattle.core_lang.specs.declared.value.Value.{Value}
use Rattle.core_lang.specs.declared.value.Outcome.{Outcome}
use Rattle.core_lang.specs.declared.value.Outcome.TheVariants.{Ends, Returns, Traps}
use Rattle.core_lang.specs.declared.value.Trap.{Trap}
use Rattle.core_lang.specs.declared.value.Trap.TheVariants.{NullBase, OutOfRange, Overflow, ZeroDivisor, NotOwned, TooManyPrints}
use Rattle.core_lang.specs.Traps.{trap_number}
use Rattle.core_lang.specs.declared.typed.Typed.{Typed}
use Rattle.core_lang.specs.Laws.{OverIsWhole, SettledAreSerial, HaveAtMostOneSerial}
use Rattle.core_lang.specs.Serial.{Invocation, Ended, Serial, serial_with}
use Rattle.core_lang.specs.WellFormed.{IsChecked, calls_together}
use Rattle.outcomes.specs.declared.search.Search.{Search}
use Rattle.outcomes.specs.declared.search.Work.{Work}
use Rattle.outcomes.specs.Orders.{next_call, none_done, orders, orders_of, calls_of}
use Rattle.outcomes.specs.Ends.{Left, EndsIn, IsEndOf, left_if_settled, end_from, end_in, Told, told_count, AreAllEnds, StopsAfter}
use Rattle.outcomes.specs.Ends.{opening_left, no_answers, answers_after, seen}
use Rattle.outcomes.specs.declared.outcome.Asked.{Asked}
use Rattle.outcomes.specs.declared.outcome.Cells.{Cells}
use Rattle.std.specs.Option.{option_map}
use Rattle.outcomes.specs.Working.Changes.{same_value}
use Rattle.outcomes.specs.Working.States.{Reached, left_with, at, nowhere, orders_to}
use Rattle.outcomes.specs.Working.Searching.{order_at, IsGood, AreGood, weight, total, as_told, Summand}
use Rattle.outcomes.specs.Working.Steps.{GoesOn, Growth, made_from_all, opening_state, IsBeyond, HasTooMany, one}
use Rattle.outcomes.specs.Working.Steps.{start_of, IsEnd, AreEnds, AreEndsOfStates, AreToldOfStates}
use Rattle.outcomes.proofs.ChangeLemmas.{value_is, value_same}
use Rattle.outcomes.proofs.Leading.{leads_in_order, leads_serially, leads_made}
use Rattle.outcomes.proofs.Full.{full, leads_done}
use Rattle.outcomes.proofs.Going.{weighs}
use Rattle.outcomes.specs.Theory.Done.{lengths}

-- ---- the beginning

good_opening : (search : Search) → IsChecked search.program.now →
    IsGood search.program.now search.turns 0 (start_of search) ([] ∷ []) (opening_state search)
good_opening search checked =
    record {
      threads = length-replicate (length search.program.now.threads.items) 0;
      cells = length-map _ _;
      typed = checked.opens;
      first = omega arith;
      long = refl;
      leads = (refl, refl);
    }

first_good : (search : Search) (k : ℕ) → IsChecked search.program.now → k < 1 →
    IsGood search.program.now search.turns 0 (start_of search) ([] ∷ []) (at (opening_state search ∷ []) k)
first_good search zero checked within = good_opening search checked
first_good search (suc k) checked within = absurd (omega arith)

pub good_at_first : (search : Search) (trail : List (List ℕ)) (layer : List Reached) → IsChecked search.program.now →
    trail ≡ [] ∷ [] → layer ≡ opening_state search ∷ [] →
    AreGood search.program.now search.turns 0 (start_of search) trail layer
good_at_first search trail layer checked trail_is layer_is =
    rw (trail_is, layer_is) (record {
      each = λ k within. first_good search k checked within;
      apart = λ j k below within alike. omega arith;
    })

once : (w : ℕ) → 0 + 1 * w ≡ w
once w = omega arith

none_made : (k : ℕ) → k ≡ 0 + k
none_made k = omega arith

pub sums_at_first : (search : Search) (layer : List Reached) → layer ≡ opening_state search ∷ [] →
    (f : Summand) (left : ℕ) →
    total search.program.now search.turns f left layer
    ≡ weight search.program.now search.turns f (0 + left) (none_done search.program.now) (start_of search)
sums_at_first search layer layer_is f left =
    let program = search.program.now in
    let n = search.turns in
    ap (total program n f left) layer_is ∙ once (weight program n f left (none_done program) (start_of search))
    ∙ ap (λ (k : ℕ). weight program n f k (none_done program) (start_of search)) (none_made left)

-- ---- one more layer

one_left : (calls depth : ℕ) → depth < calls → suc (calls - (depth + 1)) ≡ calls - depth
one_left calls depth below = omega arith

from_nothing : (a b c : ℕ) → a ≡ b + c → b ≡ 0 → a ≡ c
from_nothing a b c is none = omega arith

one_made : (depth left : ℕ) → depth + suc left ≡ depth + 1 + left
one_made depth left = omega arith

pub sums_of_more : (search : Search) (old new : Work) (layer : List Reached) (depth : ℕ) →
    GoesOn search old new (made_from_all search layer) → old.next.states ≡ [] →
    ((f : Summand) (left : ℕ) → total search.program.now search.turns f left layer
    ≡ weight search.program.now search.turns f (depth + left) (none_done search.program.now) (start_of search)) →
    (f : Summand) (left : ℕ) → total search.program.now search.turns f left new.next.states
    ≡ weight search.program.now search.turns f (depth + 1 + left) (none_done search.program.now) (start_of search)
sums_of_more search old new layer depth goes empty sums f left =
    from_nothing _ _ _ (goes.grows f left) (ap (total search.program.now search.turns f left) empty)
    ∙ sums f (suc left)
    ∙ ap (λ (k : ℕ). weight search.program.now search.turns f k (none_done search.program.now) (start_of search)) (one_made depth left)

pub good_of_more : (search : Search) (old new : Work) (growth : Growth) (depth : ℕ) →
    GoesOn search old new growth → old.depth ≡ depth → AreGood search.program.now search.turns (depth + 1) (start_of search) new.trail new.next.states
good_of_more search old new growth depth goes is =
    let same : suc new.depth ≡ depth + 1 = (let d : new.depth ≡ old.depth = goes.depth in omega (arith, d, is)) in
    subst (λ (k : ℕ). AreGood search.program.now search.turns k (start_of search) new.trail new.next.states) same goes.work.states

-- ---- a call past its turns

pub stops_after : OverIsWhole → (program : Typed) (n : ℕ) (answers : Bool) (order : List ℕ) (thread : ℕ) →
    IsBeyond program n (opening_left program answers) order thread → StopsAfter program n order thread
stops_after law program n answers order thread beyond =
    let start = opening_left program answers in
    let serial = leads_serially law program n (none_done program) start order beyond.done beyond.left beyond.leads in
    record {
      ends = serial.0;
      heap = beyond.left.cells;
      serial = serial.1;
      made = leads_made program n (none_done program) start order beyond.done beyond.left beyond.leads;
      call = beyond.call;
      next = ap (λ (d : List ℕ). next_call program d thread) (leads_done program n (none_done program) start order beyond.done beyond.left beyond.leads) ∙ beyond.next;
      beyond = beyond.beyond;
    }

-- ---- the end

pub told_at : (trail : List (List ℕ)) (layer : List Reached) (k : ℕ) (d : Told) → k < length (map (as_told trail) layer) →
    get_or (map (as_told trail) layer) k d ≡ as_told trail (at layer k)
told_at trail layer k d within = get_or-map (as_told trail) layer k nowhere d (rw length-map at within)

each_ends : OverIsWhole → (search : Search) (trail : List (List ℕ)) (s : Reached) → IsEnd search trail s →
    IsEndOf search.program.now search.asked.now (as_told trail s)
each_ends law search trail s end =
    let program = search.program.now in
    let order = order_at trail s.first in
    let serial = leads_serially law program search.turns (none_done program) (start_of search) order s.done end.left end.good.leads in (
      end.left,
      record {
        is_order = subst (λ (k : ℕ). Contains (orders_of program k (none_done program)) order) end.good.long
            (leads_in_order program search.turns (none_done program) (start_of search) order s.done end.left end.good.leads);
        ends = serial.0;
        serial = serial.1;
        answered = serial.2;
      },
      end.seen_is,
    )

pub all_end : OverIsWhole → (search : Search) (trail : List (List ℕ)) (ends : List Reached) → AreEnds search trail ends →
    All (IsEndOf search.program.now search.asked.now) (map (as_told trail) ends)
all_end law search trail ends are k d within =
    let inside : k < length ends = rw length-map at within in
    subst (IsEndOf search.program.now search.asked.now) (sym (told_at trail ends k d within)) (each_ends law search trail (at ends k) (are.each k inside))

-- if all calls are done, all calls of each thread are done
end_done : (search : Search) (trail : List (List ℕ)) (s : Reached) → IsEnd search trail s →
    s.done ≡ lengths search.program.now.threads.items
end_done search trail s end =
    full search.program.now search.turns (start_of search) (order_at trail s.first) s.done end.left end.good.leads end.good.long

pub ends_apart : (search : Search) (trail : List (List ℕ)) (ends : List Reached) → AreEnds search trail ends →
    AllPairs (λ (a b : Told). a.left ≢ b.left) (map (as_told trail) ends)
ends_apart search trail ends are j k d below within same =
    let inside : k < length ends = rw length-map at within in
    let first : j < length ends = omega arith in
    let early : j < length (map (as_told trail) ends) = omega arith in
    are.apart j k below inside (
      end_done search trail (at ends j) (are.each j first) ∙ sym (end_done search trail (at ends k) (are.each k inside)),
      sym (ap (λ (e : Told). e.left) (told_at trail ends j d early)) ∙ same ∙ ap (λ (e : Told). e.left) (told_at trail ends k d within),
    )

-- the sum over the states is equal to the sum over the ends that are reported of them
pub sum_told : (g : Reached → ℕ) (h : Told → ℕ) (trail : List (List ℕ)) (layer : List Reached) →
    ((s : Reached) → g s ≡ h (as_told trail s)) →
    sum_by g layer ≡ sum_by h (map (as_told trail) layer)
sum_told g h trail [] same = refl
sum_told g h trail (s ∷ layer) same =
    sum_by-cons g s layer ∙ ap (λ (x : ℕ). x + sum_by g layer) (same s) ∙ ap (λ (x : ℕ). h (as_told trail s) + x) (sum_told g h trail layer same)
    ∙ sym (sum_by-cons h (as_told trail s) (map (as_told trail) layer))

pub counted : (b : Bool) (k : ℕ) → k * (0 + cond b 1 0) ≡ cond b k 0
counted true k = omega arith
counted false k = omega arith

-- the same sum, state by state
same_sum : (g h : Reached → ℕ) (states : List Reached) → ((s : Reached) → g s ≡ h s) → sum_by g states ≡ sum_by h states
same_sum g h [] same = refl
same_sum g h (s ∷ states) same =
    sum_by-cons g s states ∙ ap (λ (x : ℕ). x + sum_by g states) (same s) ∙ ap (λ (x : ℕ). h s + x) (same_sum g h states same)
    ∙ sym (sum_by-cons h s states)

times_one : (k x : ℕ) → k * (0 + x) ≡ k * x
times_one k x = omega arith

pub times_test : (b : Bool) (k : ℕ) → k * cond b 1 0 ≡ cond b k 0
times_test true k = omega arith
times_test false k = omega arith

pub counts_told : (search : Search) (trail : List (List ℕ)) (layer ends : List Reached) →
    AreEndsOfStates search trail layer ends →
    ((f : Summand) → total search.program.now search.turns f 0 layer
    ≡ weight search.program.now search.turns f (calls_together search.program.now.threads.items) (none_done search.program.now) (start_of search)) →
    (test : Option Left → Bool) →
    count_by (λ (order : List ℕ). test (option_map (seen search.asked.now.cells) (end_in search.program.now search.turns search.asked.now.answers order))) (orders search.program.now)
    ≡ told_count test (map (as_told trail) ends)
counts_told search trail layer ends are sums test =
    let program = search.program.now in
    let n = search.turns in
    let see = seen search.asked.now.cells in
    let f : Summand = λ d o. cond (test (option_map see o)) 1 0 in
    let w : Left → ℕ = λ left. cond (test (Some left)) 1 0 in
    sym (sums f)
    ∙ same_sum (λ (s : Reached). s.orders * weight program n f 0 s.done s.left) (λ (s : Reached). s.orders * w (see s.left)) layer (λ s. times_one s.orders (w (see s.left)))
    ∙ sym (are.counts w)
    ∙ sum_told (λ (s : Reached). s.orders * w s.left) (λ (e : Told). cond (test (Some e.left)) e.count 0) trail ends
    (λ s. times_test (test (Some s.left)) s.orders)

-- ---- every end is reported

pub same_cells : List Value → List Value → Bool
same_cells [] [] = true
same_cells [] (y ∷ ys) = false
same_cells (x ∷ xs) [] = false
same_cells (x ∷ xs) (y ∷ ys) = cond (same_value x y) (same_cells xs ys) false

pub both_true : (a b : Bool) → cond a b false ≡ true → (a ≡ true) × (b ≡ true)
both_true true b is = (refl, is)
both_true false b is = cc

pub cells_are : (xs ys : List Value) → same_cells xs ys ≡ true → xs ≡ ys
unfolding same_cells
cells_are [] [] same = refl
cells_are [] (y ∷ ys) same = cc
cells_are (x ∷ xs) [] same = cc
cells_are (x ∷ xs) (y ∷ ys) same =
    let both = both_true (same_value x y) (same_cells xs ys) same in
    ap (λ z. z ∷ xs) (value_is x y both.0) ∙ ap (λ zs. y ∷ zs) (cells_are xs ys both.1)

pub cells_same : (xs : List Value) → same_cells xs xs ≡ true
unfolding same_cells
cells_same [] = refl
cells_same (x ∷ xs) = ap (λ b. cond b (same_cells xs xs) false) (value_same x) ∙ cells_same xs

-- ---- ends with answers

trap_of : ℕ → Trap
trap_of zero = NullBase
trap_of (suc zero) = NullBase
trap_of (suc (suc zero)) = OutOfRange
trap_of (suc (suc (suc zero))) = Overflow
trap_of (suc (suc (suc (suc zero)))) = ZeroDivisor
trap_of (suc (suc (suc (suc (suc zero))))) = NotOwned
trap_of (suc (suc (suc (suc (suc (suc n)))))) = TooManyPrints

trap_back : (t : Trap) → trap_of (trap_number t) ≡ t
unfolding trap_of
trap_back NullBase = refl
trap_back OutOfRange = refl
trap_back Overflow = refl
trap_back ZeroDivisor = refl
trap_back NotOwned = refl
trap_back TooManyPrints = refl

same_answer : Option Outcome → Option Outcome → Bool
same_answer None None = true
same_answer None (Some b) = false
same_answer (Some a) None = false
same_answer (Some Ends) (Some Ends) = true
same_answer (Some Ends) (Some (Returns b)) = false
same_answer (Some Ends) (Some (Traps b)) = false
same_answer (Some (Returns a)) (Some Ends) = false
same_answer (Some (Returns a)) (Some (Returns b)) = same_value a b
same_answer (Some (Returns a)) (Some (Traps b)) = false
same_answer (Some (Traps a)) (Some Ends) = false
same_answer (Some (Traps a)) (Some (Returns b)) = false
same_answer (Some (Traps a)) (Some (Traps b)) = nat_eq (trap_number a) (trap_number b)

answer_is : (a b : Option Outcome) → same_answer a b ≡ true → a ≡ b
unfolding same_answer
answer_is None None same = refl
answer_is None (Some b) same = cc
answer_is (Some a) None same = cc
answer_is (Some Ends) (Some Ends) same = refl
answer_is (Some Ends) (Some (Returns b)) same = cc
answer_is (Some Ends) (Some (Traps b)) same = cc
answer_is (Some (Returns a)) (Some Ends) same = cc
answer_is (Some (Returns a)) (Some (Returns b)) same = ap (λ v. Some (Returns v)) (value_is a b same)
answer_is (Some (Returns a)) (Some (Traps b)) same = cc
answer_is (Some (Traps a)) (Some Ends) same = cc
answer_is (Some (Traps a)) (Some (Returns b)) same = cc
answer_is (Some (Traps a)) (Some (Traps b)) same =
    ap (λ t. Some (Traps t)) (sym (trap_back a) ∙ ap trap_of ((Decides-eqb (trap_number a) (trap_number b)).0 same) ∙ trap_back b)

answer_same : (a : Option Outcome) → same_answer a a ≡ true
unfolding same_answer
answer_same None = refl
answer_same (Some Ends) = refl
answer_same (Some (Returns a)) = value_same a
answer_same (Some (Traps a)) = (Decides-eqb (trap_number a) (trap_number a)).1 refl

same_answers : List (Option Outcome) → List (Option Outcome) → Bool
same_answers [] [] = true
same_answers [] (y ∷ ys) = false
same_answers (x ∷ xs) [] = false
same_answers (x ∷ xs) (y ∷ ys) = cond (same_answer x y) (same_answers xs ys) false

answers_are : (xs ys : List (Option Outcome)) → same_answers xs ys ≡ true → xs ≡ ys
unfolding same_answers
answers_are [] [] same = refl
answers_are [] (y ∷ ys) same = cc
answers_are (x ∷ xs) [] same = cc
answers_are (x ∷ xs) (y ∷ ys) same =
    let both = both_true (same_answer x y) (same_answers xs ys) same in
    ap (λ z. z ∷ xs) (answer_is x y both.0) ∙ ap (λ zs. y ∷ zs) (answers_are xs ys both.1)

answers_same : (xs : List (Option Outcome)) → same_answers xs xs ≡ true
unfolding same_answers
answers_same [] = refl
answers_same (x ∷ xs) = ap (λ b. cond b (same_answers xs xs) false) (answer_same x) ∙ answers_same xs

-- ---- the cells that an end leaves

pub same_left : Left → Left → Bool
same_left a b = cond (same_cells a.cells b.cells) (same_answers a.answers b.answers) false

pub both_left : (a b : Left) → a.cells ≡ b.cells → a.answers ≡ b.answers → a ≡ b
both_left a b cells answers =
    ap (λ c. left_with c a.answers) cells ∙ ap (left_with b.cells) answers

pub left_is : (a b : Left) → same_left a b ≡ true → a ≡ b
unfolding same_left
left_is a b same =
    let both = both_true (same_cells a.cells b.cells) (same_answers a.answers b.answers) same in
    both_left a b (cells_are a.cells b.cells both.0) (answers_are a.answers b.answers both.1)

pub left_same : (a : Left) → same_left a a ≡ true
unfolding same_left
left_same a = ap (λ b. cond b (same_answers a.answers a.answers) false) (cells_same a.cells) ∙ answers_same a.answers

-- the tests: whether the turns don't settle all calls, and whether the end is this one
unfoldable pub unsettled_end : Option Left → Bool
unsettled_end None = true
unsettled_end (Some left) = false

unfoldable pub ends_as : Left → Option Left → Bool
ends_as left None = false
ends_as left (Some other) = same_left other left

some_first : (a b : ℕ) → 0 < a + b → (0 < a) ⊎ (0 < b)
some_first zero b more = inr (omega arith)
some_first (suc a) b more = inl (omega arith)

-- a sum greater than 0 has a term greater than 0
pub some_term : {X : Type 0} (g : X → ℕ) (told : List X) → 0 < sum_by g told →
    (k : ℕ) × (e : X) × (k < length told) × (get_or told k e ≡ e) × (0 < g e)
some_term g [] more = absurd (omega arith)
some_term g (e ∷ told) more =
    elim (some_first (g e) (sum_by g told) (rw sum_by-cons at more)) [
      | inl here ↦ (0, e, omega arith, refl, here)
      | inr there ↦ (let rest = some_term g told there in (suc rest.0, rest.1, (let w = rest.2 in omega arith), rest.3, rest.4))
    ]

none_counted : (test : Option Left → Bool) (told : List Told) →
    ((left : Left) → test (Some left) ≡ false) → told_count test told ≡ 0
none_counted test [] none = refl
none_counted test (e ∷ told) none =
    sum_by-cons (λ (e : Told). cond (test (Some e.left)) e.count 0) e told
    ∙ ap (λ (b : Bool). cond b e.count 0 + told_count test told) (none e.left) ∙ ap (λ (x : ℕ). 0 + x) (none_counted test told none)

pub passed : (b : Bool) (k : ℕ) → 0 < cond b k 0 → b ≡ true
passed true k more = refl
passed false k more = absurd (omega arith)

-- an order counts if its end passes the test
counted_once : (program : Typed) (end : List ℕ → Option Left) (order : List ℕ) (test : Option Left → Bool) →
    Contains (orders program) order → test (end order) ≡ true →
    0 < count_by (λ (o : List ℕ). test (end o)) (orders program)
counted_once program end order test there passes =
    let p : List ℕ → ℕ = λ o. cond (test (end o)) 1 0 in
    let most = get_or-le-sum_by p (orders program) there.0 order there.1 in
    let one : p (get_or (orders program) there.0 order) ≡ 1 = ap p there.2 ∙ ap (λ (b : Bool). cond b 1 0) passes in
    omega (arith, most, one)

none_left : (calls : List Invocation) (left other : Left) → left_if_settled calls left ≡ Some other →
    (calls ≡ []) × (left ≡ other)
none_left [] left other is = (refl, cc)
none_left (c ∷ calls) left other is = cc

-- if the turns settle an order's calls, its end is what they leave
pub settled_left : SettledAreSerial → HaveAtMostOneSerial →
    (program : Typed) (n : ℕ) (start : Left) (done order : List ℕ) (heap : List Value) (other : Left) (ends : List Ended) →
    Serial program start.cells (calls_of program done order) ends heap → end_from program n done start order ≡ Some other →
    other ≡ left_with heap (answers_after program done order ends start.answers)
settled_left settled once program n start done order heap other ends serial is =
    let calls = calls_of program done order in
    let p = serial_with program n start.cells calls in
    let law = (settled program n start.cells calls).0 in
    let parts = none_left p.unsettled (left_with p.heap (answers_after program done order p.ends start.answers)) other is in
    let whole : calls ≡ law.0 = law.1 ∙ ap (λ (u : List Invocation). law.0 ++ u) parts.0 ∙ append-nil law.0 in
    let ran : Serial program start.cells calls p.ends p.heap = subst (λ (c : List Invocation). Serial program start.cells c p.ends p.heap) (sym whole) law.2 in
    let same = once program start.cells p.heap heap calls p.ends ends ran serial in
    sym parts.1 ∙ ap (λ (h : List Value). left_with h (answers_after program done order p.ends start.answers)) same.1
    ∙ ap (λ (es : List Ended). left_with heap (answers_after program done order es start.answers)) same.0

pub no_end : (o : Option Left) → (unsettled_end o ≡ true → ⊥) → (left : Left) × (o ≡ Some left)
unfolding unsettled_end
no_end None not = absurd (not refl)
no_end (Some left) not = (left, refl)

unsettled_seen : (cells : Cells) (o : Option Left) → unsettled_end (option_map (seen cells) o) ≡ unsettled_end o
unfolding unsettled_end
unsettled_seen cells None = refl
unsettled_seen cells (Some left) = refl

pub every_end : SettledAreSerial → HaveAtMostOneSerial → (program : Typed) (n : ℕ) (asked : Asked) (told : List Told) →
    ((test : Option Left → Bool) → count_by (λ (order : List ℕ). test (option_map (seen asked.cells) (end_in program n asked.answers order))) (orders program)
    ≡ told_count test told) →
    (order : List ℕ) (left : Left) → EndsIn program asked.answers order left → Any (λ (e : Told). e.left ≡ seen asked.cells left) told
unfolding unsettled_end ends_as
every_end settled once program n asked told counts order left ends =
    let see = seen asked.cells in
    let end : List ℕ → Option Left = λ o. option_map see (end_in program n asked.answers o) in
    let none : told_count unsettled_end told ≡ 0 = none_counted unsettled_end told (λ h. refl) in
    let ended = no_end (end_in program n asked.answers order) (λ is. (
    let c = counted_once program end order unsettled_end ends.is_order (unsettled_seen asked.cells (end_in program n asked.answers order) ∙ is) in
    let e = counts unsettled_end in omega (arith, c, e, none))) in
    let same : ended.0 ≡ left =
    settled_left settled once program n (opening_left program asked.answers) (none_done program) order left.cells ended.0 ends.ends ends.serial ended.1
    ∙ both_left (left_with left.cells (answers_after program (none_done program) order ends.ends (no_answers asked.answers program))) left refl (sym ends.answered) in
    let passes : ends_as (see left) (end order) ≡ true =
    ap (λ (o : Option Left). ends_as (see left) (option_map see o)) ended.1 ∙ ap (λ (l : Left). same_left (see l) (see left)) same ∙ left_same (see left) in
    let some = counted_once program end order (ends_as (see left)) ends.is_order passes in
    let e = counts (ends_as (see left)) in
    let term = some_term (λ (e : Told). cond (ends_as (see left) (Some e.left)) e.count 0) told (omega (arith, some, e)) in
    (term.0, term.1, term.2, term.3, left_is term.1.left (see left) (passed (same_left term.1.left (see left)) term.1.count term.4))

-- ---- the number of orders

count_ones : (orders : List (List ℕ)) → sum_by (λ (order : List ℕ). 1) orders ≡ length orders
count_ones [] = refl
count_ones (o ∷ os) = sum_by-cons (λ (order : List ℕ). 1) o os ∙ ap (λ (k : ℕ). 1 + k) (count_ones os) ∙ omega arith

once_more : (k : ℕ) → k ≡ k * (0 + 1)
once_more k = omega arith

-- if all calls are done, the orders that lead to the states are all orders
orders_all : (search : Search) (layer : List Reached) →
    ((f : Summand) → total search.program.now search.turns f 0 layer
    ≡ weight search.program.now search.turns f (calls_together search.program.now.threads.items) (none_done search.program.now) (start_of search)) →
    orders_to layer ≡ length (orders search.program.now)
orders_all search layer sums =
    same_sum (λ (s : Reached). s.orders) (λ (s : Reached). s.orders * weight search.program.now search.turns one 0 s.done s.left) layer (λ s. once_more s.orders)
    ∙ sums one ∙ count_ones (orders search.program.now)

-- ---- all together

pub are_all_ends : OverIsWhole → SettledAreSerial → HaveAtMostOneSerial →
    (search : Search) (trail : List (List ℕ)) (layer : List Reached) (told : List Told) →
    ((f : Summand) → total search.program.now search.turns f 0 layer
    ≡ weight search.program.now search.turns f (calls_together search.program.now.threads.items) (none_done search.program.now) (start_of search)) →
    (orders_to layer ≤ search.most) ⊎ (calls_together search.program.now.threads.items ≡ 0) →
    AreToldOfStates search trail layer told → AreAllEnds search.program.now search.turns search.most search.asked.now told
are_all_ends law settled once search trail layer told sums few is =
    let ends = is.0 in
    let counts = counts_told search trail layer ends is.1 sums in
    let all = orders_all search layer sums in
    subst (AreAllEnds search.program.now search.turns search.most search.asked.now) (sym is.2) (record {
      few = elim few [ inl room ↦ inl (omega (arith, all, room)) | inr none ↦ inr none ];
      each = all_end law search trail ends is.1.are;
      apart = ends_apart search trail ends is.1.are;
      counts = counts;
      all = every_end settled once search.program.now search.turns search.asked.now (map (as_told trail) ends) counts;
    })

-- ---- more orders than the limit

pub too_many : (search : Search) (old : Work) (layer : List Reached) (calls depth : ℕ) →
    HasTooMany search old (made_from_all search layer) → old.next.states ≡ [] → old.depth ≡ depth →
    depth < calls → calls ≡ calls_together search.program.now.threads.items →
    ((f : Summand) → total search.program.now search.turns f (calls - depth) layer
    ≡ weight search.program.now search.turns f calls (none_done search.program.now) (start_of search)) →
    search.most < length (orders search.program.now)
too_many search old layer calls depth many empty deep below all sums =
    let program = search.program.now in
    let n = search.turns in
    let left = calls - (depth + 1) in
    let fit : suc old.depth + left ≡ calls_together program.threads.items = omega arith in
    let more : search.most < total program n one left old.next.states + total program n one (suc left) layer =
    many one left (λ trail s good. weighs program n (suc old.depth) left (start_of search) trail s good fit) in
    let none : total program n one left old.next.states ≡ 0 = ap (total program n one left) empty in
    let same : total program n one (suc left) layer ≡ weight program n one calls (none_done program) (start_of search) =
    ap (λ (k : ℕ). total program n one k layer) (one_left calls depth below) ∙ sums one in
    let whole : weight program n one calls (none_done program) (start_of search) ≡ length (orders program) =
    ap (λ (k : ℕ). weight program n one k (none_done program) (start_of search)) all ∙ count_ones (orders program) in
    omega arith
