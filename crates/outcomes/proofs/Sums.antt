-- Sums over orders.
use Rattle.std.proofs.Common.{◌≡◌, ◌∙◌, ℕ, ◌+◌, ◌*◌, suc, List, [], ◌∷◌, ◌++◌, length, map, Option, Some, None}
use Rattle.std.proofs.Common.{sum_by, ap, sym, refl, arith}
use Rattle.std.proofs.lemmas.List.Sums.{sum_by-append, sum_by_push, sum_by-cons, sum_by-set}
use Rattle.core_lang.specs.declared.typed.Typed.{Typed}
use Rattle.core_lang.specs.Serial.{Invocation, go_on, run_call, serial_with}
use Rattle.core_lang.specs.Whole.{Finished, Run, Over}
use Rattle.outcomes.specs.Orders.{next_call, one_more, orders_of, begun_with, begun_by, calls_of}
use Rattle.outcomes.specs.Ends.{Left, left_by, end_from, done_after}
use Rattle.outcomes.specs.Working.States.{Reached, at, nowhere, with_more, orders_to}
use Rattle.outcomes.specs.Working.Searching.{Leads, left_after, sum_over, weight, IsFound, IsAdded, Summand}

-- an order that begins with a call that ends has the end of its other calls, made from there
pub end_behind : (program : Typed) (n : ℕ) (done : List ℕ) (heap : Left) (t : ℕ) (call : Invocation) (finished : Finished) (order : List ℕ) →
    next_call program done t ≡ Some call → run_call program n call heap.cells ≡ Over finished →
    end_from program n done heap (t ∷ order) ≡ end_from program n (one_more done t) (left_after program done t finished heap) order
end_behind program n done heap t call finished order next over =
    ap (λ (c : Option Invocation). left_by program done (t ∷ order) heap.answers (serial_with program n heap.cells (Rattle.std.specs.Option.option_to_list c ++ calls_of program (one_more done t) order))) next
    ∙ ap (λ (r : Run). left_by program done (t ∷ order) heap.answers (go_on r heap.cells (call ∷ calls_of program (one_more done t) order) (λ h. serial_with program n h (calls_of program (one_more done t) order)))) over

-- calls that lead to a state are settled, and leave that state
pub leads_end : (program : Typed) (n : ℕ) (done : List ℕ) (left : Left) (order done' : List ℕ) (left' : Left) →
    Leads program n done left order done' left' → end_from program n done left order ≡ Some left'
leads_end program n done left [] done' left' leads = ap (λ l. Some l) leads.1
leads_end program n done left (t ∷ order) done' left' leads =
    end_behind program n done left t leads.0 leads.1 order leads.2 leads.3
    ∙ leads_end program n (one_more done t) (left_after program done t leads.1 left) order done' left' leads.4

-- a sum over orders that all begin with one thread
sum_behind : (f g : List ℕ → ℕ) (t : ℕ) (orders : List (List ℕ)) → ((order : List ℕ) → f (t ∷ order) ≡ g order) →
    sum_by f (map (λ (order : List ℕ). t ∷ order) orders) ≡ sum_by g orders
sum_behind f g t [] same = refl
sum_behind f g t (o ∷ os) same =
    sum_by-cons f (t ∷ o) (map (λ (order : List ℕ). t ∷ order) os)
    ∙ ap (λ (x : ℕ). x + sum_by f (map (λ (order : List ℕ). t ∷ order) os)) (same o)
    ∙ ap (λ (x : ℕ). g o + x) (sum_behind f g t os same) ∙ sym (sum_by-cons g o os)

-- the sum over the orders that begin with a thread is the sum over the orders from the state to which its call leads
pub sum_with : (program : Typed) (n left : ℕ) (f : Summand) (done : List ℕ) (heap : Left) (t : ℕ) (call : Invocation) (finished : Finished) →
    next_call program done t ≡ Some call → run_call program n call heap.cells ≡ Over finished →
    sum_over program n f done heap (begun_with (next_call program done t) t (orders_of program left (one_more done t)))
    ≡ weight program n f left (one_more done t) (left_after program done t finished heap)
sum_with program n left f done heap t call finished next over =
    ap (λ (c : Option Invocation). sum_over program n f done heap (begun_with c t (orders_of program left (one_more done t)))) next
    ∙ sum_behind (λ (o : List ℕ). f (done_after done o) (end_from program n done heap o)) (λ (o : List ℕ). f (done_after (one_more done t) o) (end_from program n (one_more done t) (left_after program done t finished heap) o)) t
    (orders_of program left (one_more done t)) (λ o. ap (f (done_after (one_more done t) o)) (end_behind program n done heap t call finished o next over))

-- no order begins with a thread that has no call left
pub sum_without : (program : Typed) (n left : ℕ) (f : Summand) (done : List ℕ) (heap : Left) (t : ℕ) →
    next_call program done t ≡ None →
    sum_over program n f done heap (begun_with (next_call program done t) t (orders_of program left (one_more done t))) ≡ 0
sum_without program n left f done heap t none =
    ap (λ (c : Option Invocation). sum_over program n f done heap (begun_with c t (orders_of program left (one_more done t)))) none

-- one thread further
pub sum_more : (program : Typed) (n left : ℕ) (f : Summand) (done : List ℕ) (heap : Left) (t : ℕ) →
    sum_over program n f done heap (begun_by program (orders_of program left) done (suc t))
    ≡ sum_over program n f done heap (begun_by program (orders_of program left) done t)
    + sum_over program n f done heap (begun_with (next_call program done t) t (orders_of program left (one_more done t)))
sum_more program n left f done heap t =
    sum_by-append (λ (o : List ℕ). f (done_after done o) (end_from program n done heap o)) (begun_by program (orders_of program left) done t)
    (begun_with (next_call program done t) t (orders_of program left (one_more done t)))

-- ---- one more state

times_more : (a b w : ℕ) → (a + b) * w ≡ a * w + b * w
times_more a b w = omega arith

after : (a b c d x y : ℕ) → a + b ≡ c + d → d ≡ b + x → x ≡ y → a ≡ c + y
after a b c d x y p q r = omega arith

-- orders that lead to a state that was reached before
pub total_found : (w : List ℕ → Left →
    ℕ) (old new : List Reached) (trail trail' : List (List ℕ)) (done : List ℕ) (heap : Left) (more : ℕ) →
    IsFound old new trail trail' done heap more →
    sum_by (λ (s : Reached). s.orders * w s.done s.left) new ≡ sum_by (λ (s : Reached). s.orders * w s.done s.left) old + more * w done heap
total_found w old new trail trail' done heap more found =
    let g : Reached → ℕ = λ s. s.orders * w s.done s.left in
    let s = at old found.number in
    let sums = sum_by-set g old found.number (with_more s more) nowhere found.within in
    let same : w s.done s.left ≡ w done heap = ap (λ (d : List ℕ). w d s.left) found.alike.0 ∙ ap (w done) found.alike.1 in
    let more_is : g (with_more s more) ≡ g s + more * w s.done s.left = times_more s.orders more (w s.done s.left) in
    let times : more * w s.done s.left ≡ more * w done heap = ap (λ (x : ℕ). more * x) same in
    ap (sum_by g) found.states ∙ after _ _ _ _ _ _ sums more_is times

-- orders that lead to a new state
pub total_added : (w : List ℕ → Left →
    ℕ) (old new : List Reached) (trail trail' : List (List ℕ)) (done : List ℕ) (heap : Left) (more from thread : ℕ) →
    IsAdded old new trail trail' done heap more from thread →
    sum_by (λ (s : Reached). s.orders * w s.done s.left) new ≡ sum_by (λ (s : Reached). s.orders * w s.done s.left) old + more * w done heap
total_added w old new trail trail' done heap more from thread added =
    let g : Reached → ℕ = λ s. s.orders * w s.done s.left in
    ap (sum_by g) added.states ∙ sum_by_push g old (record { done = done; left = heap; orders = more; first = length trail })

-- ---- the number of orders that lead to the states

pub orders_found : (old new : List Reached) (trail trail' : List (List ℕ)) (done : List ℕ) (left : Left) (more : ℕ) →
    IsFound old new trail trail' done left more → orders_to new ≡ orders_to old + more
orders_found old new trail trail' done left more found =
    let s = at old found.number in
    let sums = sum_by-set (λ (r : Reached). r.orders) old found.number (with_more s more) nowhere found.within in
    ap orders_to found.states ∙ omega (arith, sums)

pub orders_added : (old new : List Reached) (trail trail' : List (List ℕ)) (done : List ℕ) (left : Left) (more from thread : ℕ) →
    IsAdded old new trail trail' done left more from thread → orders_to new ≡ orders_to old + more
orders_added old new trail trail' done left more from thread added =
    ap orders_to added.states
    ∙ sum_by_push (λ (r : Reached). r.orders) old (record { done = done; left = left; orders = more; first = length trail })
