-- The states in which all calls are done.
use Rattle.std.proofs.Common.{◌≡◌, ◌∙◌, ℕ, ◌+◌, ◌<◌, ◌≤◌, zero, suc, List, [], ◌∷◌, ◌++◌, length, get_or}
use Rattle.std.proofs.Common.{get_or-set_same, get_or-set_other, slice_get, slice_set, Option, Some, None, ap, sym}
use Rattle.std.proofs.Common.{subst, refl, arith, ◌⊎◌, inl, inr}
use Rattle.std.specs.Prelude.{option_map, option_to_list}
use Rattle.std.specs.List.{Contains}
use Rattle.std.proofs.lemmas.Bool.{cases_eq}
use Rattle.std.proofs.lemmas.List.{length-replicate}
use Rattle.core_lang.specs.declared.typed.Call.{Call}
use Rattle.core_lang.specs.declared.typed.Thread.{Thread}
use Rattle.core_lang.specs.declared.typed.Typed.{Typed}
use Rattle.core_lang.specs.Serial.{Invocation, invocation}
use Rattle.core_lang.specs.Typing.{lookup}
use Rattle.core_lang.specs.WellFormed.{calls_together}
use Rattle.std.proofs.Math.ListN.{length-set}
use Rattle.outcomes.specs.Orders.{next_call, one_more, none_done, orders_of, calls_of, calls_in}
use Rattle.outcomes.specs.Ends.{Left, done_after}
use Rattle.outcomes.specs.Working.Searching.{left_after, Leads}
use Rattle.outcomes.proofs.Leading.{next_within, leads_made}
use Rattle.outcomes.specs.Theory.Done.{sums-lengths, length-lengths, sums_set, sums_zero, zero_at, sums, lengths}
use Rattle.outcomes.specs.Theory.Done.{among_begun}

-- no number of `xs` is greater than the number of `ys` at its index
unfoldable pub Within : List ℕ → List ℕ → Type 0
Within xs ys = (k : ℕ) → get_or xs k 0 ≤ get_or ys k 0

sums_within : (xs ys : List ℕ) → length xs ≡ length ys → Within xs ys → sums xs ≤ sums ys
unfolding Within
sums_within [] [] long few = omega arith
sums_within [] (y ∷ ys) long few = cc
sums_within (x ∷ xs) [] long few = cc
sums_within (x ∷ xs) (y ∷ ys) long few =
    let rest = sums_within xs ys (omega arith) (λ k. few (suc k)) in let first = few 0 in omega arith

-- two such lists with equal sums are equal
pub same_sums : (xs ys : List ℕ) → length xs ≡ length ys → Within xs ys → sums xs ≡ sums ys → xs ≡ ys
unfolding Within
same_sums [] [] long few sum = refl
same_sums [] (y ∷ ys) long few sum = cc
same_sums (x ∷ xs) [] long few sum = cc
same_sums (x ∷ xs) (y ∷ ys) long few sum =
    let rest : sums xs ≤ sums ys = sums_within xs ys (omega arith) (λ k. few (suc k)) in
    let first : x ≤ y = few 0 in
    let head : x ≡ y = omega arith in
    let tail : xs ≡ ys = same_sums xs ys (omega arith) (λ k. few (suc k)) (omega arith) in
    ap (λ z. z ∷ xs) head ∙ ap (λ zs. y ∷ zs) tail

call_within : (calls : List Call) (k : ℕ) (call : Invocation) →
    option_map invocation (slice_get calls k) ≡ Some call → k < length calls
call_within [] k call is = cc
call_within (c ∷ calls) zero call is = omega arith
call_within (c ∷ calls) (suc k) call is = let rest = call_within calls k call is in omega arith

-- a thread with a call left has more calls than are done
pub some_call : (ts : List Thread) (done : List ℕ) (k : ℕ) (call : Invocation) →
    lookup (slice_get ts k) (λ (thread : Thread). option_map invocation (slice_get thread.calls.items (get_or done k 0))) ≡ Some call →
    get_or done k 0 < get_or (lengths ts) k 0
some_call [] done k call is = cc
some_call (t ∷ ts) done zero call is = call_within t.calls.items (get_or done 0 0) call is
some_call (t ∷ ts) [] (suc k) call is = some_call ts [] k call is
some_call (t ∷ ts) (d ∷ done) (suc k) call is = some_call ts done k call is

pub one_more_within : (program : Typed) (done : List ℕ) (t : ℕ) (call : Invocation) →
    length done ≡ length program.threads.items → next_call program done t ≡ Some call →
    Within done (lengths program.threads.items) → Within (one_more done t) (lengths program.threads.items)
unfolding Within
one_more_within program done t call long next few k =
    let inside : t < length done = (let w = next_within program done t call next in omega arith) in
    let less : get_or done t 0 < get_or (lengths program.threads.items) t 0 = some_call program.threads.items done t call next in
    elim (cases_eq k t) [
      | inl same ↦ (let at : get_or (slice_set done t (get_or done t 0 + 1)) k 0 ≡ get_or done t 0 + 1 =
          ap (λ j. get_or (slice_set done t (get_or done t 0 + 1)) j 0) same ∙ get_or-set_same done t (get_or done t 0 + 1) 0 inside in
          let there : get_or (lengths program.threads.items) k 0 ≡ get_or (lengths program.threads.items) t 0 = ap (λ j. get_or (lengths program.threads.items) j 0) same in
          omega (arith, at, there, less))
      | inr other ↦ (let at = get_or-set_other done t k (get_or done t 0 + 1) 0 other in let f = few k in omega (arith, at, f))
    ]

few_behind : (program : Typed) (done : List ℕ) (t : ℕ) (order : List ℕ) (o : Option Invocation) →
    length (calls_of program (one_more done t) order) ≤ length order →
    length (option_to_list o ++ calls_of program (one_more done t) order) ≤ suc (length order)
few_behind program done t order None few = omega arith
few_behind program done t order (Some call) few = omega arith

-- an order has no more calls than threads; if it has as many, its first thread has a call, and so on for the others
few_calls : (program : Typed) (done order : List ℕ) → length (calls_of program done order) ≤ length order
few_calls program done [] = omega arith
few_calls program done (t ∷ order) = few_behind program done t order (next_call program done t) (few_calls program (one_more done t) order)

first_made : (program : Typed) (done : List ℕ) (t : ℕ) (order : List ℕ) (o : Option Invocation) →
    next_call program done t ≡ o →
    length (option_to_list o ++ calls_of program (one_more done t) order) ≡ suc (length order) →
    (call : Invocation) × (next_call program done t ≡ Some call) × (length (calls_of program (one_more done t) order) ≡ length order)
first_made program done t order None next made = absurd (let few = few_calls program (one_more done t) order in omega arith)
first_made program done t order (Some call) next made = (call, next, omega arith)

pub made_first : (program : Typed) (done : List ℕ) (t : ℕ) (order : List ℕ) →
    length (calls_of program done (t ∷ order)) ≡ length (t ∷ order) →
    (call : Invocation) × (next_call program done t ≡ Some call) × (length (calls_of program (one_more done t) order) ≡ length order)
made_first program done t order made = first_made program done t order (next_call program done t) refl made

-- such an order is among the orders of its length
pub made_in_order : (program : Typed) (done order : List ℕ) → length (calls_of program done order) ≡ length order →
    Contains (orders_of program (length order) done) order
made_in_order program done [] made = (0, omega arith, refl)
made_in_order program done (t ∷ order) made =
    let first = made_first program done t order made in
    among_begun program (orders_of program (length order)) done (length program.threads.items) t first.0 order
    (next_within program done t first.0 first.1) first.1 (made_in_order program (one_more done t) order first.2)

-- the numbers of calls that are done grow with each call, up to the numbers of calls
pub made_fully : (program : Typed) (done order : List ℕ) → length (calls_of program done order) ≡ length order →
    length done ≡ length program.threads.items → Within done (lengths program.threads.items) →
    (length (done_after done order) ≡ length program.threads.items) × Within (done_after done order) (lengths program.threads.items)
    × (sums (done_after done order) ≡ sums done + length order)
made_fully program done [] made long few = (long, few, omega arith)
made_fully program done (t ∷ order) made long few =
    let first = made_first program done t order made in
    let inside : t < length done = (let w = next_within program done t first.0 first.1 in omega arith) in
    let rest = made_fully program (one_more done t) order first.2 (length-set done t (get_or done t 0 + 1) ∙ long)
    (one_more_within program done t first.0 long first.1 few) in
    let more : sums (one_more done t) ≡ suc (sums done) = sums_set done t inside in
    (rest.0, rest.1, omega (arith, rest.2, more))

-- an order does at most as many calls of each thread as the thread has
pub fits_made : (program : Typed) (order : List ℕ) → length (calls_in program order) ≡ length order →
    (length (done_after (none_done program) order) ≡ length program.threads.items) × Within (done_after (none_done program) order) (lengths program.threads.items)
    × (sums (done_after (none_done program) order) ≡ length order)
unfolding Within
fits_made program order made =
    let none : length (none_done program) ≡ length program.threads.items = length-replicate (length program.threads.items) 0 in
    let all = made_fully program (none_done program) order made none (λ k. let z = zero_at (length program.threads.items) k in omega (arith, z)) in
    let zero_sum : sums (none_done program) ≡ 0 = sums_zero (length program.threads.items) in
    (all.0, all.1, omega (arith, all.2, zero_sum))

-- an order is at most as long as the number of calls
pub made_few : (program : Typed) (order : List ℕ) → length (calls_in program order) ≡ length order →
    length order ≤ calls_together program.threads.items
made_few program order made =
    let all = fits_made program order made in
    let same : length (lengths program.threads.items) ≡ length program.threads.items = length-lengths program.threads.items in
    let most : sums (done_after (none_done program) order) ≤ sums (lengths program.threads.items) =
    sums_within (done_after (none_done program) order) (lengths program.threads.items) (all.0 ∙ sym same) all.1 in
    let sum : sums (lengths program.threads.items) ≡ calls_together program.threads.items = sums-lengths program.threads.items in
    omega (arith, all.2, most, sum)

pub leads_done : (program : Typed) (n : ℕ) (done : List ℕ) (heap : Left) (order done' : List ℕ) (heap' : Left) →
    Leads program n done heap order done' heap' → done_after done order ≡ done'
leads_done program n done heap [] done' heap' there = there.0
leads_done program n done heap (t ∷ order) done' heap' there = leads_done program n (one_more done t) (left_after program done t there.1 heap) order done' heap' there.4

pub fits : (program : Typed) (n : ℕ) (heap : Left) (order done' : List ℕ) (heap' : Left) →
    Leads program n (none_done program) heap order done' heap' →
    (length done' ≡ length program.threads.items) × Within done' (lengths program.threads.items) × (sums done' ≡ length order)
fits program n heap order done' heap' there =
    subst (λ (d : List ℕ). (length d ≡ length program.threads.items) × Within d (lengths program.threads.items) × (sums d ≡ length order))
    (leads_done program n (none_done program) heap order done' heap' there)
    (fits_made program order (leads_made program n (none_done program) heap order done' heap' there))

-- if all calls are done, all calls of each thread are done
pub full : (program : Typed) (n : ℕ) (heap : Left) (order done' : List ℕ) (heap' : Left) →
    Leads program n (none_done program) heap order done' heap' →
    length order ≡ calls_together program.threads.items → done' ≡ lengths program.threads.items
full program n heap order done' heap' there long =
    let all = fits program n heap order done' heap' there in
    let sum : sums (lengths program.threads.items) ≡ calls_together program.threads.items = sums-lengths program.threads.items in
    let same : length (lengths program.threads.items) ≡ length program.threads.items = length-lengths program.threads.items in
    same_sums done' (lengths program.threads.items) (all.0 ∙ sym same) all.1 (omega (arith, all.2, sum, long))

-- ---- there is an order

less_or_same : (x y : ℕ) → x ≤ y → (x < y) ⊎ (x ≡ y)
less_or_same x y few = elim (cases_eq x y) [ inl same ↦ inr same | inr apart ↦ inl (omega arith) ]

-- if some calls are left, some thread has one
some_left : (xs ys : List ℕ) → length xs ≡ length ys → Within xs ys → sums xs < sums ys →
    (k : ℕ) × (k < length xs) × (get_or xs k 0 < get_or ys k 0)
unfolding Within
some_left [] [] long few less = absurd (omega arith)
some_left [] (y ∷ ys) long few less = cc
some_left (x ∷ xs) [] long few less = cc
some_left (x ∷ xs) (y ∷ ys) long few less =
    elim (less_or_same x y (few 0)) [
      | inl first ↦ (0, omega arith, first)
      | inr same ↦ (let rest = some_left xs ys (omega arith) (λ k. few (suc k)) (omega arith) in (suc rest.0, (let w = rest.1 in omega arith), rest.2))
    ]

call_there : (calls : List Call) (k : ℕ) → k < length calls →
    (call : Invocation) × (option_map invocation (slice_get calls k) ≡ Some call)
call_there [] k within = absurd (omega arith)
call_there (c ∷ calls) zero within = (invocation c, refl)
call_there (c ∷ calls) (suc k) within = call_there calls k (omega arith)

pub call_left : (ts : List Thread) (done : List ℕ) (k : ℕ) → get_or done k 0 < get_or (lengths ts) k 0 →
    (call : Invocation) × (lookup (slice_get ts k) (λ (thread : Thread). option_map invocation (slice_get thread.calls.items (get_or done k 0))) ≡ Some call)
call_left [] done k less = absurd (omega arith)
call_left (t ∷ ts) done zero less = call_there t.calls.items (get_or done 0 0) less
call_left (t ∷ ts) [] (suc k) less = call_left ts [] k less
call_left (t ∷ ts) (d ∷ done) (suc k) less = call_left ts done k less

pub some_order : (program : Typed) (left : ℕ) (done : List ℕ) → length done ≡ length program.threads.items →
    Within done (lengths program.threads.items) →
    sums done + left ≡ calls_together program.threads.items → (order : List ℕ) × Contains (orders_of program left done) order
some_order program zero done long few sum = ([], (0, omega arith, refl))
some_order program (suc left) done long few sum =
    let all : sums (lengths program.threads.items) ≡ calls_together program.threads.items = sums-lengths program.threads.items in
    let same : length (lengths program.threads.items) ≡ length program.threads.items = length-lengths program.threads.items in
    let there = some_left done (lengths program.threads.items) (long ∙ sym same) few (omega arith) in
    let call = call_left program.threads.items done there.0 there.2 in
    let more : sums (one_more done there.0) ≡ suc (sums done) = sums_set done there.0 there.1 in
    let rest = some_order program left (one_more done there.0) (length-set done there.0 (get_or done there.0 0 + 1) ∙ long)
    (one_more_within program done there.0 call.0 long call.1 few) (omega arith) in (
      there.0 ∷ rest.0,
      among_begun program (orders_of program left) done (length program.threads.items) there.0 call.0 rest.0
          (next_within program done there.0 call.0 call.1) call.1 rest.1,
    )

-- each state has an order
pub has_order : (program : Typed) (n left : ℕ) (heap : Left) (order done' : List ℕ) (heap' : Left) →
    Leads program n (none_done program) heap order done' heap' →
    length order + left ≡ calls_together program.threads.items → (o : List ℕ) × Contains (orders_of program left done') o
has_order program n left heap order done' heap' there long =
    let all = fits program n heap order done' heap' there in
    some_order program left done' all.0 all.1 (omega (arith, all.2, long))
