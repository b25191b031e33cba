-- Orders that are drawn.
use Rattle.std.proofs.Common.{◌≡◌, ◌∙◌, ℕ, ◌+◌, ◌-◌, ◌*◌, ◌<◌, ◌≤◌, zero, suc, cond, List, [], ◌∷◌, ◌++◌, length, map, take, drop}
use Rattle.std.proofs.Common.{get_or, slice_get, Option, Some, inl, inr, ap, sym, subst, refl, arith, length-append, append-nil}
use Rattle.std.specs.List.{All, Contains}
use Rattle.std.specs.Option.{option_map}
use Rattle.std.proofs.lemmas.List.{length-map}
use Rattle.std.proofs.lemmas.List.Elements.{All-push, Contains-push, Contains-append_left}
use Rattle.std.proofs.lemmas.List.Sums.{sum_by_push}
use Rattle.std.proofs.Math.ListN.{get_or-append}
use Rattle.core_lang.specs.declared.value.Value.{Value}
use Rattle.core_lang.specs.declared.value.Outcome.{Outcome}
use Rattle.core_lang.specs.declared.typed.Thread.{Thread}
use Rattle.core_lang.specs.declared.typed.Typed.{Typed}
use Rattle.core_lang.specs.Laws.{OverIsWhole}
use Rattle.core_lang.specs.Serial.{Invocation, opening_heap, run_call}
use Rattle.core_lang.specs.Typing.{HasCells, IsHeap}
use Rattle.core_lang.specs.Whole.{Beyond_turns}
use Rattle.core_lang.specs.WellFormed.{calls_together}
use Rattle.meaning.specs.Working.Undo.{undone}
use Rattle.outcomes.specs.declared.search.Search.{Search}
use Rattle.outcomes.specs.declared.drawing.Walk.{Walk}
use Rattle.outcomes.specs.declared.drawing.Drawing.{Drawing}
use Rattle.outcomes.specs.Orders.{next_call, one_more, none_done, orders, orders_of}
use Rattle.outcomes.specs.Ends.{Left, Told, AreDrawnEnds, answered, end_in, seen, seen_cells}
use Rattle.outcomes.specs.declared.outcome.Cells.{Cells}
use Rattle.outcomes.specs.Working.States.{Layered, Reached, at, with_more, orders_to}
use Rattle.outcomes.specs.Working.Trails.{IsBegun, IsLonger}
use Rattle.outcomes.specs.Working.Searching.{Leads, left_after, order_at, AreApart, IsFound, as_told}
use Rattle.outcomes.specs.Working.Drawing.{left_of, IsWalk, HasCallLeft, calls_of_thread, Notes, IsNewEnd, IsDrawnEnd, AreEndsOf, sum_of_ends}
use Rattle.outcomes.specs.Working.Steps.{IsOver, IsBeyond, IsEnd, AreEnds, counted_in, start_of}
use Rattle.outcomes.proofs.Leading.{leads_further, leads_in_order, set_apart, push_apart}
use Rattle.outcomes.proofs.SeenEnds.{end_longer, end_more}
use Rattle.outcomes.proofs.Full.{Within, fits, call_left, some_call}
use Rattle.outcomes.proofs.Sums.{leads_end, total_found, orders_found}
use Rattle.outcomes.proofs.Whole.{all_end, ends_apart, sum_told, told_at, times_test, both_left}
use Rattle.outcomes.specs.Theory.Done.{sums-lengths, length-lengths, sums, lengths}

-- ---- the thread of a call

-- the number of calls of each thread in a walk
pub walk_fits : (search : Search) (walk : Walk) → IsWalk search walk →
    (length walk.done.items ≡ length search.program.now.threads.items) × Within walk.done.items (lengths search.program.now.threads.items)
    × (sums walk.done.items ≡ length walk.order.items)
walk_fits search walk is =
    fits search.program.now search.turns (start_of search) walk.order.items walk.done.items (left_of walk) is.leads

sums_from : (xs : List ℕ) (k : ℕ) → k < length xs → sums (drop k xs) ≡ get_or xs k 0 + sums (drop (suc k) xs)
sums_from [] k within = absurd (omega arith)
sums_from (x ∷ xs) zero within = refl
sums_from (x ∷ xs) (suc k) within = sums_from xs k (omega arith)

some_within : (xs : List ℕ) (k : ℕ) → 0 < sums (drop k xs) → k < length xs
some_within [] zero more = absurd (omega arith)
some_within [] (suc k) more = absurd (omega arith)
some_within (x ∷ xs) zero more = omega arith
some_within (x ∷ xs) (suc k) more = let rest = some_within xs k more in omega arith

-- the calls of a thread, by its number
pub calls_of_one : (ts : List Thread) (k : ℕ) (t : Thread) → slice_get ts k ≡ Some t →
    calls_of_thread ts k ≡ length t.calls.items
calls_of_one [] k t is = cc
calls_of_one (x ∷ ts) zero t is = let same : x ≡ t = cc in ap (λ (y : Thread). length y.calls.items) same
calls_of_one (x ∷ ts) (suc k) t is = calls_of_one ts k t is

pub calls_at : (ts : List Thread) (k : ℕ) → calls_of_thread ts k ≡ get_or (lengths ts) k 0
calls_at [] k = refl
calls_at (t ∷ ts) zero = refl
calls_at (t ∷ ts) (suc k) = calls_at ts k

-- a thread with a call left has more calls than are done
pub more_calls : (program : Typed) (done : List ℕ) (thread : ℕ) (call : Invocation) →
    next_call program done thread ≡ Some call → get_or done thread 0 < calls_of_thread program.threads.items thread
more_calls program done thread call next =
    let less = some_call program.threads.items done thread call next in
    let same = calls_at program.threads.items thread in
    omega (arith, less, same)

-- the calls of the threads up to one are no more than those of all threads
pub calls_before : (ts : List Thread) (k : ℕ) → calls_together (take k ts) + calls_of_thread ts k ≤ calls_together ts
calls_before [] zero = omega arith
calls_before [] (suc k) = omega arith
calls_before (t ∷ ts) zero = omega arith
calls_before (t ∷ ts) (suc k) = let rest = calls_before ts k in omega (arith, rest)

pub calls_from : (ts : List Thread) (k : ℕ) (t : Thread) → k < length ts → t ≡ get_or ts k t →
    length t.calls.items ≤ calls_together (drop k ts)
calls_from [] k t within is = absurd (omega arith)
calls_from (x ∷ ts) zero t within is = let same : length t.calls.items ≡ length x.calls.items = ap (λ (y : Thread). length y.calls.items) is in omega (arith, same)
calls_from (x ∷ ts) (suc k) t within is = calls_from ts k t (omega arith) is

-- the call of this number is one of a thread from `thread` on
abbrev pub IsFrom : List Thread → List ℕ → ℕ → ℕ → Type 0
IsFrom threads done thread number = number + sums (drop thread done) < sums (drop thread (lengths threads))

pub from_first : (search : Search) (walk : Walk) (number : ℕ) → IsWalk search walk →
    number + length walk.order.items < calls_together search.program.now.threads.items → IsFrom search.program.now.threads.items walk.done.items 0 number
from_first search walk number is below =
    let all = walk_fits search walk is in
    let sum : sums (lengths search.program.now.threads.items) ≡ calls_together search.program.now.threads.items = sums-lengths search.program.now.threads.items in
    omega (arith, all.2, sum, below)

pub from_within : (threads : List Thread) (done : List ℕ) (thread number : ℕ) → IsFrom threads done thread number →
    thread < length threads
from_within threads done thread number from =
    let inside : thread < length (lengths threads) = some_within (lengths threads) thread (omega arith) in
    let same : length (lengths threads) ≡ length threads = length-lengths threads in
    omega (arith, inside, same)

-- the number of the thread's calls that are done is at most the number of its calls
pub done_within : (search : Search) (walk : Walk) (thread : ℕ) → IsWalk search walk →
    get_or walk.done.items thread 0 ≤ calls_of_thread search.program.now.threads.items thread
unfolding Within
done_within search walk thread is =
    let few = (walk_fits search walk is).1 thread in
    let same = calls_at search.program.now.threads.items thread in
    omega (arith, few, same)

-- the call is not one of a thread before the next one
pub from_next : (search : Search) (walk : Walk) (thread number left : ℕ) → IsWalk search walk →
    IsFrom search.program.now.threads.items walk.done.items thread number →
    left + get_or walk.done.items thread 0 ≡ calls_of_thread search.program.now.threads.items thread → left ≤ number →
    IsFrom search.program.now.threads.items walk.done.items (thread + 1) (number - left)
from_next search walk thread number left is from of few =
    let threads = search.program.now.threads.items in
    let all = walk_fits search walk is in
    let inside : thread < length threads = from_within threads walk.done.items thread number from in
    let same : length (lengths threads) ≡ length threads = length-lengths threads in
    let long : length walk.done.items ≡ length threads = all.0 in
    let calls : calls_of_thread threads thread ≡ get_or (lengths threads) thread 0 = calls_at threads thread in
    let more : sums (drop thread (lengths threads)) ≡ get_or (lengths threads) thread 0 + sums (drop (suc thread) (lengths threads)) =
    sums_from (lengths threads) thread (omega (arith, inside, same)) in
    let less : sums (drop thread walk.done.items) ≡ get_or walk.done.items thread 0 + sums (drop (suc thread) walk.done.items) =
    sums_from walk.done.items thread (omega (arith, inside, long)) in
    let next : number - left + sums (drop (suc thread) walk.done.items) < sums (drop (suc thread) (lengths threads)) =
    omega (arith, from, calls, more, less, of, few) in
    let same : thread + 1 ≡ suc thread = omega arith in
    rw same next

-- the call is one of this thread, which then has a call left
pub is_left : (search : Search) (walk : Walk) (thread number left : ℕ) → IsWalk search walk →
    left + get_or walk.done.items thread 0 ≡ calls_of_thread search.program.now.threads.items thread → number < left →
    HasCallLeft search.program.now walk.done.items thread
is_left search walk thread number left is of few =
    let calls = calls_at search.program.now.threads.items thread in
    call_left search.program.now.threads.items walk.done.items thread (omega (arith, calls, of, few))

-- ---- one more call

pub walks_further : (search : Search) (old new : Walk) (thread : ℕ) (call : Invocation) (cells : List Value) (outcome : Outcome) →
    IsWalk search old →
    next_call search.program.now old.done.items thread ≡ Some call →
    IsOver search.program.now search.turns call old.heap cells outcome →
    new.heap ≡ cells → undone new.overwritten.items new.heap ≡ opening_heap search.program.now → new.done.items ≡ one_more old.done.items thread →
    new.answers.items ≡ answered search.program.now old.done.items thread outcome old.answers.items →
    new.order.items ≡ old.order.items ++ thread ∷ [] →
    IsWalk search new × (length new.order.items ≡ suc (length old.order.items))
walks_further search old new thread call cells outcome is next over heap_is back done answers order =
    let program = search.program.now in
    let after = left_after program old.done.items thread over.finished (left_of old) in
    let outcomes : answered program old.done.items thread outcome old.answers.items ≡ after.answers =
    ap (λ (o : Outcome). answered program old.done.items thread o old.answers.items) over.outcome_is in
    let left : left_of new ≡ after = both_left (left_of new) after (heap_is ∙ over.heap_is) (answers ∙ outcomes) in
    let leads = leads_further program search.turns (none_done program) (start_of search) old.order.items old.done.items (left_of old) thread call over.finished is.leads next over.over in
    let long : length (old.order.items ++ thread ∷ []) ≡ length old.order.items + 1 = length-append old.order.items (thread ∷ []) in (
      record {
        back = back;
        cells = subst (HasCells program) (sym heap_is) over.there;
        typed = subst (IsHeap program) (sym heap_is) over.typed;
        leads = rw (order, done, left) leads;
      },
      ap length order ∙ long ∙ omega arith,
    )

pub goes_beyond : (search : Search) (walk : Walk) (thread : ℕ) (call : Invocation) → IsWalk search walk →
    next_call search.program.now walk.done.items thread ≡ Some call → run_call search.program.now search.turns call walk.heap ≡ Beyond_turns →
    IsBeyond search.program.now search.turns (start_of search) walk.order.items thread
goes_beyond search walk thread call is next beyond =
    record { done = walk.done.items; left = left_of walk; call = call; leads = is.leads; next = next; beyond = beyond }

-- ---- the ends

-- the state after a walk, reduced to what is asked for, is an end
end_of_walk : (search : Search) (old new : Drawing) (end : IsNewEnd search.asked.now.cells old new) → IsWalk search old.walk →
    length old.walk.order.items ≡ calls_together search.program.now.threads.items →
    IsEnd search new.trail
    (record { done = old.walk.done.items; left = seen search.asked.now.cells (left_of old.walk); orders = 1; first = end.first })
end_of_walk search old new end is long =
    let program = search.program.now in
    record {
      left = left_of old.walk;
      good = record {
        threads = (walk_fits search old.walk is).0;
        cells = is.cells;
        typed = is.typed;
        first = end.within;
        long = ap length end.order ∙ long;
        leads = subst (λ (o : List ℕ). Leads program search.turns (none_done program) (start_of search) o old.walk.done.items (left_of old.walk))
            (sym end.order) is.leads;
      };
      seen_is = refl;
    }

-- the order of a walk is an order of all calls
walk_in_order : (search : Search) (walk : Walk) → IsWalk search walk →
    length walk.order.items ≡ calls_together search.program.now.threads.items →
    Contains (orders search.program.now) walk.order.items
walk_in_order search walk is long =
    let program = search.program.now in
    subst (λ (k : ℕ). Contains (orders_of program k (none_done program)) walk.order.items) long
    (leads_in_order program search.turns (none_done program) (start_of search) walk.order.items walk.done.items (left_of walk) is.leads)

-- the end of one more order
ends_pushed : (search : Search) (walk : Walk) (f : Option Left → ℕ) (drawn : List (List ℕ)) → IsWalk search walk →
    sum_of_ends search f (drawn ++ walk.order.items ∷ [])
    ≡ sum_of_ends search f drawn + f (Some (seen search.asked.now.cells (left_of walk)))
ends_pushed search walk f drawn is =
    let program = search.program.now in
    let see = seen search.asked.now.cells in
    let g : List ℕ → ℕ = λ order. f (option_map see (end_in program search.turns search.asked.now.answers order)) in
    let end = leads_end program search.turns (none_done program) (start_of search) walk.order.items walk.done.items (left_of walk) is.leads in
    sum_by_push g drawn walk.order.items
    ∙ ap (λ (o : Option Left). sum_of_ends search f drawn + f (option_map see o)) end

one_time : (a x : ℕ) → a + 1 * x ≡ a + x
one_time a x = omega arith

-- the sum over the ends grows by the end of the walk
counted_more : (cells : Cells) (old new : Drawing) (w : Left → ℕ) → Notes cells old new →
    counted_in w new.ends.states ≡ counted_in w old.ends.states + w (seen cells (left_of old.walk))
counted_more cells old new w notes =
    let left = seen cells (left_of old.walk) in
    let before = counted_in w old.ends.states in
    elim notes.2 [
      | inl found ↦ total_found (λ (d : List ℕ) (l : Left). w l) old.ends.states new.ends.states old.trail new.trail old.walk.done.items left 1 found ∙ one_time before (w left)
      | inr end ↦ ap (counted_in w) end.ends
          ∙ sum_by_push (λ (r : Reached). r.orders * w r.left) old.ends.states (record { done = old.walk.done.items; left = left; orders = 1; first = end.first })
          ∙ one_time before (w left)
    ]

-- one more order leads to the ends
count_more : (cells : Cells) (old new : Drawing) → Notes cells old new → orders_to new.ends.states ≡ orders_to old.ends.states + 1
count_more cells old new notes =
    elim notes.2 [
      | inl found ↦ orders_found old.ends.states new.ends.states old.trail new.trail old.walk.done.items (seen cells (left_of old.walk)) 1 found
      | inr end ↦ ap orders_to end.ends
          ∙ sum_by_push (λ (r : Reached). r.orders) old.ends.states
          (record { done = old.walk.done.items; left = seen cells (left_of old.walk); orders = 1; first = end.first })
    ]

-- an end whose order was drawn stays one
end_drawn : (search : Search) (trail trail' drawn : List (List ℕ)) (more : List ℕ) (s : Reached) → IsLonger trail trail' →
    IsDrawnEnd search trail drawn s → IsDrawnEnd search trail' (drawn ++ more ∷ []) s
end_drawn search trail trail' drawn more s longer is =
    let same : order_at trail' s.first ≡ order_at trail s.first =
    ap (λ (t : List (List ℕ)). get_or t s.first []) longer.1 ∙ get_or-append trail longer.0 [] s.first is.end.good.first in
    record {
      end = end_longer search trail trail' s longer is.end;
      was_drawn = subst (Contains (drawn ++ more ∷ [])) (sym same) (Contains-append_left drawn (more ∷ []) (order_at trail s.first) is.was_drawn);
    }

drawn_more : (search : Search) (trail drawn : List (List ℕ)) (s : Reached) (more : ℕ) →
    IsDrawnEnd search trail drawn s → IsDrawnEnd search trail drawn (with_more s more)
drawn_more search trail drawn s more is = record { end = end_more search trail s more is.end; was_drawn = is.was_drawn }

ends_drawn : (search : Search) (trail trail' drawn : List (List ℕ)) (more : List ℕ) (ends : List Reached) → IsLonger trail trail' →
    AreApart (IsDrawnEnd search trail drawn) ends → AreApart (IsDrawnEnd search trail' (drawn ++ more ∷ [])) ends
ends_drawn search trail trail' drawn more ends longer are =
    record { each = λ k within. end_drawn search trail trail' drawn more (at ends k) longer (are.each k within); apart = are.apart }

ends_new : (search : Search) (old new : Drawing) (drawn : List (List ℕ)) → IsNewEnd search.asked.now.cells old new → IsWalk search old.walk →
    length old.walk.order.items ≡ calls_together search.program.now.threads.items →
    AreApart (IsDrawnEnd search old.trail drawn) old.ends.states →
    AreApart (IsDrawnEnd search new.trail (drawn ++ old.walk.order.items ∷ [])) new.ends.states
ends_new search old new drawn end is long are =
    let order = old.walk.order.items in
    let more = drawn ++ order ∷ [] in
    subst (AreApart (IsDrawnEnd search new.trail more)) (sym end.ends)
    (push_apart (IsDrawnEnd search new.trail more) old.ends.states
    (record { done = old.walk.done.items; left = seen search.asked.now.cells (left_of old.walk); orders = 1; first = end.first })
    end.none
    (record { end = end_of_walk search old new end is long; was_drawn = subst (Contains more) (sym end.order) (Contains-push drawn order) })
    (ends_drawn search old.trail new.trail drawn order old.ends.states end.longer are))

ends_found : (search : Search) (trail trail' drawn : List (List ℕ)) (more : List ℕ) (old new : List Reached) (done : List ℕ) (left : Left) →
    IsFound old new trail trail' done left 1 → AreApart (IsDrawnEnd search trail drawn) old →
    AreApart (IsDrawnEnd search trail' (drawn ++ more ∷ [])) new
ends_found search trail trail' drawn more old new done left found are =
    let drawn' = drawn ++ more ∷ [] in
    subst (AreApart (IsDrawnEnd search trail' drawn')) (sym found.states)
    (set_apart (IsDrawnEnd search trail' drawn') old found.number 1 (drawn_more search trail' drawn')
    (ends_drawn search trail trail' drawn more old ([], found.trail_is ∙ sym (append-nil trail)) are))

begun_longer : (old new : List (List ℕ)) → IsLonger old new → IsBegun old → IsBegun new
begun_longer old new longer begun =
    let long : length new ≡ length old + length longer.0 = ap length longer.1 ∙ length-append old longer.0 in (
      omega (arith, long, begun.0),
      ap (λ (t : List (List ℕ)). get_or t 0 []) longer.1 ∙ get_or-append old longer.0 [] 0 begun.0 ∙ begun.1,
    )

-- before any order is drawn
pub no_ends_drawn : (search : Search) (drawing : Drawing) → undone drawing.walk.overwritten.items drawing.walk.heap ≡ opening_heap search.program.now →
    drawing.ends.opening ≡ seen_cells search.asked.now.cells (opening_heap search.program.now) → IsBegun drawing.trail →
    drawing.ends.states ≡ [] → AreEndsOf search drawing 0
no_ends_drawn search drawing back opening begun none =
    record {
      back = back;
      opening = opening;
      begun = begun;
      count = ap orders_to none;
      drawn = [];
      are_orders = λ k d within. absurd (omega arith);
      as_many = refl;
      ends = rw none (record { each = λ k within. absurd (omega arith); apart = λ j k below within alike. omega arith });
      counts = λ f. ap (counted_in (λ (left : Left). f (Some left))) none;
    }

-- the walk before an order is noted, and the ends of the orders before it
pub ends_more : (search : Search) (before old new : Drawing) (k : ℕ) → AreEndsOf search before k → old.ends ≡ before.ends → old.trail ≡ before.trail →
    IsWalk search old.walk → length old.walk.order.items ≡ calls_together search.program.now.threads.items →
    Notes search.asked.now.cells old new → AreEndsOf search new (k + 1)
ends_more search before old new k are ends_are trail_is is long notes =
    let program = search.program.now in
    let cells = search.asked.now.cells in
    let left = seen cells (left_of old.walk) in
    let order = old.walk.order.items in
    let drawn = are.drawn in
    let states : old.ends.states ≡ before.ends.states = ap (λ (l : Layered). l.states) ends_are in
    let begun : IsBegun old.trail = subst IsBegun (sym trail_is) are.begun in
    let apart : AreApart (IsDrawnEnd search old.trail drawn) old.ends.states =
    subst (AreApart (IsDrawnEnd search old.trail drawn)) (sym states)
    (subst (λ (t : List (List ℕ)). AreApart (IsDrawnEnd search t drawn) before.ends.states) (sym trail_is) are.ends) in
    record {
      back = subst (λ (w : Walk). undone w.overwritten.items w.heap ≡ opening_heap program) (sym notes.0) is.back;
      opening = notes.1 ∙ ap (λ (l : Layered). l.opening) ends_are ∙ are.opening;
      begun = elim notes.2 [
        | inl found ↦ subst IsBegun (sym found.trail_is) begun
        | inr end ↦ begun_longer old.trail new.trail end.longer begun
      ];
      count = count_more cells old new notes ∙ ap (λ (n : ℕ). n + 1) (ap orders_to states ∙ are.count);
      drawn = drawn ++ order ∷ [];
      are_orders = All-push (Contains (orders program)) drawn order are.are_orders (walk_in_order search old.walk is long);
      as_many = length-append drawn (order ∷ []) ∙ ap (λ (n : ℕ). n + 1) are.as_many;
      ends = elim notes.2 [
        | inl found ↦ ends_found search old.trail new.trail drawn order old.ends.states new.ends.states old.walk.done.items left found apart
        | inr end ↦ ends_new search old new drawn end is long apart
      ];
      counts = λ f.
          counted_more cells old new (λ (l : Left). f (Some l)) notes
          ∙ ap (λ (n : ℕ). n + f (Some left)) (ap (counted_in (λ (l : Left). f (Some l))) states ∙ are.counts f)
          ∙ sym (ends_pushed search old.walk f drawn is);
    }

-- each reported order was drawn
told_drawn : (search : Search) (trail drawn : List (List ℕ)) (ends : List Reached) → AreApart (IsDrawnEnd search trail drawn) ends →
    All (λ (e : Told). Contains drawn e.order) (map (as_told trail) ends)
told_drawn search trail drawn ends are k d within =
    let inside : k < length ends = rw length-map at within in
    subst (λ (e : Told). Contains drawn e.order) (sym (told_at trail ends k d within)) (are.each k inside).was_drawn

pub are_drawn_ends : OverIsWhole → (search : Search) (drawing : Drawing) (count : ℕ) (told : List Told) →
    search.most < length (orders search.program.now) → AreEndsOf search drawing count → count ≡ search.most →
    told ≡ map (as_told drawing.trail) drawing.ends.states →
    AreDrawnEnds search.program.now search.turns search.most search.asked.now told
are_drawn_ends law search drawing count told more are all is =
    let trail = drawing.trail in
    let ends = drawing.ends.states in
    let apart : AreEnds search trail ends = record { each = λ k within. (are.ends.each k within).end; apart = are.ends.apart } in
    subst (AreDrawnEnds search.program.now search.turns search.most search.asked.now) (sym is) (record {
      more = more;
      drawn = are.drawn;
      are_orders = are.are_orders;
      as_many = are.as_many ∙ all;
      each = all_end law search trail ends apart;
      was_drawn = told_drawn search trail are.drawn ends are.ends;
      apart = ends_apart search trail ends apart;
      counts = λ test.
          sym (are.counts (λ (end : Option Left). cond (test end) 1 0))
          ∙ sum_told (λ (s : Reached). s.orders * cond (test (Some s.left)) 1 0) (λ (e : Told). cond (test (Some e.left)) e.count 0) trail ends
          (λ s. times_test (test (Some s.left)) s.orders);
    })
