-- Calls lead from state to state.
use Rattle.std.proofs.Common.{◌≡◌, ◌∙◌, ℕ, ◌+◌, ◌<◌, suc, List, [], ◌∷◌, ◌++◌, length, get_or, slice_get, Option, Some}
use Rattle.std.proofs.Common.{None, ◌⊎◌, inl, inr, ap, sym, subst, refl, arith, length-append, append_assoc, slice_set}
use Rattle.std.proofs.Common.{get_or-set_same, get_or-set_other}
use Rattle.std.specs.List.{Contains}
use Rattle.std.proofs.Math.ListN.{get_or-append, length-set}
use Rattle.std.proofs.Math.Seq.{get_or-append_seam}
use Rattle.std.proofs.lemmas.Option.{slice_get_within}
use Rattle.std.proofs.lemmas.Bool.{cases_eq}
use Rattle.core_lang.specs.declared.typed.Typed.{Typed}
use Rattle.core_lang.specs.Serial.{Invocation, Ended, Serial, end_of, run_call}
use Rattle.core_lang.specs.Typing.{lookup, IsHeap, HasCells}
use Rattle.core_lang.specs.Laws.{OverIsWhole}
use Rattle.core_lang.specs.Whole.{Finished, Over}
use Rattle.outcomes.specs.Orders.{next_call, one_more, none_done, orders_of, calls_of}
use Rattle.outcomes.specs.Ends.{Left, answers_after}
use Rattle.outcomes.specs.Working.States.{Reached, NoneIsAlike, at, nowhere, with_more}
use Rattle.outcomes.specs.Working.Trails.{longer, IsLonger}
use Rattle.outcomes.specs.Working.Searching.{left_after, Leads, order_at, IsGood, AreApart, AreGood, IsFound, IsAdded}
use Rattle.outcomes.specs.Theory.Done.{among_begun}

-- one more call
pub leads_further : (program : Typed) (n : ℕ) (done : List ℕ) (heap : Left) (order done' : List ℕ) (heap' : Left) (t : ℕ) (call : Invocation) (finished : Finished) →
    Leads program n done heap order done' heap' → next_call program done' t ≡ Some call → run_call program n call heap'.cells ≡ Over finished →
    Leads program n done heap (order ++ t ∷ []) (one_more done' t) (left_after program done' t finished heap')
leads_further program n done heap [] done' heap' t call finished there next over = (
  call,
  finished,
  ap (λ (d : List ℕ). next_call program d t) there.0 ∙ next,
  ap (λ (l : Left). run_call program n call l.cells) there.1 ∙ over,
  (ap (λ (d : List ℕ). one_more d t) there.0, ap (λ (d : List ℕ). left_after program d t finished heap) there.0 ∙ ap (left_after program done' t finished) there.1),
)
leads_further program n done heap (x ∷ order) done' heap' t call finished there next over =
    (there.0, there.1, there.2, there.3, leads_further program n (one_more done x) (left_after program done x there.1 heap) order done' heap' t call finished there.4 next over)

-- calls that lead to a heap are run serially
pub leads_serially : OverIsWhole →
    (program : Typed) (n : ℕ) (done : List ℕ) (heap : Left) (order done' : List ℕ) (heap' : Left) →
    Leads program n done heap order done' heap' →
    (ends : List Ended) × Serial program heap.cells (calls_of program done order) ends heap'.cells
    × (heap'.answers ≡ answers_after program done order ends heap.answers)
leads_serially law program n done heap [] done' heap' there =
    ([], ap (λ (l : Left). l.cells) there.1, sym (ap (λ (l : Left). l.answers) there.1))
leads_serially law program n done heap (t ∷ order) done' heap' there =
    let rest = leads_serially law program n (one_more done t) (left_after program done t there.1 heap) order done' heap' there.4 in (
      end_of there.1 ∷ rest.0,
      subst (λ (c : Option Invocation). Serial program heap.cells (Rattle.std.specs.Option.option_to_list c ++ calls_of program (one_more done t) order) (end_of there.1 ∷ rest.0) heap'.cells)
          (sym there.2) (there.1, law program n there.0 heap.cells there.1 there.3, refl, rest.1),
      rest.2,
    )

-- each call of an order is the next one of its thread
pub leads_made : (program : Typed) (n : ℕ) (done : List ℕ) (heap : Left) (order done' : List ℕ) (heap' : Left) →
    Leads program n done heap order done' heap' → length (calls_of program done order) ≡ length order
leads_made program n done heap [] done' heap' there = refl
leads_made program n done heap (t ∷ order) done' heap' there =
    ap (λ (c : Option Invocation). length (Rattle.std.specs.Option.option_to_list c ++ calls_of program (one_more done t) order)) there.2
    ∙ ap (λ (k : ℕ). suc k) (leads_made program n (one_more done t) (left_after program done t there.1 heap) order done' heap' there.4)

-- ---- such calls are orders

some_of_lookup : {A B : Type 0} (o : Option A) (go : A → Option B) (b : B) → lookup o go ≡ Some b →
    (a : A) × (o ≡ Some a)
some_of_lookup None go b is = cc
some_of_lookup (Some a) go b is = (a, refl)

-- a thread that has a call is a thread of the program
pub next_within : (program : Typed) (done : List ℕ) (t : ℕ) (call : Invocation) →
    next_call program done t ≡ Some call → t < length program.threads.items
next_within program done t call next =
    let there = some_of_lookup (slice_get program.threads.items t) _ call next in
    slice_get_within program.threads.items t there.0 there.1

-- calls that lead to a state are one of the orders
pub leads_in_order : (program : Typed) (n : ℕ) (done : List ℕ) (heap : Left) (order done' : List ℕ) (heap' : Left) →
    Leads program n done heap order done' heap' → Contains (orders_of program (length order) done) order
leads_in_order program n done heap [] done' heap' there = (0, omega arith, refl)
leads_in_order program n done heap (t ∷ order) done' heap' there =
    among_begun program (orders_of program (length order)) done (length program.threads.items) t there.0 order
    (next_within program done t there.0 there.2) there.2
    (leads_in_order program n (one_more done t) (left_after program done t there.1 heap) order done' heap' there.4)

-- ---- states stay good

-- the same in a longer trail
pub good_longer : (program : Typed) (n depth : ℕ) (start : Left) (trail trail' : List (List ℕ)) (s : Reached) → IsLonger trail trail' →
    IsGood program n depth start trail s → IsGood program n depth start trail' s
good_longer program n depth start trail trail' s longer good =
    let same : order_at trail' s.first ≡ order_at trail s.first =
    ap (λ (t : List (List ℕ)). get_or t s.first []) longer.1 ∙ get_or-append trail longer.0 [] s.first good.first in
    let long : length trail' ≡ length trail + length longer.0 = ap length longer.1 ∙ length-append trail longer.0 in
    record {
      threads = good.threads;
      cells = good.cells;
      typed = good.typed;
      first = omega (arith, good.first, long);
      long = ap length same ∙ good.long;
      leads = subst (λ (o : List ℕ). Leads program n (none_done program) start o s.done s.left) (sym same) good.leads;
    }

pub longer_again : (a b c : List (List ℕ)) → IsLonger a b → IsLonger b c → IsLonger a c
longer_again a b c ab bc = (ab.0 ++ bc.0, bc.1 ∙ ap (λ (x : List (List ℕ)). x ++ bc.0) ab.1 ∙ append_assoc a ab.0 bc.0)

-- more orders lead to one of the states
pub good_more : (program : Typed) (n depth more : ℕ) (start : Left) (trail : List (List ℕ)) (s : Reached) →
    IsGood program n depth start trail s → IsGood program n depth start trail (with_more s more)
good_more program n depth more start trail s good =
    record { threads = good.threads; cells = good.cells; typed = good.typed; first = good.first; long = good.long; leads = good.leads }

-- a state is unchanged, but may have more orders
IsStill : Reached → Reached → ℕ → Type 0
IsStill s s' more = (s' ≡ s) ⊎ (s' ≡ with_more s more)

still_there : (states : List Reached) (number k more : ℕ) → k < length states →
    IsStill (at states k) (at (slice_set states number (with_more (at states number) more)) k) more
unfolding IsStill
still_there states number k more within =
    elim (cases_eq k number) [
      | inl same ↦ inr (subst (λ (x : ℕ). at (slice_set states x (with_more (at states x) more)) k ≡ with_more (at states k) more) same
          (get_or-set_same states k (with_more (at states k) more) nowhere within))
      | inr other ↦ inl (get_or-set_other states number k (with_more (at states number) more) nowhere other)
    ]

still_done : (s s' : Reached) (more : ℕ) → IsStill s s' more → s'.done ≡ s.done
unfolding IsStill
still_done s s' more still = elim still [ inl same ↦ ap (λ (x : Reached). x.done) same | inr same ↦ ap (λ (x : Reached). x.done) same ]

still_left : (s s' : Reached) (more : ℕ) → IsStill s s' more → s'.left ≡ s.left
unfolding IsStill
still_left s s' more still = elim still [ inl same ↦ ap (λ (x : Reached). x.left) same | inr same ↦ ap (λ (x : Reached). x.left) same ]

-- a property that more orders keep
abbrev pub Allows : (Reached → Type 0) → Type 0
Allows Is = (s : Reached) (more : ℕ) → Is s → Is (with_more s more)

still_is : (Is : Reached → Type 0) (s s' : Reached) (more : ℕ) → Allows Is → IsStill s s' more → Is s → Is s'
unfolding IsStill
still_is Is s s' more allows still is =
    elim still [ inl same ↦ subst Is (sym same) is | inr same ↦ subst Is (sym same) (allows s more is) ]

pub set_apart : (Is : Reached → Type 0) (states : List Reached) (number more : ℕ) → Allows Is →
    AreApart Is states → AreApart Is (slice_set states number (with_more (at states number) more))
set_apart Is states number more allows good =
    let new = slice_set states number (with_more (at states number) more) in
    let long : length new ≡ length states = length-set states number (with_more (at states number) more) in
    record {
      each = λ k within. (let inside : k < length states = omega (arith, within, long) in
          still_is Is (at states k) (at new k) more allows (still_there states number k more inside) (good.each k inside));
      apart = λ j k below within alike. (
          let inside : k < length states = omega (arith, within, long) in
          let first : j < length states = omega (arith, below, inside) in
          let sk = still_there states number k more inside in
          let sj = still_there states number j more first in
          good.apart j k below inside (
            sym (still_done (at states j) (at new j) more sj) ∙ alike.0 ∙ still_done (at states k) (at new k) more sk,
            sym (still_left (at states j) (at new j) more sj) ∙ alike.1 ∙ still_left (at states k) (at new k) more sk,
          ));
    }

pub good_found : (program : Typed) (n depth : ℕ) (start : Left) (trail trail' : List (List ℕ)) (old new : List Reached) (done : List ℕ) (heap : Left) (more : ℕ) →
    IsFound old new trail trail' done heap more → AreGood program n depth start trail old → AreGood program n depth start trail' new
good_found program n depth start trail trail' old new done heap more found good =
    subst (AreGood program n depth start trail') (sym found.states)
    (subst (λ (t : List (List ℕ)). AreGood program n depth start t (slice_set old found.number (with_more (at old found.number) more))) (sym found.trail_is)
    (set_apart (IsGood program n depth start trail) old found.number more (λ s k. good_more program n depth k start trail s) good))

-- the state that is added
pub good_child : (program : Typed) (n depth : ℕ) (start : Left) (trail trail' : List (List ℕ)) (s : Reached) (t : ℕ) (call : Invocation) (finished : Finished) (more : ℕ) →
    IsGood program n depth start trail s → next_call program s.done t ≡ Some call → run_call program n call s.left.cells ≡ Over finished →
    HasCells program finished.heap → IsHeap program finished.heap → trail' ≡ trail ++ longer trail s.first t ∷ [] →
    IsGood program n (suc depth) start trail' (record { done = one_more s.done t; left = left_after program s.done t finished s.left; orders = more; first = length trail })
good_child program n depth start trail trail' s t call finished more good next over cells typed trail_is =
    let same : order_at trail' (length trail) ≡ order_at trail s.first ++ t ∷ [] =
    ap (λ (x : List (List ℕ)). get_or x (length trail) []) trail_is ∙ get_or-append_seam trail (longer trail s.first t) [] [] in
    let long : length trail' ≡ length trail + 1 = ap length trail_is ∙ length-append trail (longer trail s.first t ∷ []) in
    let deep : length (order_at trail s.first ++ t ∷ []) ≡ length (order_at trail s.first) + 1 = length-append (order_at trail s.first) (t ∷ []) in
    record {
      threads = length-set s.done t _ ∙ good.threads;
      cells = cells;
      typed = typed;
      first = omega arith;
      long = ap length same ∙ omega (arith, deep, good.long);
      leads = subst (λ (o : List ℕ). Leads program n (none_done program) start o (one_more s.done t) (left_after program s.done t finished s.left)) (sym same)
          (leads_further program n (none_done program) start (order_at trail s.first) s.done s.left t call finished good.leads next over);
    }

pub all_longer : (program : Typed) (n depth : ℕ) (start : Left) (trail trail' : List (List ℕ)) (states : List Reached) →
    IsLonger trail trail' →
    AreGood program n depth start trail states → AreGood program n depth start trail' states
all_longer program n depth start trail trail' states longer good =
    record { each = λ k within. good_longer program n depth start trail trail' (at states k) longer (good.each k within); apart = good.apart }

-- the last item of a list, or an earlier one
at_pushed : (states : List Reached) (s : Reached) (k : ℕ) → k < length (states ++ s ∷ []) →
    ((k < length states) × (at (states ++ s ∷ []) k ≡ at states k)) ⊎ ((k ≡ length states) × (at (states ++ s ∷ []) k ≡ s))
at_pushed states s k within =
    elim (cases_eq k (length states)) [
      | inl same ↦ inr (same, ap (at (states ++ s ∷ [])) same ∙ get_or-append_seam states s [] nowhere)
      | inr other ↦ (let inside : k < length states = (let long = length-append states (s ∷ []) in omega arith) in inl (inside, get_or-append states (s ∷ []) nowhere k inside))
    ]

pub push_apart : (Is : Reached → Type 0) (states : List Reached) (s : Reached) →
    NoneIsAlike s.done s.left states → Is s → AreApart Is states → AreApart Is (states ++ s ∷ [])
push_apart Is states s none child good =
    record {
      each = λ k within. elim (at_pushed states s k within) [
        | inl old ↦ subst Is (sym old.1) (good.each k old.0)
        | inr new ↦ subst Is (sym new.1) child
      ];
      apart = λ j k below within alike.
          let first : j < length (states ++ s ∷ []) = omega (arith, below, within) in
          elim (at_pushed states s j first) [
            | inl oldj ↦ (elim (at_pushed states s k within) [
              | inl oldk ↦ good.apart j k below oldk.0 (
                sym (ap (λ (x : Reached). x.done) oldj.1) ∙ alike.0 ∙ ap (λ (x : Reached). x.done) oldk.1,
                sym (ap (λ (x : Reached). x.left) oldj.1) ∙ alike.1 ∙ ap (λ (x : Reached). x.left) oldk.1,
              )
              | inr newk ↦ none j oldj.0 (
                sym (ap (λ (x : Reached). x.done) oldj.1) ∙ alike.0 ∙ ap (λ (x : Reached). x.done) newk.1,
                sym (ap (λ (x : Reached). x.left) oldj.1) ∙ alike.1 ∙ ap (λ (x : Reached). x.left) newk.1,
              )
            ])
            | inr newj ↦ absurd (let long = length-append states (s ∷ []) in let at_end : j ≡ length states = newj.0 in omega arith)
          ];
    }

pub good_added : (program : Typed) (n depth : ℕ) (start : Left) (trail trail' : List (List ℕ)) (old new : List Reached) (done : List ℕ) (heap : Left) (more from thread : ℕ) →
    IsAdded old new trail trail' done heap more from thread → IsGood program n depth start trail' (record { done = done; left = heap; orders = more; first = length trail }) →
    AreGood program n depth start trail old → AreGood program n depth start trail' new
good_added program n depth start trail trail' old new done heap more from thread added child good =
    subst (AreGood program n depth start trail') (sym added.states)
    (push_apart (IsGood program n depth start trail') old (record { done = done; left = heap; orders = more; first = length trail }) added.none child
    (all_longer program n depth start trail trail' old (longer trail from thread ∷ [], added.trail_is) good))
