-- A run in which all calls end has an end that is reported.
use Rattle.std.proofs.Common.{◌≡◌, ◌∙◌, ℕ, ◌+◌, ◌<◌, ◌≤◌, zero, suc, List, [], ◌∷◌, length, map, take, drop, replicate}
use Rattle.std.proofs.Common.{get_or, slice_get, Option, Some, None, ap, sym, subst, refl, arith}
use Rattle.std.specs.Option.{option_map_or}
use Rattle.std.specs.List.{Contains}
use Rattle.std.proofs.lemmas.List.{length-map, length-replicate}
use Rattle.std.proofs.lemmas.Option.{slice_get_within}
use Rattle.core_lang.specs.declared.value.Value.{Value}
use Rattle.core_lang.specs.declared.typed.Call.{Call}
use Rattle.core_lang.specs.declared.typed.Thread.{Thread}
use Rattle.core_lang.specs.Serial.{Invocation, SerialFromOpening, invocation}
use Rattle.core_lang.specs.WellFormed.{calls_together}
use Rattle.core_lang_helpers.specs.Data.{CallData, ThreadData, call_data, thread_data}
use Rattle.history.specs.Commits.{answer_of}
use Rattle.locks.specs.declared.lock.Lock.{Lock}
use Rattle.locks.specs.Locks.{lock_of_cell}
use Rattle.lowering.specs.Plans.{Plan, IsCompiled}
use Rattle.outcomes.specs.Orders.{orders, orders_of, none_done}
use Rattle.worlds.specs.Claims.{calls_by, numbered, FollowsScripts, Headline, EveryRunHasIt, HeldCellsAre, FreeCellsAre}
use Rattle.worlds.specs.Worlds.{World, script_of, scripts, final}
use Rattle.theorems.specs.EndsTold.{AllHaveEnded, HoldsHeap, order_of, left_by, EveryEndIsTold}
use Rattle.theorems.proofs.Orders.{Follows, all_of, whole}
use Rattle.core_lang.specs.Theory.Items.{get_some, none_at}
use Rattle.outcomes.specs.Theory.Done.{sums-lengths, sums_zero, zero_at, sums, lengths}

take_all : {A : Type 0} (k : ℕ) (xs : List A) → length xs ≤ k → take k xs ≡ xs
take_all zero [] few = refl
take_all zero (x ∷ xs) few = absurd (omega arith)
take_all (suc k) [] few = refl
take_all (suc k) (x ∷ xs) few = ap (λ ys. x ∷ ys) (take_all k xs (omega arith))

length_numbered : (t s : ℕ) (xs : List Invocation) → length (numbered t s xs) ≡ length xs
length_numbered t s [] = refl
length_numbered t s (x ∷ xs) = ap (λ n. suc n) (length_numbered t (s + 1) xs)

-- ---- the scripts of the compiled program are those of the accepted one

abbrev pub called : CallData → Invocation
called d = record { section = d.section; arguments = d.arguments }

same_calls : (xs ys : List Call) → map call_data xs ≡ map call_data ys → map invocation xs ≡ map invocation ys
same_calls [] [] same = refl
same_calls [] (y ∷ ys) same = cc
same_calls (x ∷ xs) [] same = cc
same_calls (x ∷ xs) (y ∷ ys) same =
    let first : call_data x ≡ call_data y = cc in
    let rest : map call_data xs ≡ map call_data ys = cc in
    ap (λ (d : CallData). called d ∷ map invocation xs) first ∙ ap (λ (cs : List Invocation). invocation y ∷ cs) (same_calls xs ys rest)

same_scripts : (ts us : List Thread) → map thread_data ts ≡ map thread_data us → map script_of ts ≡ map script_of us
same_scripts [] [] same = refl
same_scripts [] (u ∷ us) same = cc
same_scripts (t ∷ ts) [] same = cc
same_scripts (t ∷ ts) (u ∷ us) same =
    let first : thread_data t ≡ thread_data u = cc in
    let rest : map thread_data ts ≡ map thread_data us = cc in
    let calls : map invocation t.calls.items ≡ map invocation u.calls.items = same_calls t.calls.items u.calls.items (ap (λ (d : ThreadData). d.calls) first) in
    ap (λ (cs : List Invocation). cs ∷ map script_of ts) calls ∙ ap (λ (css : List (List Invocation)). script_of u ∷ css) (same_scripts ts us rest)

script_at : (ts : List Thread) (t : ℕ) (x : Thread) → slice_get ts t ≡ Some x →
    slice_get (map script_of ts) t ≡ Some (script_of x)
script_at [] t x there = cc
script_at (y ∷ ts) zero x there = cc
script_at (y ∷ ts) (suc t) x there = script_at ts t x there

-- ---- the history has the scripts

whole_script : (plan : Plan) (w : World) (accepted : List Thread) → map script_of accepted ≡ scripts plan →
    FollowsScripts plan w → AllHaveEnded plan w →
    (t : ℕ) (x : Thread) → slice_get accepted t ≡ Some x → calls_by t w.history ≡ numbered t 0 (script_of x)
whole_script plan w accepted same follows ended t x there =
    let script : slice_get (scripts plan) t ≡ Some (script_of x) = ap (λ (ss : List (List Invocation)). slice_get ss t) (sym same) ∙ script_at accepted t x there in
    let within : t < length w.threads = (let s = slice_get_within (scripts plan) t (script_of x) script in let l = follows.all_threads in omega (arith, s, l)) in
    let state = get_some w.threads t within in
    let none : slice_get (script_of x) state.0.step ≡ None =
    ap (λ (o : Option (List Invocation)). option_map_or (λ (calls : List Invocation). slice_get calls state.0.step) o None) (sym script)
    ∙ ended.none_left t state.0 state.1 in
    let most = none_at (script_of x) state.0.step none in
    let long = length_numbered t 0 (script_of x) in
    follows.calls t state.0 (script_of x) state.1 script
    ∙ take_all state.0.step (numbered t 0 (script_of x)) (omega (arith, most, long))

follows_all : (plan : Plan) (w : World) → IsCompiled plan → FollowsScripts plan w → AllHaveEnded plan w →
    Follows plan.accepted (none_done plan.accepted) w.history
follows_all plan w compiled follows ended =
    let threads = plan.accepted.threads.items in
    let same : map script_of threads ≡ scripts plan = same_scripts threads plan.program.threads.items (sym compiled.expanded.besides.threads) in
    let as_many : length (scripts plan) ≡ length threads = ap length (sym same) ∙ length-map threads script_of in
    let zeros : List ℕ = replicate (length threads) 0 in
    record {
      threads = length-replicate (length threads) 0;
      few = λ t x there. (let z : get_or zeros t 0 ≡ 0 = zero_at (length threads) t in omega (arith, z));
      calls = λ t x there. (let z : get_or zeros t 0 ≡ 0 = zero_at (length threads) t in
          whole_script plan w threads same follows ended t x there ∙ ap (λ (n : ℕ). numbered t n (drop n (script_of x))) (sym z));
      nobody = all_of (length threads) w.history (λ position c there. (let n = follows.nobody_else position c there in omega (arith, n, as_many)));
    }

-- ---- the cells that the history leaves

not_away : (plan : Plan) (w : World) (cell : ℕ) (lock : Lock) (heap : List Value) (o : Option Value) →
    HeldCellsAre plan w → FreeCellsAre w heap → AllHaveEnded plan w →
    lock_of_cell plan.program cell ≡ Some lock → slice_get w.cells cell ≡ Some o → (v : Value) × (slice_get w.cells cell ≡ Some (Some v)) × (slice_get heap cell ≡ Some v)
not_away plan w cell lock heap None held free ended is there =
    let by = (held cell lock is).0 there in absurd (ended.none_open by.by by.section by.is_open)
not_away plan w cell lock heap (Some v) held free ended is there = (v, there, free cell v there)

holds_heap : (plan : Plan) (w : World) (heap : List Value) → IsCompiled plan → HeldCellsAre plan w →
    FreeCellsAre w heap → AllHaveEnded plan w →
    length w.cells ≡ length plan.program.cells.items → HoldsHeap plan w heap
holds_heap plan w heap compiled held free ended all cell within =
    let here = compiled.laid_out.cells in
    let lock = get_some plan.layout.cell_locks cell (omega (arith, within, here)) in
    let value = get_some w.cells cell (omega (arith, within, all)) in
    not_away plan w cell lock.0 heap value.0 held free ended (sym (compiled.laid_out.cell_locks cell) ∙ lock.1) value.1

-- ---- the law

at_the_end : (plan : Plan) (steps : List ℕ) → Headline plan steps → HeldCellsAre plan (final plan steps)
at_the_end plan steps headline =
    subst (λ (xs : List ℕ). HeldCellsAre plan (final plan xs)) (take_all (length steps) steps (omega arith)) (headline.held_cells (length steps))

pub told_so : EveryRunHasIt → EveryEndIsTold
told_so law plan steps asked told compiled ended ends =
    let headline = law plan steps compiled in
    let w = final plan steps in
    let program = plan.accepted in
    let is = whole program w.history (none_done program) (follows_all plan w compiled headline.scripts ended) in
    let zero : sums (none_done program) ≡ 0 = sums_zero (length program.threads.items) in
    let all : sums (lengths program.threads.items) ≡ calls_together program.threads.items = sums-lengths program.threads.items in
    let sum = is.sum in
    let long : length w.history ≡ calls_together program.threads.items = omega (arith, zero, all, sum) in
    let order : Contains (orders program) (order_of w.history) =
    subst (λ (n : ℕ). Contains (orders_of program n (none_done program)) (order_of w.history)) long is.among in
    record {
      heap = headline.heap;
      order = order;
      calls = is.calls;
      answers = headline.results_and_prints;
      cells = holds_heap plan w headline.heap compiled (at_the_end plan steps headline) headline.free_cells ended headline.all_cells;
      end = ends (order_of w.history) (left_by plan asked.answers w.history headline.heap) (record {
        is_order = order;
        ends = map answer_of w.history;
        serial = subst (λ (cs : List Invocation). SerialFromOpening program cs (map answer_of w.history) headline.heap) (sym is.calls) headline.results_and_prints;
        answered = refl;
      });
    }
