-- Threads with any scripts, and a plan with them.
use Rattle.std.proofs.Common.{◌≡◌, ◌<◌, ◌≤◌, ◌^◌, ℕ, zero, suc, List, [], ◌∷◌, length, map, take, slice_get, Some, refl}
use Rattle.std.proofs.Common.{sym, ap, ◌∙◌, subst, arith, Vec, String, Global}
use Rattle.std.proofs.lemmas.Str.{IsUtf8-nil}
use Rattle.std.proofs.lemmas.List.{length-map}
use denote.RawPtr.{null_ptr}
use Rattle.core_lang.specs.declared.tree.Local.{Local}
use Rattle.core_lang.specs.declared.typed.Call.{Call}
use Rattle.core_lang.specs.declared.typed.Thread.{Thread}
use Rattle.core_lang.specs.declared.typed.Typed.{Typed}
use Rattle.core_lang.specs.declared.value.Value.{Value}
use Rattle.core_lang.specs.Serial.{Invocation, invocation}
use Rattle.core_lang.specs.Laws.{WrittenOutBindsInOrder}
use Rattle.core_lang.specs.Typing.{local_types}
use Rattle.core_lang.specs.WellFormed.{CanCall, calls_together, IsChecked}
use Rattle.core_lang.specs.Theory.Items.{map_at}
use Rattle.core_lang.specs.Theory.Openings.{have_length}
use Rattle.core_lang_helpers.proofs.WellFormed.{well_formed}
use Rattle.lowering.specs.Plans.{Plan, IsCompiled}
use Rattle.worlds.specs.Worlds.{script_of}
use Rattle.c_threads.specs.Outside.{count_of, AreCallsOf, with_threads, with_scripts}
use Rattle.c_threads.specs.Outside.{CallsMayComeFromOutside}
use Rattle.c_threads.proofs.Same.{checked, no_fault, laid, ranked, rise, placed, expanded}

-- ---- lists in memory

abbrev vec : {X : Type 0} (alloc : Global) (xs : List X) → length xs < 2 ^ 63 → Vec X Global
vec alloc xs small =
    record { ptr = null_ptr; len = length xs; cap = length xs; alloc = alloc; items = xs; ok = (refl, omega arith); small = small }

-- threads do not depend on their names
nameless : Global → String Global
nameless alloc = record { bytes = vec alloc [] (omega arith); ok = ∣ IsUtf8-nil ∣₁ }

abbrev AreSmall : List Invocation → Type 0
AreSmall script = (k : ℕ) (call : Invocation) → slice_get script k ≡ Some call → length call.arguments < 2 ^ 63

module _ (alloc : Global) where
  calls_of : (script : List Invocation) → AreSmall script → List Call
  calls_of [] small = []
  calls_of (call ∷ script) small =
      record { section = call.section; arguments = vec alloc call.arguments (small 0 call refl) }
      ∷ calls_of script (λ k x e. small (suc k) x e)

  calls_are : (script : List Invocation) (small : AreSmall script) → map invocation (calls_of script small) ≡ script
  unfolding calls_of
  calls_are [] small = refl
  calls_are (call ∷ script) small = ap (λ rest. call ∷ rest) (calls_are script (λ k x e. small (suc k) x e))

  many_calls : (script : List Invocation) (small : AreSmall script) → length (calls_of script small) ≡ length script
  many_calls script small =
      sym (length-map (calls_of script small) invocation) ∙ ap (λ (xs : List Invocation). length xs) (calls_are script small)

  thread_of : (script : List Invocation) (small : AreSmall script) → length script < 2 ^ 63 → Thread
  thread_of script small few = record {
    name = nameless alloc;
    calls = vec alloc (calls_of script small) (subst (λ n. n < 2 ^ 63) (sym (many_calls script small)) few);
  }

  thread_is : (script : List Invocation) (small : AreSmall script) (few : length script < 2 ^ 63) →
      script_of (thread_of script small few) ≡ script
  unfolding thread_of
  thread_is script small few = calls_are script small

  record AllSmall (calls : List (List Invocation)) : Type 0 where
    each : (t : ℕ) (script : List Invocation) → slice_get calls t ≡ Some script → AreSmall script
    few : (t : ℕ) (script : List Invocation) → slice_get calls t ≡ Some script → length script < 2 ^ 63

  behind : (script : List Invocation) (calls : List (List Invocation)) → AllSmall (script ∷ calls) → AllSmall calls
  behind script calls small = record { each = λ t x e. small.each (suc t) x e; few = λ t x e. small.few (suc t) x e }

  threads_of : (calls : List (List Invocation)) → AllSmall calls → List Thread
  threads_of [] small = []
  threads_of (script ∷ calls) small =
      thread_of script (small.each 0 script refl) (small.few 0 script refl) ∷ threads_of calls (behind script calls small)

  threads_are : (calls : List (List Invocation)) (small : AllSmall calls) → map script_of (threads_of calls small) ≡ calls
  unfolding threads_of
  threads_are [] small = refl
  threads_are (script ∷ calls) small =
      ap (λ x. x ∷ map script_of (threads_of calls (behind script calls small)))
      (thread_is script (small.each 0 script refl) (small.few 0 script refl))
      ∙ ap (λ xs. script ∷ xs) (threads_are calls (behind script calls small))

-- ---- how many there are

scripts_count : (threads : List Thread) → calls_together threads ≡ count_of (map script_of threads)
scripts_count [] = refl
scripts_count (thread ∷ threads) =
    let rest = scripts_count threads in
    let first = length-map thread.calls.items invocation in
    omega (arith, rest, first)

count_each : (calls : List (List Invocation)) (t : ℕ) (script : List Invocation) → slice_get calls t ≡ Some script →
    length script ≤ count_of calls
count_each [] t script e = absurd cc
count_each (x ∷ calls) zero script e =
    let same : x ≡ script = cc e in
    let length_is = ap (λ (xs : List Invocation). length xs) same in
    omega (arith, length_is)
count_each (x ∷ calls) (suc t) script e = let more = count_each calls t script e in omega (arith, more)

take_few : (n : ℕ) (xs : List Local) → length (take n xs) ≤ n
take_few zero xs = omega arith
take_few (suc n) [] = omega arith
take_few (suc n) (x ∷ xs) = let rest = take_few n xs in omega (arith, rest)

-- arguments that fit are no more than 8
arguments_few : (program : Typed) → IsChecked program → (number : ℕ) (arguments : List Value) →
    CanCall program number arguments → length arguments < 2 ^ 63
unfolding CanCall
arguments_few program ok number arguments (section, is, fit) =
    let own = take section.parameters section.locals.items in
    let one = have_length program.shape (local_types own) arguments fit in
    let two = length-map own (λ (local : Local). local.value_type) in
    let three = take_few section.parameters section.locals.items in
    let four = ok.within.parameters number section is in
    omega (arith, one, two, three, four)

-- ---- the plan

module _ (in_order : WrittenOutBindsInOrder) (plan : Plan) (ok : IsCompiled plan) (calls : List (List Invocation))
    (are : AreCallsOf plan.accepted calls) where
  abbrev alloc : Global
  alloc = plan.accepted.threads.alloc

  small : AllSmall alloc calls
  small = record {
    each = λ t script is k call has.
        arguments_few plan.accepted ok.checked call.section call.arguments (are.fit t k script call is has);
    few = λ t script is. (let less = count_each calls t script is in let most = are.together in omega (arith, less, most));
  }

  list : List Thread
  list = threads_of alloc calls small

  list_is : map script_of list ≡ calls
  unfolding list
  list_is = threads_are alloc calls small

  many : length list ≡ length calls
  many = sym (length-map list script_of) ∙ ap (λ (xs : List (List Invocation)). length xs) list_is

  abbrev threads : Vec Thread Global
  threads = vec alloc list (let few = are.threads in omega (arith, many, few))

  together : calls_together list ≤ 100000
  together = (let count = scripts_count list ∙ ap count_of list_is in let most = are.together in omega (arith, count, most))

  fits : (i k : ℕ) (thread : Thread) (call : Call) → slice_get list i ≡ Some thread → slice_get thread.calls.items k ≡ Some call →
      CanCall plan.accepted call.section call.arguments.items
  fits i k thread call is has =
      let script : slice_get calls i ≡ Some (script_of thread) =
      ap (λ (xs : List (List Invocation)). slice_get xs i) (sym list_is) ∙ map_at script_of list i thread is in
      are.fit i k (script_of thread) (invocation call) script (map_at invocation thread.calls.items k call has)

  abbrev accepted : Typed
  accepted = with_threads plan.accepted threads

  abbrev program : Typed
  program = with_threads plan.program threads

  accepted_checked : IsChecked accepted
  accepted_checked = checked plan.accepted threads ok.checked (let few = are.threads in omega (arith, many, few)) together fits

  compiled : IsCompiled (with_scripts plan threads)
  compiled =
      let out = expanded plan.accepted plan.program threads ok.expanded in
      record {
        checked = accepted_checked;
        expanded = out;
        well_formed = well_formed accepted program accepted_checked out.expansion out.besides out.locals in_order;
        stable = no_fault plan.program threads ok.stable;
        ranked = ranked plan.program threads plan.ranks ok.ranked;
        rise = rise plan.program threads plan.ranks ok.rise;
        placed = placed plan.program threads plan.ranks plan.lists ok.placed;
        laid_out = laid plan.program threads plan.layout ok.laid_out;
      }

pub calls_may_come : WrittenOutBindsInOrder → CallsMayComeFromOutside
calls_may_come in_order plan calls ok are = record {
  threads = threads in_order plan ok calls are;
  are = list_is in_order plan ok calls are;
  compiled = compiled in_order plan ok calls are;
}
