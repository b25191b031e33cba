-- The threads of a history that has each thread's script are an order of all calls.
use Rattle.std.proofs.Common.{◌≡◌, ◌∙◌, ℕ, ◌+◌, ◌<◌, ◌≤◌, ◌==◌, zero, suc, List, [], ◌∷◌, ◌++◌, length, map, drop}
use Rattle.std.proofs.Common.{get_or, get_or-set_same, get_or-set_other, slice_get, Option, Some, ap, sym, subst, refl}
use Rattle.std.proofs.Common.{arith, inl, inr}
use Rattle.std.specs.Option.{option_map, option_to_list}
use Rattle.std.specs.List.{Contains}
use Rattle.std.proofs.lemmas.Bool.{cases_eq, cond-true, cond-false, eq-eqb, ne_eqb}
use Rattle.std.proofs.lemmas.List.{length-map}
use Rattle.std.proofs.Math.ListN.{length-set}
use Rattle.core_lang.specs.declared.typed.Call.{Call}
use Rattle.core_lang.specs.declared.typed.Thread.{Thread}
use Rattle.core_lang.specs.declared.typed.Typed.{Typed}
use Rattle.core_lang.specs.Serial.{Invocation, Scheduled, invocation}
use Rattle.core_lang.specs.Typing.{lookup}
use Rattle.history.specs.Commits.{Commit, call_of, script_call}
use Rattle.outcomes.specs.Orders.{next_call, one_more, orders_of, calls_of}
use Rattle.worlds.specs.Claims.{calls_by, numbered}
use Rattle.outcomes.specs.Theory.Done.{length-lengths, sums_set, sums, lengths, among_begun}
use Rattle.theorems.specs.EndsTold.{order_of}
use Rattle.theorems.proofs.Counts.{same_at, length_at}

-- ---- lists

-- `xs` has `y` at `k`, and `ys` after it
pub record IsParted {A : Type 0} (xs : List A) (k : ℕ) (y : A) (ys : List A) : Type 0 where
  pub here : slice_get xs k ≡ Some y
  pub behind : drop (suc k) xs ≡ ys
  pub within : k < length xs

drop_at : {A : Type 0} (xs : List A) (k : ℕ) (y : A) (ys : List A) → drop k xs ≡ y ∷ ys → IsParted xs k y ys
drop_at [] zero y ys parts = cc
drop_at [] (suc k) y ys parts = cc
drop_at (x ∷ xs) zero y ys parts = record { here = cc; behind = cc; within = omega arith }
drop_at (x ∷ xs) (suc k) y ys parts =
    let rest = drop_at xs k y ys parts in record { here = rest.here; behind = rest.behind; within = (let w = rest.within in omega arith) }

drop_none : {A : Type 0} (xs : List A) (k : ℕ) → drop k xs ≡ [] → length xs ≤ k
drop_none [] k none = omega arith
drop_none (x ∷ xs) zero none = cc
drop_none (x ∷ xs) (suc k) none = let rest = drop_none xs k none in omega arith

thread_at : (ts : List Thread) (t : ℕ) → t < length ts → (thread : Thread) × (slice_get ts t ≡ Some thread)
thread_at [] t within = absurd (omega arith)
thread_at (x ∷ ts) zero within = (x, refl)
thread_at (x ∷ ts) (suc t) within = thread_at ts t (omega arith)

mapped_at : (calls : List Call) (k : ℕ) → option_map invocation (slice_get calls k) ≡ slice_get (map invocation calls) k
mapped_at [] zero = refl
mapped_at [] (suc k) = refl
mapped_at (c ∷ calls) zero = refl
mapped_at (c ∷ calls) (suc k) = mapped_at calls k

-- ---- calls with their numbers

record IsNumbered (t s : ℕ) (xs : List Invocation) (first : Scheduled) (rest : List Scheduled) : Type 0 where
  call : Invocation
  calls : List Invocation
  parts : xs ≡ call ∷ calls
  is : first ≡ record { thread = t; step = s; call = call }
  behind : rest ≡ numbered t (s + 1) calls

numbered_first : (t s : ℕ) (xs : List Invocation) (first : Scheduled) (rest : List Scheduled) →
    first ∷ rest ≡ numbered t s xs → IsNumbered t s xs first rest
numbered_first t s [] first rest is = cc
numbered_first t s (x ∷ xs) first rest is = record { call = x; calls = xs; parts = refl; is = cc; behind = cc }

numbered_none : (t s : ℕ) (xs : List Invocation) → [] ≡ numbered t s xs → xs ≡ []
numbered_none t s [] none = refl
numbered_none t s (x ∷ xs) none = cc

own_call : (t : ℕ) (c : Commit) (cs : List Commit) → c.thread ≡ t → calls_by t (c ∷ cs) ≡ script_call c ∷ calls_by t cs
own_call t c cs same = cond-true (c.thread == t) (script_call c ∷ calls_by t cs) (calls_by t cs) (eq-eqb c.thread t same)

other_call : (t : ℕ) (c : Commit) (cs : List Commit) → (c.thread ≡ t → ⊥) → calls_by t (c ∷ cs) ≡ calls_by t cs
other_call t c cs apart = cond-false (c.thread == t) (script_call c ∷ calls_by t cs) (calls_by t cs) (ne_eqb c.thread t apart)

-- ---- a history of the remaining calls of the scripts

abbrev pub AreOf : ℕ → List Commit → Type 0
AreOf n [] = Unit {0}
AreOf n (c ∷ cs) = (c.thread < n) × AreOf n cs

pub all_of : (n : ℕ) (h : List Commit) →
    ((position : ℕ) (c : Commit) → slice_get h position ≡ Some c → c.thread < n) → AreOf n h
all_of n [] each = tt
all_of n (c ∷ cs) each = (each 0 c refl, all_of n cs (λ position x there. each (suc position) x there))

abbrev pub script : Thread → List Invocation
script thread = map invocation thread.calls.items

pub record Follows (program : Typed) (done : List ℕ) (h : List Commit) : Type 0 where
  pub threads : length done ≡ length program.threads.items
  pub few : (t : ℕ) (thread : Thread) → slice_get program.threads.items t ≡ Some thread →
      get_or done t 0 ≤ length thread.calls.items
  pub calls : (t : ℕ) (thread : Thread) → slice_get program.threads.items t ≡ Some thread →
      calls_by t h ≡ numbered t (get_or done t 0) (drop (get_or done t 0) (script thread))
  pub nobody : AreOf (length program.threads.items) h

record GoesOn (program : Typed) (done : List ℕ) (c : Commit) (cs : List Commit) : Type 0 where
  next : next_call program done c.thread ≡ Some (call_of c)
  rest : Follows program (one_more done c.thread) cs

-- the first call of the history is the next one of its thread
record IsFirst (done : List ℕ) (c : Commit) (cs : List Commit) (thread : Thread) : Type 0 where
  here : slice_get (script thread) (get_or done c.thread 0) ≡ Some (call_of c)
  within : get_or done c.thread 0 < length thread.calls.items
  behind : calls_by c.thread cs ≡ numbered c.thread (get_or done c.thread 0 + 1) (drop (suc (get_or done c.thread 0)) (script thread))

first_call : (program : Typed) (done : List ℕ) (c : Commit) (cs : List Commit) (thread : Thread) →
    Follows program done (c ∷ cs) →
    slice_get program.threads.items c.thread ≡ Some thread → IsFirst done c cs thread
first_call program done c cs thread follows there =
    let t = c.thread in
    let d = get_or done t 0 in
    let first = numbered_first t d (drop d (script thread)) (script_call c) (calls_by t cs) (sym (own_call t c cs refl) ∙ follows.calls t thread there) in
    let at = drop_at (script thread) d first.call first.calls first.parts in
    let call : call_of c ≡ first.call = ap (λ (s : Scheduled). s.call) first.is in
    let long : length (script thread) ≡ length thread.calls.items = length-map thread.calls.items invocation in
    record {
      here = at.here ∙ ap (λ (x : Invocation). Some x) (sym call);
      within = (let w = at.within in omega (arith, w, long));
      behind = first.behind ∙ ap (λ (xs : List Invocation). numbered t (d + 1) xs) (sym at.behind);
    }

one_thread : (ts : List Thread) (t : ℕ) (a b : Thread) → slice_get ts t ≡ Some a → slice_get ts t ≡ Some b → a ≡ b
one_thread ts t a b is_a is_b = let same : Some a ≡ Some b = sym is_a ∙ is_b in cc

-- the remaining calls of the thread itself
own_left : (program : Typed) (done : List ℕ) (c : Commit) (cs : List Commit) (thread : Thread) →
    IsFirst done c cs thread → c.thread < length done →
    (calls_by c.thread cs ≡ numbered c.thread (get_or (one_more done c.thread) c.thread 0) (drop (get_or (one_more done c.thread) c.thread 0) (script thread)))
    × (get_or (one_more done c.thread) c.thread 0 ≤ length thread.calls.items)
own_left program done c cs thread first within =
    let d = get_or done c.thread 0 in
    let at : get_or (one_more done c.thread) c.thread 0 ≡ d + 1 = get_or-set_same done c.thread (d + 1) 0 within in
    let more : d + 1 ≡ suc d = omega arith in
    let w = first.within in (
      first.behind ∙ ap (λ (n : ℕ). numbered c.thread (d + 1) (drop n (script thread))) (sym more)
          ∙ ap (λ (n : ℕ). numbered c.thread n (drop n (script thread))) (sym at),
      omega (arith, at, w),
    )

goes_on : (program : Typed) (done : List ℕ) (c : Commit) (cs : List Commit) → Follows program done (c ∷ cs) →
    GoesOn program done c cs
goes_on program done c cs follows =
    let t = c.thread in
    let d = get_or done t 0 in
    let found = thread_at program.threads.items t follows.nobody.0 in
    let thread = found.0 in
    let first = first_call program done c cs thread follows found.1 in
    let within : t < length done = (let w = follows.nobody.0 in let l = follows.threads in omega (arith, w, l)) in
    let own = own_left program done c cs thread first within in
    record {
      next = ap (λ (o : Option Thread). lookup o (λ (x : Thread). option_map invocation (slice_get x.calls.items d))) found.1
          ∙ mapped_at thread.calls.items d ∙ first.here;
      rest = record {
        threads = length-set done t (d + 1) ∙ follows.threads;
        few = λ u x there. elim (cases_eq u t) [
          | inl same ↦ (let is : thread ≡ x = one_thread program.threads.items t thread x found.1 (subst (λ (k : ℕ). slice_get program.threads.items k ≡ Some x) same there) in
              subst (λ (k : ℕ). get_or (one_more done t) k 0 ≤ length x.calls.items) (sym same)
              (subst (λ (y : Thread). get_or (one_more done t) t 0 ≤ length y.calls.items) is own.1))
          | inr other ↦ (let at : get_or (one_more done t) u 0 ≡ get_or done u 0 = get_or-set_other done t u (d + 1) 0 other in
              let f = follows.few u x there in omega (arith, at, f))
        ];
        calls = λ u x there. elim (cases_eq u t) [
          | inl same ↦ (let is : thread ≡ x = one_thread program.threads.items t thread x found.1 (subst (λ (k : ℕ). slice_get program.threads.items k ≡ Some x) same there) in
              subst (λ (k : ℕ). calls_by k cs ≡ numbered k (get_or (one_more done t) k 0) (drop (get_or (one_more done t) k 0) (script x))) (sym same)
              (subst (λ (y : Thread). calls_by t cs ≡ numbered t (get_or (one_more done t) t 0) (drop (get_or (one_more done t) t 0) (script y))) is own.0))
          | inr other ↦ (let at : get_or (one_more done t) u 0 ≡ get_or done u 0 = get_or-set_other done t u (d + 1) 0 other in
              sym (other_call u c cs (λ same. other (sym same))) ∙ follows.calls u x there
              ∙ ap (λ (n : ℕ). numbered u n (drop n (script x))) (sym at))
        ];
        nobody = follows.nobody.1;
      };
    }

-- ---- among all orders

-- the threads of the history are an order of its length, with the history's calls, which are all remaining calls
pub record IsWhole (program : Typed) (done : List ℕ) (h : List Commit) : Type 0 where
  pub among : Contains (orders_of program (length h) done) (order_of h)
  pub calls : calls_of program done (order_of h) ≡ map call_of h
  pub sum : sums done + length h ≡ sums (lengths program.threads.items)

none_left : (program : Typed) (done : List ℕ) → Follows program done [] → (k : ℕ) → k < length done →
    get_or done k 0 ≡ get_or (lengths program.threads.items) k 0
none_left program done follows k within =
    let long = follows.threads in
    let found = thread_at program.threads.items k (omega (arith, within, long)) in
    let d = get_or done k 0 in
    let most : length (script found.0) ≤ d = drop_none (script found.0) d (numbered_none k d (drop d (script found.0)) (follows.calls k found.0 found.1)) in
    let same : length (script found.0) ≡ length found.0.calls.items = length-map found.0.calls.items invocation in
    let few : d ≤ length found.0.calls.items = follows.few k found.0 found.1 in
    let at : get_or (lengths program.threads.items) k 0 ≡ length found.0.calls.items = length_at program.threads.items k found.0 found.1 in
    omega (arith, most, same, few, at)

pub whole : (program : Typed) (h : List Commit) (done : List ℕ) → Follows program done h → IsWhole program done h
whole program [] done follows =
    let same : sums done ≡ sums (lengths program.threads.items) =
    same_at done (lengths program.threads.items) (follows.threads ∙ sym (length-lengths program.threads.items)) (none_left program done follows) in
    record { among = (0, omega arith, refl); calls = refl; sum = omega (arith, same) }
whole program (c ∷ cs) done follows =
    let on = goes_on program done c cs follows in
    let rest = whole program cs (one_more done c.thread) on.rest in
    let within : c.thread < length done = (let w = follows.nobody.0 in let l = follows.threads in omega (arith, w, l)) in
    let more : sums (one_more done c.thread) ≡ suc (sums done) = sums_set done c.thread within in
    let sum = rest.sum in
    record {
      among = among_begun program (orders_of program (length cs)) done (length program.threads.items) c.thread (call_of c) (order_of cs)
          follows.nobody.0 on.next rest.among;
      calls = ap (λ (o : Option Invocation). option_to_list o ++ calls_of program (one_more done c.thread) (order_of cs)) on.next
          ∙ ap (λ (xs : List Invocation). call_of c ∷ xs) rest.calls;
      sum = omega (arith, more, sum);
    }
