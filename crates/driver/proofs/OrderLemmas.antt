-- The calls of an order, one after another, and where the turns stop them.
use Rattle.std.proofs.Common.{◌≡◌, ◌∙◌, ℕ, ◌+◌, ◌≤◌, suc, List, [], ◌∷◌, ◌++◌, length, get_or, slice_get, Option}
use Rattle.std.proofs.Common.{Some, None, ap, sym, refl, subst, arith, append_assoc, append-nil, length-append}
use Rattle.std.specs.Option.{option_map, option_to_list}
use Rattle.std.proofs.lemmas.List.{map-append}
use Rattle.std.proofs.Math.ListN.{length-set}
use Rattle.core_lang.specs.declared.typed.Call.{Call}
use Rattle.core_lang.specs.declared.typed.Thread.{Thread}
use Rattle.core_lang.specs.declared.typed.Typed.{Typed}
use Rattle.core_lang.specs.Laws.{SettledAreSerial, HaveAtMostOneSerial}
use Rattle.core_lang.specs.Serial.{Invocation, Scheduled, Ended, invocation, opening_heap, SerialFromOpening}
use Rattle.core_lang.specs.Typing.{lookup}
use Rattle.core_lang.specs.WellFormed.{IsChecked, CanCall}
use Rattle.outcomes.specs.Ends.{StopsAfter, done_after}
use Rattle.outcomes.specs.Orders.{next_call, one_more, none_done, calls_in}
use Rattle.outcomes.specs.Orders as orders
use Rattle.report.specs.Entry.{Entry}
use Rattle.report.specs.History.{unsettled_of}
use Rattle.driver.specs.declared.status.Status.{Status}
use Rattle.driver.specs.declared.status.Status.TheVariants.{Unsettled}
use Rattle.driver.specs.Outcomes.{scheduled_next, scheduled_from, scheduled_in, StopsInOrder}
use Rattle.driver.specs.Working.Running.{CanMake, StopsAt, progress_of}
use Rattle.driver.specs.Serial.{calls_of, entries}
use Rattle.driver.proofs.SerialLemmas.{settled_ahead, entries_ahead}

-- ---- the threads of the calls

-- the next call of a thread is a call of its script
pub record IsOfScript (program : Typed) (done : List ℕ) (t : ℕ) (call : Invocation) : Type 0 where
  pub thread : Thread
  pub of : Call
  pub there : slice_get program.threads.items t ≡ Some thread
  pub in_script : slice_get thread.calls.items (get_or done t 0) ≡ Some of
  pub is : invocation of ≡ call

in_script : (program : Typed) (done : List ℕ) (t : ℕ) (call : Invocation) (thread : Thread) (o : Option Call) →
    slice_get program.threads.items t ≡ Some thread →
    slice_get thread.calls.items (get_or done t 0) ≡ o → option_map invocation o ≡ Some call → IsOfScript program done t call
in_script program done t call thread None there script is = cc
in_script program done t call thread (Some of) there script is =
    let same : invocation of ≡ call = cc in
    record { thread = thread; of = of; there = there; in_script = script; is = same }

in_thread : (program : Typed) (done : List ℕ) (t : ℕ) (call : Invocation) (o : Option Thread) →
    slice_get program.threads.items t ≡ o →
    lookup o (λ (thread : Thread). option_map invocation (slice_get thread.calls.items (get_or done t 0))) ≡ Some call → IsOfScript program done t call
in_thread program done t call None there is = cc
in_thread program done t call (Some thread) there is =
    in_script program done t call thread (slice_get thread.calls.items (get_or done t 0)) there refl is

pub next_of_script : (program : Typed) (done : List ℕ) (t : ℕ) (call : Invocation) →
    next_call program done t ≡ Some call → IsOfScript program done t call
next_of_script program done t call is = in_thread program done t call (slice_get program.threads.items t) refl is

-- the calls of an order can be made
can_make_next : (program : Typed) → IsChecked program → (done order : List ℕ) (t : ℕ) (o : Option Invocation) →
    next_call program done t ≡ o →
    CanMake program (scheduled_from program (one_more done t) order) →
    CanMake program (option_to_list (option_map (λ (call : Invocation). record { thread = t; step = get_or done t 0; call = call }) o) ++ scheduled_from program (one_more done t) order)
can_make_next program checked done order t None is rest = rest
can_make_next program checked done order t (Some call) is rest =
    let of = next_of_script program done t call is in (
      subst (λ (c : Invocation). CanCall program c.section c.arguments) of.is
          (checked.scripts t (get_or done t 0) of.thread of.of of.there of.in_script),
      rest,
    )

pub can_make_order : (program : Typed) → IsChecked program → (done order : List ℕ) →
    CanMake program (scheduled_from program done order)
can_make_order program checked done [] = tt
can_make_order program checked done (t ∷ order) =
    can_make_next program checked done order t (next_call program done t) refl (can_make_order program checked (one_more done t) order)

-- ---- the same calls

-- a next call, without its thread
called_next : (program : Typed) (done : List ℕ) (t : ℕ) (o : Option Invocation) →
    calls_of (option_to_list (option_map (λ (call : Invocation). record { thread = t; step = get_or done t 0; call = call }) o)) ≡ option_to_list o
called_next program done t None = refl
called_next program done t (Some call) = refl

pub called : (program : Typed) (done order : List ℕ) →
    calls_of (scheduled_from program done order) ≡ orders.calls_of program done order
called program done [] = refl
called program done (t ∷ order) =
    map-append (λ (s : Scheduled). s.call) (option_to_list (scheduled_next program done t)) (scheduled_from program (one_more done t) order)
    ∙ ap (λ (cs : List Invocation). cs ++ calls_of (scheduled_from program (one_more done t) order)) (called_next program done t (next_call program done t))
    ∙ ap (λ (cs : List Invocation). option_to_list (next_call program done t) ++ cs) (called program (one_more done t) order)

-- ---- each thread has a call left

at_most_one : (o : Option Invocation) → length (option_to_list o) ≤ 1
at_most_one None = omega arith
at_most_one (Some call) = omega arith

few_calls : (program : Typed) (done order : List ℕ) → length (orders.calls_of program done order) ≤ length order
few_calls program done [] = omega arith
few_calls program done (t ∷ order) =
    let both = length-append (option_to_list (next_call program done t)) (orders.calls_of program (one_more done t) order) in
    let one = at_most_one (next_call program done t) in
    let rest = few_calls program (one_more done t) order in
    omega (arith, both, one, rest)

-- as many calls as threads: the first one has a call, and so have the others after it
pub record HasCall (program : Typed) (done : List ℕ) (t : ℕ) (order : List ℕ) : Type 0 where
  pub call : Invocation
  pub next : next_call program done t ≡ Some call
  pub rest : length (orders.calls_of program (one_more done t) order) ≡ length order

has_call_if : (program : Typed) (done : List ℕ) (t : ℕ) (order : List ℕ) (o : Option Invocation) →
    next_call program done t ≡ o →
    length (option_to_list o ++ orders.calls_of program (one_more done t) order) ≡ suc (length order) → HasCall program done t order
has_call_if program done t order None is made = absurd (let few = few_calls program (one_more done t) order in omega (arith, few, made))
has_call_if program done t order (Some call) is made = record { call = call; next = is; rest = omega (arith, made) }

pub has_call : (program : Typed) (done : List ℕ) (t : ℕ) (order : List ℕ) →
    length (orders.calls_of program done (t ∷ order)) ≡ length (t ∷ order) →
    HasCall program done t order
has_call program done t order made = has_call_if program done t order (next_call program done t) refl made

abbrev pub with_place : List ℕ → ℕ → Invocation → Scheduled
with_place done t call = record { thread = t; step = get_or done t 0; call = call }

pub begins_with : (program : Typed) (done : List ℕ) (t : ℕ) (order : List ℕ) (call : Invocation) →
    next_call program done t ≡ Some call →
    scheduled_from program done (t ∷ order) ≡ with_place done t call ∷ scheduled_from program (one_more done t) order
begins_with program done t order call next =
    ap (λ (o : Option Invocation). option_to_list (option_map (with_place done t) o) ++ scheduled_from program (one_more done t) order) next

-- ---- along an order

-- the calls so far and those of the rest of the order are the calls of the order
pub record IsAlong (program : Typed) (order : List ℕ) (ss : List Scheduled) (done rest : List ℕ) : Type 0 where
  pub calls : ss ++ scheduled_from program done rest ≡ scheduled_in program order
  pub after : done_after done rest ≡ done_after (none_done program) order
  pub threads : length done ≡ length program.threads.items
  pub made : length (orders.calls_of program done rest) ≡ length rest

pub along_further : (program : Typed) (order : List ℕ) (ss : List Scheduled) (done : List ℕ) (t : ℕ) (rest : List ℕ) (s : Scheduled) →
    IsAlong program order ss done (t ∷ rest) → Some s ≡ scheduled_next program done t →
    IsAlong program order (ss ++ s ∷ []) (one_more done t) rest
along_further program order ss done t rest s along is =
    let has = has_call program done t rest along.made in
    let same : Some s ≡ Some (with_place done t has.call) = is ∙ ap (λ (o : Option Invocation). option_map (with_place done t) o) has.next in
    let one : s ≡ with_place done t has.call = cc in
    record {
      calls = append_assoc ss (s ∷ []) (scheduled_from program (one_more done t) rest)
          ∙ ap (λ (x : Scheduled). ss ++ x ∷ scheduled_from program (one_more done t) rest) one
          ∙ ap (λ (xs : List Scheduled). ss ++ xs) (sym (begins_with program done t rest has.call has.next)) ∙ along.calls;
      after = along.after;
      threads = length-set done t (get_or done t 0 + 1) ∙ along.threads;
      made = has.rest;
    }

step_of : (done : List ℕ) (t : ℕ) (o : Option Invocation) (s : Scheduled) →
    Some s ≡ option_map (with_place done t) o → s.step ≡ get_or done t 0
step_of done t None s is = cc
step_of done t (Some call) s is = let same : s ≡ with_place done t call = cc in ap (λ (x : Scheduled). x.step) same

-- the number of a thread's next call is the number of its calls that are done
pub step_is : (program : Typed) (done : List ℕ) (t : ℕ) (s : Scheduled) → Some s ≡ scheduled_next program done t →
    s.step ≡ get_or done t 0
step_is program done t s is = step_of done t (next_call program done t) s is

pub never_stuck : (program : Typed) (order : List ℕ) (ss : List Scheduled) (done : List ℕ) (t : ℕ) (rest : List ℕ) →
    IsAlong program order ss done (t ∷ rest) → None ≡ scheduled_next program done t → ⊥
never_stuck program order ss done t rest along none =
    let has = has_call program done t rest along.made in
    let is : None ≡ Some (with_place done t has.call) = none ∙ ap (λ (o : Option Invocation). option_map (with_place done t) o) has.next in
    cc

pub along_end : (program : Typed) (order : List ℕ) (ss : List Scheduled) (done : List ℕ) →
    IsAlong program order ss done [] →
    (ss ≡ scheduled_in program order) × (done ≡ done_after (none_done program) order)
along_end program order ss done along = (sym (append-nil ss) ∙ along.calls, along.after)

-- ---- the call at which the turns run out

-- the calls of an order before one of them are those of the order's beginning, after which that one comes next
pub record IsBeginning (program : Typed) (done : List ℕ) (before : List Scheduled) (this : Scheduled) : Type 0 where
  pub order : List ℕ
  pub calls : before ≡ scheduled_from program done order
  pub made : length (orders.calls_of program done order) ≡ length order
  pub next : next_call program (done_after done order) this.thread ≡ Some this.call
  pub step : this.step ≡ get_or (done_after done order) this.thread 0

one_longer : (program : Typed) (done : List ℕ) (t : ℕ) (call : Invocation) (order : List ℕ) →
    next_call program done t ≡ Some call →
    length (orders.calls_of program (one_more done t) order) ≡ length order →
    length (orders.calls_of program done (t ∷ order)) ≡ length (t ∷ order)
one_longer program done t call order next rest =
    ap (λ (o : Option Invocation). length (option_to_list o ++ orders.calls_of program (one_more done t) order)) next ∙ ap (λ (n : ℕ). suc n) rest

head_is : {A : Type 0} (x y : A) (xs ys : List A) → x ∷ xs ≡ y ∷ ys → (x ≡ y) × (xs ≡ ys)
head_is x y xs ys same = (cc, cc)

pub beginning : (program : Typed) (done order : List ℕ) (before : List Scheduled) (this : Scheduled) (after : List Scheduled) →
    length (orders.calls_of program done order) ≡ length order → scheduled_from program done order ≡ before ++ this ∷ after →
    IsBeginning program done before this
beginning program done [] [] this after made parts = cc
beginning program done [] (b ∷ before) this after made parts = cc
beginning program done (t ∷ order) [] this after made parts =
    let has = has_call program done t order made in
    let is = (head_is (with_place done t has.call) this _ _ (sym (begins_with program done t order has.call has.next) ∙ parts)).0 in
    record {
      order = [];
      calls = refl;
      made = refl;
      next = ap (λ (s : Scheduled). next_call program done s.thread) (sym is) ∙ has.next ∙ ap (λ (s : Scheduled). Some s.call) is;
      step = ap (λ (s : Scheduled). s.step) (sym is) ∙ ap (λ (s : Scheduled). get_or done s.thread 0) is;
    }
beginning program done (t ∷ order) (b ∷ before) this after made parts =
    let has = has_call program done t order made in
    let is = head_is (with_place done t has.call) b _ _ (sym (begins_with program done t order has.call has.next) ∙ parts) in
    let more = beginning program (one_more done t) order before this after has.rest is.1 in
    record {
      order = t ∷ more.order;
      calls = ap (λ (s : Scheduled). s ∷ before) (sym is.0) ∙ ap (λ (ss : List Scheduled). with_place done t has.call ∷ ss) more.calls
          ∙ sym (begins_with program done t more.order has.call has.next);
      made = one_longer program done t has.call more.order has.next more.made;
      next = more.next;
      step = more.step;
    }

-- the turns run out within one of the order's calls
pub stops_inside : SettledAreSerial →
    (turns : ℕ) (program : Typed) (order : List ℕ) (thread step : ℕ) (es : List Entry) (status : Status) (out err : List ℕ) →
    length (calls_in program order) ≡ length order → StopsAt turns program (scheduled_in program order) (thread, step) →
    es ≡ entries (scheduled_in program order) (progress_of turns program (scheduled_in program order)).ends →
    status ≡ Unsettled → out ≡ unsettled_of program es thread step → err ≡ [] → StopsInOrder turns program status out err
stops_inside law turns program order thread step es status out err made stops records ended is none =
    let ss = scheduled_in program order in
    let ends = (progress_of turns program ss).ends in
    let ran = settled_ahead law turns program ss stops.before (stops.this ∷ stops.after) stops.parts stops.unsettled in
    let begin = beginning program (none_done program) order stops.before stops.this stops.after made stops.parts in
    let calls : calls_of stops.before ≡ calls_in program begin.order = ap calls_of begin.calls ∙ called program (none_done program) begin.order in
    let ahead : es ≡ entries (scheduled_in program begin.order) ends =
    records ∙ ap (λ (xs : List Scheduled). entries xs ends) stops.parts
    ∙ entries_ahead program (opening_heap program) (progress_of turns program ss).heap stops.before (stops.this ∷ stops.after) ends ran
    ∙ ap (λ (xs : List Scheduled). entries xs ends) begin.calls in
    let here : (thread ≡ stops.this.thread) × (step ≡ stops.this.step) = (ap (λ (p : ℕ × ℕ). p.0) stops.here, ap (λ (p : ℕ × ℕ). p.1) stops.here) in
    record {
      order = begin.order;
      thread = stops.this.thread;
      stops = record {
        ends = ends;
        heap = (progress_of turns program ss).heap;
        serial = subst (λ (cs : List Invocation). SerialFromOpening program cs ends (progress_of turns program ss).heap) calls ran;
        made = begin.made;
        call = stops.this.call;
        next = begin.next;
        beyond = stops.beyond;
      };
      ended = ended;
      written = is ∙ ap (λ (xs : List Entry). unsettled_of program xs thread step) ahead
          ∙ ap (λ (t : ℕ). unsettled_of program (entries (scheduled_in program begin.order) ends) t step) here.0
          ∙ ap (λ (k : ℕ). unsettled_of program (entries (scheduled_in program begin.order) ends) stops.this.thread k) (here.1 ∙ begin.step);
      told = none;
    }

-- the turns settle all calls of the order
pub stops_behind : SettledAreSerial → HaveAtMostOneSerial →
    (turns : ℕ) (program : Typed) (order : List ℕ) (thread : ℕ) (es : List Entry) (status : Status) (out err : List ℕ) →
    (stops : StopsAfter program turns order thread) → (progress_of turns program (scheduled_in program order)).unsettled ≡ [] →
    es ≡ entries (scheduled_in program order) (progress_of turns program (scheduled_in program order)).ends →
    status ≡ Unsettled → out ≡ unsettled_of program es thread (get_or (done_after (none_done program) order) thread 0) → err ≡ [] →
    StopsInOrder turns program status out err
stops_behind law one turns program order thread es status out err stops settled records ended is none =
    let ss = scheduled_in program order in
    let p = progress_of turns program ss in
    let ran = settled_ahead law turns program ss ss [] (sym (append-nil ss)) settled in
    let serial : SerialFromOpening program (calls_in program order) p.ends p.heap =
    subst (λ (cs : List Invocation). SerialFromOpening program cs p.ends p.heap) (called program (none_done program) order) ran in
    let same : p.ends ≡ stops.ends = (one program (opening_heap program) p.heap stops.heap (calls_in program order) p.ends stops.ends serial stops.serial).0 in
    record {
      order = order;
      thread = thread;
      stops = stops;
      ended = ended;
      written = is ∙ ap (λ (xs : List Entry). unsettled_of program xs thread (get_or (done_after (none_done program) order) thread 0))
          (records ∙ ap (λ (xs : List Ended). entries ss xs) same);
      told = none;
    }
