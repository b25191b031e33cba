-- If the seats are those of all threads, the history has their scripts.
use Rattle.std.proofs.Common.{◌≡◌, ℕ, zero, suc, ◌+◌, ◌<◌, ◌==◌, Bool, true, false, if◌then◌else◌, List, [], ◌∷◌, ◌++◌}
use Rattle.std.proofs.Common.{length, refl, sym, ◌∙◌, ap, subst, map, take, get_or, arith, Some, Option, None}
use Rattle.std.proofs.Common.{slice_get, option_map}
use Rattle.std.specs.Prelude.{slice_index_or}
use Rattle.std.proofs.lemmas.Bool.{cond-true, eq-eqb}
use Rattle.std.proofs.lemmas.Option.{slice_get-map, slice_get_within, get_or_from_slice_get}
use Rattle.std.specs.Option.{option_map_or}
use Rattle.std.proofs.lemmas.List.{length-map, map-append, take_all, take_more}
use Rattle.core_lang.specs.declared.typed.Thread.{Thread}
use Rattle.worlds.specs.Worlds.{script_of, call_at}
use Rattle.std.specs.List.{All}
use Rattle.std.proofs.lemmas.List.Elements.{All-get_or}
use Rattle.core_lang.specs.Serial.{Invocation}
use Rattle.history.specs.Commits.{Commit, call_of}
use Rattle.worlds.specs.Claims.{AreOfScripts}
use Rattle.lowering.specs.Plans.{Plan}
use Rattle.worlds.specs.Theory.Steps.{each_of_scripts}
use Rattle.workers.specs.Seats.{SeatOf, ReplyOf, AreBegunInTurn}
use Rattle.workers.specs.Working.Within.{AreInOrder, HasCalls}
use Rattle.workers.specs.Answers.{AnswersAreIn, IsSeated, HasScript, call_in, reply_at, replies_of, in_step, script_at}

pub has_script : (plan : Plan) (count : ℕ) (seats : List SeatOf) (log : List Commit) → AreInOrder plan count seats →
    All (AnswersAreIn log) seats → (t : ℕ) → t < count → HasScript plan log t
has_script plan count seats log order sit t below =
    let d : SeatOf = record { thread = 0; answers = []; seen = [] } in
    let s = get_or seats t d in
    let k : t < length seats = omega (arith, order.long) in
    let is : s.thread ≡ t = order.threads t d k in
    let here : AnswersAreIn log s = All-get_or (AnswersAreIn log) seats t d k sit in
    record {
      calls = ap (λ n. Some (map call_in (replies_of n 0 log))) (sym is) ∙ ap (λ (hs : List ReplyOf). Some (map call_in hs)) (sym here.answers) ∙ order.calls t d k ∙ ap (script_at plan) is;
      begun = subst (λ n. AreBegunInTurn 0 (replies_of n 0 log)) is (subst (AreBegunInTurn 0) here.answers here.begun);
      steps = ap (λ n. in_step n 0 log) (sym is) ∙ here.steps;
    }

-- the calls of a thread
pub has_calls : (plan : Plan) (t : ℕ) (thread : Thread) → slice_get plan.program.threads.items t ≡ Some thread →
    HasCalls plan t (length thread.calls.items)
has_calls plan t thread is = record {
  script = script_of thread;
  is = slice_get-map script_of plan.program.threads.items t ∙ ap (option_map script_of) is;
  long = length-map thread.calls.items _;
}

-- all calls of a script have been answered
pub all_ran : (plan : Plan) (t n : ℕ) (calls : List Invocation) → HasCalls plan t n →
    ((script : List Invocation) → script_at plan t ≡ Some script → calls ≡ take n script) → Some calls ≡ script_at plan t
all_ran plan t n calls has ran =
    ap Some (ran has.script has.is ∙ ap (λ (k : ℕ). take k has.script) (sym has.long) ∙ take_all (length has.script) has.script (omega arith)) ∙ sym has.is

-- one more call of a script has been answered
pub one_more_ran : (plan : Plan) (t step : ℕ) (script : List Invocation) (call : Invocation) (hs : List ReplyOf) (h : ReplyOf) →
    script_at plan t ≡ Some script → call_at plan t step ≡ Some call → h.call ≡ call → map call_in hs ≡ take step script →
    map call_in (hs ++ h ∷ []) ≡ take (step + 1) script
one_more_ran plan t step script call hs h is has same ran =
    let at : slice_get script step ≡ Some call =
    sym (ap (λ (o : Option (List Invocation)). option_map_or (λ (calls : List Invocation). slice_get calls step) o None) is) ∙ has in
    let within : step < length script = slice_get_within script step call at in
    map-append call_in hs (h ∷ []) ∙ ap (λ (cs : List Invocation). cs ++ call_in h ∷ []) ran
    ∙ ap (λ (c : Invocation). take step script ++ c ∷ []) (same ∙ sym (get_or_from_slice_get script step call call at))
    ∙ sym (take_more script step call within)

-- ---- entries are entries of scripts

seated_at : (P : Commit → Type 0) (log : List Commit) (p : ℕ) (c : Commit) → All P log → slice_get log p ≡ Some c → P c
seated_at P log p c sit is = subst P (get_or_from_slice_get log p c c is) (All-get_or P log p c (slice_get_within log p c is) sit)

mapped_or : {X Y : Type 0} (f : X → Y) (xs : List X) (k : ℕ) (d : X) (e : Y) → k < length xs →
    slice_index_or (map f xs) k e ≡ f (slice_index_or xs k d)
mapped_or f [] k d e lt = absurd (omega (arith, lt))
mapped_or f (x ∷ xs) zero d e lt = refl
mapped_or f (x ∷ xs) (suc k) d e lt = mapped_or f xs k d e (omega (arith, lt))

-- a seated thread is one of the first
thread_below : (plan : Plan) (count : ℕ) (seats : List SeatOf) (c : Commit) → AreInOrder plan count seats →
    IsSeated seats c → c.thread < count
thread_below plan count seats c order (k, lt, is) =
    let d : SeatOf = record { thread = 0; answers = []; seen = [] } in
    let below : k < length seats = omega (arith, lt, length-map seats (λ (s : SeatOf). s.thread)) in
    let thread : c.thread ≡ k = sym is ∙ mapped_or (λ (s : SeatOf). s.thread) seats k d c.thread below ∙ order.threads k d below in
    omega (arith, thread, below, order.long)

-- the call of a thread's entry is among the calls that its answers are to
found_reply : (t position : ℕ) (log : List Commit) (p : ℕ) (c : Commit) → slice_get log p ≡ Some c → c.thread ≡ t →
    (k : ℕ) × (slice_get (map call_in (replies_of t position log)) k ≡ Some (call_of c))
found_reply t position [] p c is mine = absurd cc
found_reply t position (x ∷ log) zero c is mine =
    let same : x ≡ c = cc in
    let first : replies_of t position (x ∷ log) ≡ reply_at position x ∷ replies_of t (position + 1) log =
    cond-true (x.thread == t) (reply_at position x ∷ replies_of t (position + 1) log) (replies_of t (position + 1) log)
    (eq-eqb x.thread t (ap (λ (z : Commit). z.thread) same ∙ mine))
    in
    (0, ap (λ (hs : List ReplyOf). slice_get (map call_in hs) 0) first ∙ ap (λ (z : Commit). Some (call_of z)) same)
found_reply t position (x ∷ log) (suc p) c is mine = behind (x.thread == t) (reply_at position x) (found_reply t (position + 1) log p c is mine)
  where
    behind : (b : Bool) (h : ReplyOf) →
        (k : ℕ) × (slice_get (map call_in (replies_of t (position + 1) log)) k ≡ Some (call_of c)) →
        (k : ℕ) × (slice_get (map call_in (if b then h ∷ replies_of t (position + 1) log else replies_of t (position + 1) log)) k ≡ Some (call_of c))
    behind true h r = (suc r.0, r.1)
    behind false h r = r

pub all_of_scripts : (plan : Plan) (count : ℕ) (seats : List SeatOf) (log : List Commit) →
    AreInOrder plan count seats → All (AnswersAreIn log) seats → All (IsSeated seats) log →
    AreOfScripts plan log
all_of_scripts plan count seats log order sit seated =
    each_of_scripts plan log (λ p c is.
    let below = thread_below plan count seats c order (seated_at (IsSeated seats) log p c seated is) in
    let script = has_script plan count seats log order sit c.thread below in
    let found = found_reply c.thread 0 log p c is refl in
    (found.0, ap (λ (o : Option (List Invocation)). option_map_or (λ (calls : List Invocation). slice_get calls found.0) o None) (sym script.calls) ∙ found.1))
