-- A closed run of all scripts, call by call in the simulator.
use Rattle.std.proofs.Common.{◌≡◌, ◌∙◌, ◌<◌, ◌+◌, ◌==◌, ◌&&◌, ℕ, zero, suc, true, List, [], ◌∷◌, ◌++◌, length, map}
use Rattle.std.proofs.Common.{drop, replicate, Option, Some, None, slice_get, refl, sym, ap, subst, arith, inl, inr}
use Rattle.std.specs.Option.{option_map, option_map_or}
use Rattle.std.proofs.lemmas.Bool.{cases_eq, cond-true, cond-false, eq-eqb, eqb-true, ne_eqb, and_parts}
use Rattle.std.proofs.lemmas.List.{append-nil, length-map}
use Rattle.std.proofs.lemmas.Option.{slice_get-map, slice_get_within}
use Rattle.core_lang.specs.declared.value.Value.{Value}
use Rattle.core_lang.specs.declared.typed.Cell.{Cell}
use Rattle.core_lang.specs.Whole.{Finished}
use Rattle.core_lang.specs.Serial.{Invocation, WholeCall}
use Rattle.code.specs.Memory.{overwritten}
use Rattle.history.specs.Commits.{Commit, call_of, script_call, answer_of, finished_on, committed, IsLegal, AreTrue}
use Rattle.lowering.specs.Plans.{Plan, IsCompiled}
use Rattle.input_files.specs.declared.turn.Turn.{Turn}
use Rattle.input_files.specs.Turns.{steps_of}
use Rattle.worlds.specs.Claims.{AreOfScripts}
use Rattle.worlds.specs.Worlds.{World, ThreadState, Activation, HasOpen, script_of, scripts, call_at, at_first}
use Rattle.worlds.specs.Worlds.{opening_world, world_after, final}
use Rattle.worlds.specs.Theory.Steps.{steps_more}
use Rattle.workers.specs.Seats.{ReplyOf}
use Rattle.workers.specs.Answers.{IsHistoryOf, HasScript, script_at, reply_at, replies_of, in_step, call_in}
use Rattle.theorems.specs.ClosedRuns.{IsAtRest, RunWhole, HasAllScripts, ClosedRunsAreSimulated}
use Rattle.theorems.proofs.Turns.{Laws, SoundAndReady, IsOver, closed_at, at_rest, run_whole, runs_whole}

-- ---- lists

drop_none : {A : Type 0} (xs : List A) → xs ≡ drop 0 xs
drop_none [] = refl
drop_none (x ∷ xs) = refl

-- `xs` has `y` at `k`, and `ys` after it
record IsParted {A : Type 0} (xs : List A) (k : ℕ) (y : A) (ys : List A) : Type 0 where
  here : slice_get xs k ≡ Some y
  behind : ys ≡ drop (k + 1) xs

drop_at : {A : Type 0} (xs : List A) (k : ℕ) (y : A) (ys : List A) → y ∷ ys ≡ drop k xs → IsParted xs k y ys
drop_at [] zero y ys parts = cc
drop_at [] (suc k) y ys parts = cc
drop_at (x ∷ xs) zero y ys parts = record { here = cc; behind = (let rest : ys ≡ xs = cc in rest ∙ drop_none xs) }
drop_at (x ∷ xs) (suc k) y ys parts =
    let rest = drop_at xs k y ys parts in
    let number : suc (k + 1) ≡ suc k + 1 = omega arith in
    record { here = rest.here; behind = rest.behind ∙ ap (λ n. drop n (x ∷ xs)) number }

drop_all : {A : Type 0} (xs : List A) (k : ℕ) → [] ≡ drop k xs → slice_get xs k ≡ None
drop_all [] k none = refl
drop_all (x ∷ xs) zero none = cc
drop_all (x ∷ xs) (suc k) none = drop_all xs k none

pushed : {X Y : Type 0} (f : X → Y) (xs : List X) (x : X) (y : Y) (ys : List Y) → f x ≡ y →
    map f (xs ++ x ∷ []) ++ ys ≡ map f xs ++ y ∷ ys
pushed f [] x y ys is = ap (λ z. z ∷ ys) is
pushed f (z ∷ xs) x y ys is = ap (λ zs. f z ∷ zs) (pushed f xs x y ys is)

-- ---- the remaining calls of a thread

-- the thread has no open section, and its calls among these entries are the rest of its script
record Waits (plan : Plan) (w : World) (at : ℕ) (cs : List Commit) (t : ℕ) : Type 0 where
  script : List Invocation
  is : script_at plan t ≡ Some script
  step : ℕ
  here : slice_get w.threads t ≡ Some (closed_at step)
  calls : map call_in (replies_of t at cs) ≡ drop step script
  steps : in_step t step cs ≡ true

record IsFirst (plan : Plan) (w : World) (at : ℕ) (c : Commit) (cs : List Commit) : Type 0 where
  script : List Invocation
  is : script_at plan c.thread ≡ Some script
  here : slice_get w.threads c.thread ≡ Some (closed_at c.step)
  call : slice_get script c.step ≡ Some (call_of c)
  calls : map call_in (replies_of c.thread (at + 1) cs) ≡ drop (c.step + 1) script
  steps : in_step c.thread (c.step + 1) cs ≡ true

-- the entry's call is the next one of its thread
first_of_its : (plan : Plan) (w : World) (at : ℕ) (c : Commit) (cs : List Commit) →
    Waits plan w at (c ∷ cs) c.thread → IsFirst plan w at c cs
first_of_its plan w at c cs waits =
    let t = c.thread in
    let rest : List ReplyOf = replies_of t (at + 1) cs in
    let own : (c.thread == t) ≡ true = eq-eqb c.thread t refl in
    let calls : call_of c ∷ map call_in rest ≡ drop waits.step waits.script =
    ap (map call_in) (sym (cond-true (c.thread == t) (reply_at at c ∷ rest) rest own)) ∙ waits.calls in
    let steps : ((c.step == waits.step) && in_step t (waits.step + 1) cs) ≡ true =
    sym (cond-true (c.thread == t) ((c.step == waits.step) && in_step t (waits.step + 1) cs) (in_step t waits.step cs) own) ∙ waits.steps in
    let both = and_parts (c.step == waits.step) (in_step t (waits.step + 1) cs) steps in
    let number : waits.step ≡ c.step = sym (eqb-true c.step waits.step both.0) in
    let parted = drop_at waits.script waits.step (call_of c) (map call_in rest) calls in
    record {
      script = waits.script;
      is = waits.is;
      here = waits.here ∙ ap (λ n. Some (closed_at n)) number;
      call = ap (slice_get waits.script) (sym number) ∙ parted.here;
      calls = parted.behind ∙ ap (λ n. drop (n + 1) waits.script) number;
      steps = ap (λ n. in_step t (n + 1) cs) (sym number) ∙ both.1;
    }

-- the same for another thread
others_wait : (plan : Plan) (w after : World) (at : ℕ) (c : Commit) (cs : List Commit) (t : ℕ) → (c.thread ≡ t → ⊥) →
    slice_get after.threads t ≡ slice_get w.threads t → Waits plan w at (c ∷ cs) t → Waits plan after (at + 1) cs t
others_wait plan w after at c cs t ne same waits =
    let not = ne_eqb c.thread t ne in
    let rest : List ReplyOf = replies_of t (at + 1) cs in
    record {
      script = waits.script;
      is = waits.is;
      step = waits.step;
      here = same ∙ waits.here;
      calls = ap (map call_in) (sym (cond-false (c.thread == t) (reply_at at c ∷ rest) rest not)) ∙ waits.calls;
      steps = sym (cond-false (c.thread == t) ((c.step == waits.step) && in_step t (waits.step + 1) cs) (in_step t waits.step cs) not) ∙ waits.steps;
    }

-- ---- a world between calls

record Stands (plan : Plan) (w : World) (heap : List Value) (at : ℕ) (cs : List Commit) : Type 0 where
  is : SoundAndReady plan w
  none_open : (t : ℕ) (a : Activation) → HasOpen w t a → ⊥
  left : committed plan.layout.opening w.history ≡ heap
  legal : IsLegal heap cs
  are_true : AreTrue plan.program cs
  threads : (t : ℕ) → t < length plan.program.threads.items → Waits plan w at cs t
  of_scripts : AreOfScripts plan cs

-- the world after all these calls have run
record IsLast (plan : Plan) (w : World) (heap : List Value) (cs : List Commit) (last : World) : Type 0 where
  calls : map script_call last.history ≡ map script_call w.history ++ map script_call cs
  answers : map answer_of last.history ≡ map answer_of w.history ++ map answer_of cs
  rest : IsAtRest last (committed heap cs)
  none_left : (t : ℕ) (thread : ThreadState) → slice_get last.threads t ≡ Some thread →
      call_at plan t thread.step ≡ None

call_in_script : (plan : Plan) (t step : ℕ) (x : Option (List Invocation)) → script_at plan t ≡ x →
    call_at plan t step ≡ option_map_or (λ (calls : List Invocation). slice_get calls step) x None
call_in_script plan t step x is = ap (λ y. option_map_or (λ (calls : List Invocation). slice_get calls step) y None) is

count_scripts : (plan : Plan) → length (scripts plan) ≡ length plan.program.threads.items
count_scripts plan = length-map plan.program.threads.items script_of

-- a thread that has a call is a thread of the program
has_thread : (plan : Plan) (t step : ℕ) (call : Invocation) (x : Option (List Invocation)) → script_at plan t ≡ x →
    call_at plan t step ≡ Some call → t < length plan.program.threads.items
has_thread plan t step call None is has =
    let bad : None ≡ Some call = sym (call_in_script plan t step None is) ∙ has in absurd (cc bad)
has_thread plan t step call (Some script) is has =
    let within = slice_get_within (scripts plan) t script is in
    let many = count_scripts plan in
    omega (arith, within, many)

none_comes : (plan : Plan) (w : World) (at t : ℕ) (thread : ThreadState) (x : Option (List Invocation)) →
    script_at plan t ≡ x →
    ((u : ℕ) → u < length plan.program.threads.items → Waits plan w at [] u) → slice_get w.threads t ≡ Some thread →
    call_at plan t thread.step ≡ None
none_comes plan w at t thread None is waits here = call_in_script plan t thread.step None is
none_comes plan w at t thread (Some script) is waits here =
    let within = slice_get_within (scripts plan) t script is in
    let many = count_scripts plan in
    let its = waits t (omega (arith, within, many)) in
    let same : Some thread ≡ Some (closed_at its.step) = sym here ∙ its.here in
    let now : thread ≡ closed_at its.step = cc same in
    ap (λ (x : ThreadState). call_at plan t x.step) now ∙ call_in_script plan t its.step (Some its.script) its.is
    ∙ drop_all its.script its.step its.calls

at_end : Laws → (plan : Plan) (w : World) (heap : List Value) (at : ℕ) → Stands plan w heap at [] →
    IsLast plan w heap [] w
at_end laws plan w heap at stands = record {
  calls = sym (append-nil (map script_call w.history));
  answers = sym (append-nil (map answer_of w.history));
  rest = at_rest laws plan w heap stands.is.0 stands.none_open stands.left;
  none_left = λ t thread here. none_comes plan w at t thread (script_at plan t) refl stands.threads here;
}

-- ---- one call

module _ (laws : Laws) (plan : Plan) (ok : IsCompiled plan) where
  opening_size : length plan.layout.opening ≡ length plan.program.cells.items
  opening_size = ap length ok.laid_out.opening ∙ length-map plan.program.cells.items (λ (c : Cell). c.opening)

  abbrev done : List Value → Commit → Finished
  done heap c = finished_on c (overwritten heap c.writes)

  whole_call : (w : World) (heap : List Value) (at : ℕ) (c : Commit) (cs : List Commit) →
      Stands plan w heap at (c ∷ cs) →
      WholeCall plan.program (call_of c) (committed plan.layout.opening w.history) (done heap c)
  whole_call w heap at c cs stands =
      let long : length heap ≡ length plan.program.cells.items =
      ap length (sym stands.left) ∙ laws.size plan.layout.opening w.history ∙ opening_size in
      subst (λ (h : List Value). WholeCall plan.program (call_of c) h (done heap c)) (sym stands.left)
      (stands.are_true.0 heap long stands.legal.0)

  abbrev Turns : World → List Value → Commit → Type 0
  Turns w heap c = (count : ℕ) × IsOver plan w (script_call c) (done heap c) (world_after plan w (replicate count c.thread))

  first_wait : (w : World) (heap : List Value) (at : ℕ) (c : Commit) (cs : List Commit) →
      Stands plan w heap at (c ∷ cs) →
      IsFirst plan w at c cs
  first_wait w heap at c cs stands =
      let its = stands.of_scripts.0 in
      let within = has_thread plan c.thread its.0 (call_of c) (script_at plan c.thread) refl its.1 in
      first_of_its plan w at c cs (stands.threads c.thread within)

  turns : (w : World) (heap : List Value) (at : ℕ) (c : Commit) (cs : List Commit) → Stands plan w heap at (c ∷ cs) →
      Turns w heap c
  turns w heap at c cs stands =
      let first = first_wait w heap at c cs stands in
      runs_whole laws plan ok w (script_call c) (done heap c) stands.is stands.none_open first.here
      (call_in_script plan c.thread c.step (Some first.script) first.is ∙ first.call)
      (whole_call w heap at c cs stands)

  waits_then : (w : World) (heap : List Value) (at : ℕ) (c : Commit) (cs : List Commit) →
      Stands plan w heap at (c ∷ cs) → (after : World) →
      IsOver plan w (script_call c) (done heap c) after → (t : ℕ) → t < length plan.program.threads.items → Waits plan after (at + 1) cs t
  waits_then w heap at c cs stands after over t within = elim (cases_eq c.thread t) [
    | inl e ↦ (let first = first_wait w heap at c cs stands in
        subst (λ (u : ℕ). Waits plan after (at + 1) cs u) e (record {
          script = first.script;
          is = first.is;
          step = c.step + 1;
          here = over.own;
          calls = first.calls;
          steps = first.steps;
        }))
    | inr ne ↦ others_wait plan w after at c cs t ne (over.others t ne) (stands.threads t within)
  ]

  stands_then : (w : World) (heap : List Value) (at : ℕ) (c : Commit) (cs : List Commit) →
      Stands plan w heap at (c ∷ cs) → (after : World) →
      IsOver plan w (script_call c) (done heap c) after → Stands plan after (overwritten heap c.writes) (at + 1) cs
  stands_then w heap at c cs stands after over = record {
    is = over.is;
    none_open = over.none_open;
    left = over.left;
    legal = stands.legal.1;
    are_true = stands.are_true.1;
    threads = waits_then w heap at c cs stands after over;
    of_scripts = stands.of_scripts.1;
  }

  -- ---- all of them

  abbrev Runs : World → List Value → List Commit → Type 0
  Runs w heap cs = (turns : List Turn) × RunWhole plan w heap cs turns × IsLast plan w heap cs (world_after plan w (steps_of turns))

  last_of_more : (w : World) (heap : List Value) (c : Commit) (cs : List Commit) (after last : World) →
      IsOver plan w (script_call c) (done heap c) after → IsLast plan after (overwritten heap c.writes) cs last → IsLast plan w heap (c ∷ cs) last
  last_of_more w heap c cs after last over is = record {
    calls = is.calls ∙ ap (λ (h : List Commit). map script_call h ++ map script_call cs) over.history
        ∙ pushed script_call w.history over.entry (script_call c) (map script_call cs) over.call_is;
    answers = is.answers ∙ ap (λ (h : List Commit). map answer_of h ++ map answer_of cs) over.history
        ∙ pushed answer_of w.history over.entry (answer_of c) (map answer_of cs) over.ends;
    rest = is.rest;
    none_left = is.none_left;
  }

  all_run : (cs : List Commit) (w : World) (heap : List Value) (at : ℕ) → Stands plan w heap at cs → Runs w heap cs
  all_run [] w heap at stands = ([], tt, at_end laws plan w heap at stands)
  all_run (c ∷ cs) w heap at stands =
      let one = turns w heap at c cs stands in
      let after = world_after plan w (replicate one.0 c.thread) in
      let more = all_run cs after (overwritten heap c.writes) (at + 1) (stands_then w heap at c cs stands after one.1) in
      let turn : Turn = record { thread = c.thread; count = one.0 } in
      let last = last_of_more w heap c cs after (world_after plan after (steps_of more.0)) one.1 more.2 in (
        turn ∷ more.0,
        (refl, run_whole laws plan w (script_call c) (done heap c) after one.1, more.1),
        subst (IsLast plan w heap (c ∷ cs)) (sym (steps_more plan w (replicate one.0 c.thread) (steps_of more.0))) last,
      )

  -- ---- the begin

  first_state : (t : ℕ) (script : List Invocation) → script_at plan t ≡ Some script →
      slice_get (opening_world plan).threads t ≡ Some (closed_at 0)
  first_state t script is = slice_get-map at_first (scripts plan) t ∙ ap (λ (x : Option (List Invocation)). option_map at_first x) is

  none_at_first : (t : ℕ) (a : Activation) → HasOpen (opening_world plan) t a → ⊥
  none_at_first t a o = closed (script_at plan t) refl where
    closed : (x : Option (List Invocation)) → script_at plan t ≡ x → ⊥
    closed None is =
        let bad : None ≡ Some o.0 = sym (slice_get-map at_first (scripts plan) t ∙ ap (λ (x : Option (List Invocation)). option_map at_first x) is) ∙ o.1 in cc bad
    closed (Some script) is =
        let same : Some (closed_at 0) ≡ Some o.0 = sym (first_state t script is) ∙ o.1 in
        let now : closed_at 0 ≡ o.0 = cc same in
        let bad : None ≡ Some a = ap (λ (x : ThreadState). x.active) now ∙ o.2 in cc bad

  at_first_waits : (log : List Commit) (t : ℕ) → HasScript plan log t → Waits plan (opening_world plan) 0 log t
  at_first_waits log t has = record {
    script = map call_in (replies_of t 0 log);
    is = sym has.calls;
    step = 0;
    here = first_state t (map call_in (replies_of t 0 log)) (sym has.calls);
    calls = drop_none (map call_in (replies_of t 0 log));
    steps = has.steps;
  }

  stands_first : (log : List Commit) (values : List Value) → IsHistoryOf plan log values → HasAllScripts plan log →
      Stands plan (opening_world plan) plan.layout.opening 0 log
  stands_first log values history all = record {
    is = (laws.opening plan, laws.ready.opening plan ok);
    none_open = none_at_first;
    left = refl;
    legal = history.sound.legal;
    are_true = history.sound.true_entries;
    threads = λ t within. at_first_waits log t (all.each t within);
    of_scripts = all.nobody_else;
  }

pub are_simulated : Laws → ClosedRunsAreSimulated
are_simulated laws plan log values ok history scripts =
    let runs = all_run laws plan ok log (opening_world plan) plan.layout.opening 0 (stands_first laws plan ok log values history scripts) in
    let last = runs.2 in
    record {
      turns = runs.0;
      whole = runs.1;
      calls = last.calls;
      answers = last.answers;
      rest = subst (IsAtRest (final plan (steps_of runs.0))) (sym history.values_are) last.rest;
      none_left = last.none_left;
    }
