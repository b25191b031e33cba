-- Several instructions of one thread are as many steps of the thread.
use Rattle.std.proofs.Common.{◌≡◌, ℕ, zero, suc, ◌+◌, ◌-◌, ◌<◌, ◌≤◌, List, [], ◌∷◌, ◌++◌, length, replicate, set, Some}
use Rattle.std.proofs.Common.{refl, sym, ap, ap₂, ◌∙◌, subst, arith}
use Rattle.std.specs.Prelude.{slice_get}
use Rattle.std.proofs.lemmas.List.{set-set}
use Rattle.std.proofs.lemmas.Option.{slice_get_within}
use Rattle.locks.specs.Order.{PrecedesIsStrict}
use Rattle.history.specs.Working.Laws.{CommittedKeepsSize}
use Rattle.lock_manager.specs.Manager.{Managed}
use Rattle.lock_manager.specs.Working.Managers.{IsKept}
use Rattle.lowering.specs.Plans.{Plan}
use Rattle.runner.specs.declared.states.Next.{Next}
use Rattle.runner.specs.declared.states.Next.TheVariants as next
use Rattle.runner.specs.Working.Opens.{OpenOf, IsRunning, moved, moved_by, Ran}
use Rattle.runner.specs.Working.Answers.{open_of, IsNamed}
use Rattle.worlds.specs.declared.event.Event.{Event}
use Rattle.worlds.specs.declared.event.Event.TheVariants as event
use Rattle.worlds.specs.Worlds.{World, goes_on, happens, world_after}
use Rattle.worlds.specs.Working.States.{StepsKeepSound}
use Rattle.worlds.specs.Working.Ahead.{WorldsStayReady}
use Rattle.interleavings.specs.declared.state.TypedState.{TypedState}
use Rattle.interleavings.specs.declared.state.TypedState.TheVariants as state
use Rattle.interleavings.specs.Working.Found.{AreMoves}
use Rattle.interleavings.specs.Working.States.{state_of, thread_of, world_of, IsTied}
use Rattle.interleavings.specs.Working.Steps.{Moved}
use Rattle.interleavings.specs.Threads.{ThreadsOf, threads_of, with_steps}
use Rattle.interleavings.proofs.Turning.{Done, at_thread, done}
use Rattle.interleavings.proofs.Many.{replicate_push, one_step_more}
use Rattle.core_lang.specs.Theory.Items.{set_same, set_itself}
use Rattle.worlds.specs.Theory.Steps.{steps_more}

-- if the section that a name stands for is running, its state is `Running`
named_running : (n : Next) → IsNamed n → IsRunning (open_of n) → state.Running (open_of n) ≡ state_of n
named_running (next.Running o) named running = refl
named_running (next.Asking o) named running = absurd (named.0 running.0)
named_running (next.Ended o) named running = absurd (named.1 running.1)

module _ (plan : Plan) (m : Managed) (states : List TypedState) (t : ℕ) (tied : IsTied plan m states) (kept : IsKept m)
    (size : CommittedKeepsSize) (sound : StepsKeepSound) (ready : WorldsStayReady) (strict : PrecedesIsStrict) where
  -- the given number of steps brings the thread to this state, and changes nothing else
  pub record RunTo (j : ℕ) (x : TypedState) : Type 0 where
    pub tied_then : IsTied plan m (set states t x)
    pub world : world_after plan (world_of m states) (replicate j t) ≡ world_of m (set states t x)

  one_more : (j : ℕ) (o : OpenOf) (n : Next) → t < length states → RunTo j (state.Running o) → open_of n ≡ moved o →
      IsNamed n → RunTo (suc j) (state_of n)
  one_more j o n lt so_far is named =
      let before : List TypedState = set states t (state.Running o) in
      let here : slice_get before t ≡ Some (state.Running o) = set_same states t (state.Running o) lt in
      let step : Moved m o (state_of n) m = record { next = n; state_is = refl; is = is; named = named; manager = refl } in
      let k : Done plan m before t event.Moved (state_of n) m =
      done plan m before t so_far.tied_then kept (state.Running o) event.Moved (state_of n) m size sound ready strict kept here step in
      let once : set before t (state_of n) ≡ set states t (state_of n) = set-set states t (state.Running o) (state_of n) in
      record {
        tied_then = subst (IsTied plan m) once k.tied;
        world = ap (world_after plan (world_of m states)) (replicate_push j t)
            ∙ steps_more plan (world_of m states) (replicate j t) (t ∷ [])
            ∙ ap (λ (w : World). (happens plan w t).1) so_far.world
            ∙ ap (λ (r : Event × World). r.1) k.step
            ∙ ap (world_of m) once;
      }

  all_along : (count : ℕ) (o : OpenOf) → slice_get states t ≡ Some (state.Running o) →
      ((k : ℕ) → k < count → IsRunning (moved_by k o)) →
      (j : ℕ) → j < count → RunTo j (state.Running (moved_by j o))
  all_along count o here running zero lt =
      let same : states ≡ set states t (state.Running o) = sym (set_itself states t (state.Running o) here) in
      record { tied_then = subst (IsTied plan m) same tied; world = ap (world_of m) same }
  all_along count o here running (suc j) lt =
      one_more j (moved_by j o) (next.Running (moved_by (suc j) o)) (slice_get_within states t (state.Running o) here)
      (all_along count o here running j (omega (arith, lt))) refl (running (suc j) lt)

  -- each of these steps is an instruction
  pub each_moves : (count : ℕ) (o : OpenOf) → slice_get states t ≡ Some (state.Running o) →
      ((k : ℕ) → k < count → IsRunning (moved_by k o)) →
      (j : ℕ) → j < count → (happens plan (world_after plan (world_of m states) (replicate j t)) t).0 ≡ event.Moved
  each_moves count o here running j lt =
      let x : TypedState = state.Running (moved_by j o) in
      let later : List TypedState = set states t x in
      let so_far : RunTo j x = all_along count o here running j lt in
      let here_later : slice_get later t ≡ Some x = set_same states t x (slice_get_within states t (state.Running o) here) in
      let is = running j lt in
      ap (λ (w : World). (happens plan w t).0) so_far.world
      ∙ ap (λ (r : Event × World). r.0) (at_thread plan m later t x here_later
      ∙ ap₂ (goes_on plan (world_of m later) t (thread_of x) (moved_by j o).activation) is.0 is.1)

  pub run_to : (most count : ℕ) (o : OpenOf) (n : Next) → slice_get states t ≡ Some (state.Running o) → IsRunning o →
      Ran most o count (open_of n) → IsNamed n → RunTo count (state_of n)
  run_to most zero o n here runs ran named =
      let is : state.Running o ≡ state_of n =
      ap (λ (q : OpenOf). state.Running q) (sym ran.is) ∙ named_running n named (subst IsRunning (sym ran.is) runs) in
      let same : states ≡ set states t (state_of n) = sym (set_itself states t (state.Running o) here) ∙ ap (set states t) is in
      record { tied_then = subst (IsTied plan m) same tied; world = ap (world_of m) same }
  run_to most (suc c) o n here runs ran named =
      one_more c (moved_by c o) n (slice_get_within states t (state.Running o) here)
      (all_along (suc c) o here ran.running c (omega arith)) ran.is named

-- ---- the states of a world, with the thread's section the given number of instructions on

module _ (plan : Plan) (m : Managed) (states last : List TypedState) (t : ℕ) (o : OpenOf) (n : Next) (now : ThreadsOf)
    (tied : IsTied plan m states) (kept : IsKept m) (size : CommittedKeepsSize) (sound : StepsKeepSound) (ready : WorldsStayReady)
    (strict : PrecedesIsStrict) (here : slice_get states t ≡ Some (state.Running o)) (is : last ≡ set states t (state_of n))
    (view : threads_of plan (world_of m states) ≡ now) where
  runs : IsRunning o
  runs = let at = tied.at t (state.Running o) here in (at.1, at.2)

  pub ran_tied : (most count : ℕ) → Ran most o count (open_of n) → IsNamed n → IsTied plan m last
  ran_tied most count ran named =
      subst (IsTied plan m) (sym is) (run_to plan m states t tied kept size sound ready strict most count o n here runs ran named).tied_then

  pub ran_steps : (most count : ℕ) → Ran most o count (open_of n) → IsNamed n →
      threads_of plan (world_of m last) ≡ with_steps now (replicate count t)
  ran_steps most count ran named =
      let k = run_to plan m states t tied kept size sound ready strict most count o n here runs ran named in
      ap (λ (xs : List TypedState). threads_of plan (world_of m xs)) is
      ∙ ap (threads_of plan) (sym k.world)
      ∙ ap (λ (w : ThreadsOf). with_steps w (replicate count t)) view

  pub ran_moves : (most count : ℕ) → Ran most o count (open_of n) → AreMoves now t count
  ran_moves most count ran =
      subst (λ (w : ThreadsOf). AreMoves w t count) view
      (each_moves plan m states t tied kept size sound ready strict count o here ran.running)

-- ---- the given number of steps, and more

replicate_more : (a b t : ℕ) → replicate (a + b) t ≡ replicate a t ++ replicate b t
replicate_more zero b t = let number : zero + b ≡ b = omega arith in ap (λ n. replicate n t) number
replicate_more (suc a) b t =
    let number : suc a + b ≡ suc (a + b) = omega arith in
    ap (λ n. replicate n t) number ∙ ap (λ (ts : List ℕ). t ∷ ts) (replicate_more a b t)

pub further_steps : (w : ThreadsOf) (a b t : ℕ) →
    with_steps (with_steps w (replicate a t)) (replicate b t) ≡ with_steps w (replicate (a + b) t)
further_steps w a b t =
    ap (threads_of w.plan) (sym (steps_more w.plan w.world (replicate a t) (replicate b t)) ∙ ap (world_after w.plan w.world) (sym (replicate_more a b t)))

-- a turn with some steps left has fewer left after one more step and the given number of instructions
pub turn_on : (first w mid last : ThreadsOf) (count left more t : ℕ) (e : Event) → left ≤ count → 0 < left →
    more ≤ left - 1 →
    w ≡ with_steps first (replicate (count - left) t) → happens w.plan w.world t ≡ (e, mid.world) → mid.plan ≡ w.plan →
    last ≡ with_steps mid (replicate more t) → last ≡ with_steps first (replicate (count - (left - 1 - more)) t)
turn_on first w mid last count left more t e within some few so_far step same ran =
    let number : count - left + 1 + more ≡ count - (left - 1 - more) = omega (arith, within, some, few) in
    ran
    ∙ ap (λ (x : ThreadsOf). with_steps x (replicate more t)) (one_step_more first w mid t (count - left) e so_far step same)
    ∙ further_steps first (count - left + 1) more t
    ∙ ap (λ n. with_steps first (replicate n t)) number
