-- The world before any step.
use Rattle.std.proofs.Common.{◌≡◌, ℕ, zero, suc, List, length, map, replicate, Some, None, inl, inr, refl, sym, ap, ◌∙◌}
use Rattle.std.proofs.Common.{subst, arith}
use Rattle.std.specs.Prelude.{slice_get}
use Rattle.std.specs.List.{Contains}
use Rattle.std.proofs.lemmas.Bool.{cases_lt}
use Rattle.std.proofs.lemmas.List.{length-map}
use Rattle.std.proofs.lemmas.Option.{slice_get_within, slice_get_past}
use Rattle.core_lang.specs.Typing.{lookup}
use Rattle.history.specs.Working.Laws.{CommittedKeepsSize}
use Rattle.lock_manager.specs.Manager.{Managed, session_in}
use Rattle.lock_manager.specs.Working.Managers.{IsKept, opened, threads as most_threads}
use Rattle.lowering.specs.Plans.{Plan, IsCompiled}
use Rattle.worlds.specs.Worlds.{at_first, scripts, script_of, opening_world}
use Rattle.worlds.specs.Working.States.{IsSound, OpeningIsSound}
use Rattle.worlds.specs.Working.Ahead.{IsReadyWorld, WorldsStayReady}
use Rattle.interleavings.specs.declared.state.TypedState.{TypedState}
use Rattle.interleavings.specs.declared.state.TypedState.TheVariants as state
use Rattle.interleavings.specs.Working.States.{thread_of, session_of_state, session_at, IsAt, AreReady, cells_seen}
use Rattle.interleavings.specs.Working.States.{world_of, IsTied}
use Rattle.interleavings.proofs.Lists.{same_everywhere}
use Rattle.interleavings.proofs.Cells.{same_cells}
use Rattle.core_lang.specs.Theory.Items.{some_same, get_some, map_at}

none_open : (n t : ℕ) → session_in (replicate n None) t ≡ None
none_open zero t = refl
none_open (suc n) zero = refl
none_open (suc n) (suc t) = none_open n t

module _ (plan : Plan) (m : Managed) (states : List TypedState) (compiled : IsCompiled plan) (is : m ≡ opened plan.layout plan.ranks)
    (ready : AreReady (length plan.program.threads.items) states) where
  state_is : (t : ℕ) (x : TypedState) → slice_get states t ≡ Some x → x ≡ state.Ready (record { thread = t; step = 0 })
  state_is t x h =
      some_same x (state.Ready (record { thread = t; step = 0 })) (sym h ∙ ready.each t (omega (arith, slice_get_within states t x h, ready.many)))

  none_there : (t : ℕ) → session_at states t ≡ None
  none_there t = elim (cases_lt t (length plan.program.threads.items)) [
    | inl lt ↦ ap (λ r. lookup r session_of_state) (ready.each t lt)
    | inr le ↦ ap (λ r. lookup r session_of_state) (slice_get_past states t (omega (arith, le, ready.many)))
  ]

  sessions : (t : ℕ) → session_in m.slots t ≡ session_at states t
  sessions t = ap (λ (q : Managed). session_in q.slots t) is ∙ none_open most_threads t ∙ sym (none_there t)

  same_threads : (opening_world plan).threads ≡ map thread_of states
  same_threads = same_everywhere (map at_first (scripts plan)) (map thread_of states) (λ t. elim (cases_lt t (length plan.program.threads.items)) [
    | inl lt ↦ (
        let thread = get_some plan.program.threads.items t lt in
        map_at at_first (scripts plan) t (script_of thread.0) (map_at script_of plan.program.threads.items t thread.0 thread.1)
        ∙ sym (map_at thread_of states t (state.Ready (record { thread = t; step = 0 })) (ready.each t lt)))
    | inr le ↦ slice_get_past (map at_first (scripts plan)) t
        (omega (arith, le, length-map (scripts plan) at_first, length-map plan.program.threads.items script_of))
        ∙ sym (slice_get_past (map thread_of states) t (omega (arith, le, ready.many, length-map states thread_of)))
  ])

  module _ (kept : IsKept m) (size : CommittedKeepsSize) (sound : OpeningIsSound) where
    same_cells_at_first : (opening_world plan).cells ≡ cells_seen m
    same_cells_at_first = same_cells plan (opening_world plan) m states (record {
      sound = sound plan;
      kept = kept;
      history = sym (ap (λ (q : Managed). q.history) is);
      threads = same_threads;
      layout = ap (λ (q : Managed). q.layout) is;
      sessions = sessions;
      listed = λ cell lock e. subst (λ (q : Managed). Contains q.layout.locks lock) (sym is)
          (compiled.laid_out.cells_listed cell lock (ap (λ (q : Managed). slice_get q.layout.cell_locks cell) (sym is) ∙ e));
    }) size

    pub world_is : world_of m states ≡ opening_world plan
    world_is = λ i. record {
      cells = sym same_cells_at_first i;
      history = ap (λ (q : Managed). q.history) is i;
      threads = sym same_threads i;
    }

    pub tied_at_first : WorldsStayReady → IsTied plan m states
    tied_at_first worlds_ready = record {
      compiled = compiled;
      layout = ap (λ (q : Managed). q.layout) is;
      ranks = ap (λ (q : Managed). q.ranks) is;
      many = ready.many;
      sessions = sessions;
      at = λ t x h. subst (IsAt plan t) (sym (state_is t x h)) refl;
      sound = subst (IsSound plan) (sym world_is) (sound plan);
      ready = subst (IsReadyWorld plan) (sym world_is) (worlds_ready.opening plan compiled);
    }
