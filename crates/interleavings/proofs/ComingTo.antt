-- What the next step of a thread does, from its state.
use Rattle.std.proofs.Common.{◌≡◌, ◌≢◌, ℕ, List, [], ◌∷◌, Option, Some, None, refl, sym, ap, ap₂, ◌∙◌}
use Rattle.std.specs.Prelude.{slice_get}
use Rattle.core_lang.specs.declared.value.Outcome.{Outcome}
use Rattle.locks.specs.declared.lock.Lock.{Lock}
use Rattle.lock_manager.specs.Manager.{Managed}
use Rattle.lowering.specs.Plans.{Plan}
use Rattle.worlds.specs.Worlds.{Activation}
use Rattle.interleavings.specs.declared.coming.Coming.TheVariants as coming
use Rattle.interleavings.specs.declared.state.TypedState.{TypedState}
use Rattle.interleavings.specs.declared.state.TypedState.TheVariants as state
use Rattle.interleavings.specs.Working.States.{thread_of, world_of, IsTied}
use Rattle.interleavings.specs.Working.Steps.{coming_at}
use Rattle.interleavings.specs.Coming.{section_comes, open_comes, thread_comes, coming_to}
use Rattle.core_lang.specs.Theory.Items.{map_at}

-- the next step of a section with a pending lock is `Other`
comes_asking : (a : Activation) (locks : List Lock) (outcome : Option Outcome) → locks ≢ [] →
    section_comes a locks outcome ≡ coming.Other
comes_asking a [] outcome some = absurd (some refl)
comes_asking a (lock ∷ rest) outcome some = refl

comes_ended : (a : Activation) (locks : List Lock) (outcome : Option Outcome) → outcome ≢ None →
    section_comes a locks outcome ≡ coming.Other
comes_ended a [] None some = absurd (some refl)
comes_ended a [] (Some outcome) some = refl
comes_ended a (lock ∷ rest) outcome some = refl

module _ (plan : Plan) (m : Managed) (states : List TypedState) (t : ℕ) (tied : IsTied plan m states) where
  coming_by_state : (y : TypedState) → slice_get states t ≡ Some y →
      coming_at y ≡ open_comes (thread_of y).step (thread_of y).active
  coming_by_state state.Away h = absurd (tied.at t state.Away h)
  coming_by_state (state.Ready r) h = refl
  coming_by_state (state.Running o) h =
      let here = tied.at t (state.Running o) h in sym (ap₂ (section_comes o.activation) here.1 here.2)
  coming_by_state (state.Asking o) h =
      sym (comes_asking o.activation o.activation.pending o.activation.outcome (tied.at t (state.Asking o) h).1)
  coming_by_state (state.Ended o) h =
      sym (comes_ended o.activation o.activation.pending o.activation.outcome (tied.at t (state.Ended o) h).2)

  pub coming_is : (y : TypedState) → slice_get states t ≡ Some y → coming_at y ≡ coming_to (world_of m states) t
  coming_is y h = coming_by_state y h ∙ sym (ap thread_comes (map_at thread_of states t y h))
