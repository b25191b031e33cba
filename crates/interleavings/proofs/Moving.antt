-- A thread whose next step is an instruction neither waits nor is idle.
use Rattle.std.proofs.Common.{◌≡◌, ℕ, false, List, [], ◌∷◌, Option, Some, None, refl, ap}
use Rattle.std.specs.Prelude.{slice_get}
use Rattle.core_lang.specs.declared.value.Outcome.{Outcome}
use Rattle.core_lang.specs.Serial.{Invocation}
use Rattle.locks.specs.declared.lock.Lock.{Lock}
use Rattle.lowering.specs.Plans.{Plan}
use Rattle.worlds.specs.declared.event.Event.TheVariants.{Moved}
use Rattle.worlds.specs.Worlds.{World, ThreadState, Activation, call_at, holder, begins, asks, goes_on, steps_with, thread_steps, happens}
use Rattle.worlds.specs.Waiting.{first_if}
use Rattle.interleavings.specs.declared.status.ThreadStatus.{ThreadStatus}
use Rattle.interleavings.specs.Statuses.{calling, asking, section_status, thread_status, status_of}
use Rattle.interleavings.specs.Items.{is_stopped}
use Rattle.interleavings.proofs.Ending.{no_ask}

module _ (plan : Plan) (w : World) (t : ℕ) where
  no_call : (thread : ThreadState) (call : Option Invocation) → (begins plan w t thread call).0 ≡ Moved → is_stopped (calling call) ≡ false
  no_call thread None is = absurd cc
  no_call thread (Some call) is = refl

  no_lock : (thread : ThreadState) (a : Activation) (lock : Lock) (rest : List Lock) (h : Option ℕ) →
      (asks plan w t thread a lock rest h).0 ≡ Moved → ⊥
  no_lock thread a lock rest None is = cc
  no_lock thread a lock rest (Some h) is = cc

  section_runs : (thread : ThreadState) (a : Activation) (pending : List Lock) (outcome : Option Outcome) →
      (goes_on plan w t thread a pending outcome).0 ≡ Moved → is_stopped (asking (holder w) (first_if a.asked pending)) ≡ false
  section_runs thread a (lock ∷ rest) outcome is = absurd (no_lock thread a lock rest (holder w lock) is)
  section_runs thread a [] (Some outcome) is = absurd cc
  section_runs thread a [] None is = ap (λ (asked : Option Lock). is_stopped (asking (holder w) asked)) (no_ask a.asked)

  thread_runs : (thread : ThreadState) (active : Option Activation) → (steps_with plan w t thread active).0 ≡ Moved →
      is_stopped (section_status plan w t thread.step active) ≡ false
  thread_runs thread None is = no_call thread (call_at plan t thread.step) is
  thread_runs thread (Some a) is = section_runs thread a a.pending a.outcome is

  any_runs : (thread : Option ThreadState) → (thread_steps plan w t thread).0 ≡ Moved → is_stopped (thread_status plan w t thread) ≡ false
  any_runs None is = absurd cc
  any_runs (Some thread) is = thread_runs thread thread.active is

  pub moved_runs : (happens plan w t).0 ≡ Moved → is_stopped (status_of plan w t) ≡ false
  moved_runs is = any_runs (slice_get w.threads t) is
