-- Waiting in a world: which thread waits for which, that some thread goes on, and that each next instruction has its
-- case.
use Rattle.std.specs.Prelude.{◌≡◌, ◌≢◌, ◌≤◌, ℕ, Bool, true, false, List, [], ◌∷◌, length, map, slice_get, Option}
use Rattle.std.specs.Prelude.{Some, None, ⊤}
use Rattle.std.specs.List.{Contains}
use Rattle.core_lang.specs.declared.tree.Section.{Section}
use Rattle.locks.specs.declared.lock.Lock.{Lock}
use Rattle.locks.specs.Order.{Precedes}
use Rattle.locks.specs.Waiting.{Asker, HasNoCycle}
use Rattle.code.specs.Machine.{Undefined}
use Rattle.code.specs.Needs.{operand_need}
use Rattle.lowering.specs.Plans.{Plan, IsCompiled}
use Rattle.worlds.specs.declared.event.Event.{Event}
use Rattle.worlds.specs.declared.event.Event.TheVariants.{Waits}
use Rattle.worlds.specs.Worlds.{World, ThreadState, Activation, HasOpen, section_at, next_effect, happens, final}

-- the first of the pending locks, if it was asked for
abbrev pub first_if : Bool → List Lock → Option Lock
first_if true (lock ∷ rest) = Some lock
first_if true [] = None
first_if false locks = None

-- the locks that a thread holds, and the one that it has asked for and not been granted yet
abbrev pub asker_of : Option Activation → Asker
asker_of None = record { held = []; ask = None }
asker_of (Some a) = record { held = a.held; ask = first_if a.asked a.pending }

-- the asker of a thread
abbrev pub asker : ThreadState → Asker
asker thread = asker_of thread.active

-- no threads wait for each other in a cycle
abbrev pub NobodyWaitsInACircle : World → Type 0
NobodyWaitsInACircle w = HasNoCycle (map asker w.threads)

-- the event is not a wait
abbrev pub IsNoWait : Event → Type 0
IsNoWait (Waits lock h) = ⊥
IsNoWait _ = ⊤

-- if a section is open, the next step of some open section is not a wait
abbrev pub SomeoneGoesOn : Plan → World → Type 0
SomeoneGoesOn plan w =
    (t : ℕ) (a : Activation) → HasOpen w t a →
    (u : ℕ) × (b : Activation) × HasOpen w u b × IsNoWait (happens plan w u).0

-- a thread's step asked for a lock and was not granted it: another thread's open section holds the lock, and it is the
-- first that the thread's own section is to be granted, and is now asked for
pub record IsWait (plan : Plan) (w : World) (t : ℕ) (lock : Lock) (h : ℕ) : Type 0 where
  pub another : h ≢ t
  pub holder : Activation
  pub is_open : HasOpen w h holder
  pub holds : Contains holder.held lock
  pub waiter : Activation
  pub waits : HasOpen (happens plan w t).1 t waiter
  pub first : slice_get waiter.pending 0 ≡ Some lock
  pub asked : waiter.asked ≡ true

-- each step whose event is a wait is such a wait
abbrev pub WaitsAreForHolders : Plan → World → Type 0
WaitsAreForHolders plan w =
    (t : ℕ) (lock : Lock) (h : ℕ) → (happens plan w t).0 ≡ Waits lock h → IsWait plan w t lock h

-- each lock that an open section is to be granted next comes after all that it holds
abbrev pub PendingRises : List ℕ → World → Type 0
PendingRises ranks w =
    (t : ℕ) (a : Activation) (lock other : Lock) (rest : List Lock) → HasOpen w t a → a.pending ≡ lock ∷ rest →
    Contains a.held other → Precedes ranks other lock

-- if pending locks rise, no threads wait in a cycle
abbrev pub RisingHasNoCycle : Type 0
RisingHasNoCycle = (ranks : List ℕ) (w : World) → PendingRises ranks w → NobodyWaitsInACircle w

-- if pending locks rise, a thread that waits does so for another's open section
abbrev pub RisingWaitsForHolders : Type 0
RisingWaitsForHolders = (plan : Plan) (w : World) → PendingRises plan.ranks w → WaitsAreForHolders plan w

-- if pending locks rise and a section is open, some open section goes on
abbrev pub RisingGoesOn : Type 0
RisingGoesOn = (plan : Plan) (w : World) → PendingRises plan.ranks w → SomeoneGoesOn plan w

-- ---- the next instruction

-- the section's next instruction has its case, and its operands fit the section's room
pub record HasNext (plan : Plan) (a : Activation) : Type 0 where
  pub section : Section
  pub is : section_at plan a.call.section ≡ Some section
  pub defined : next_effect plan a ≢ Undefined
  pub fits : length a.machine.stack ≤ operand_need section

-- this holds of each open section that has no pending lock and no outcome
abbrev pub AllHaveNext : Plan → World → Type 0
AllHaveNext plan w = (t : ℕ) (a : Activation) → HasOpen w t a → a.pending ≡ [] → a.outcome ≡ None → HasNext plan a

-- this holds in every world that is reached
abbrev pub InstructionsHaveTheirCase : Type 0
InstructionsHaveTheirCase = (plan : Plan) (steps : List ℕ) → IsCompiled plan → AllHaveNext plan (final plan steps)
