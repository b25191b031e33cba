-- The states of an open section, and the answer to its request for a lock.
use Rattle.std.specs.Prelude.{◌≡◌, ◌≢◌, [], None}
use Rattle.lock_manager.specs.Manager.{Managed}
use Rattle.runner.specs.declared.states.Next.{Next}
use Rattle.runner.specs.declared.states.Next.TheVariants.{Running, Asking, Ended}
use Rattle.runner.specs.declared.states.Asked.{Asked}
use Rattle.runner.specs.declared.states.Asked.TheVariants.{Got, Waits}
use Rattle.runner.specs.Working.Opens.{OpenOf, IsRunning, IsSame, Gets, Waits as WaitsFor}

-- the open section
abbrev pub open_of : Next → OpenOf
open_of (Running o) = o
open_of (Asking o) = o
open_of (Ended o) = o

-- the section is running, waits for a lock to be granted, or has ended, as its state says
abbrev pub IsNamed : Next → Type 0
IsNamed (Running o) = IsRunning o
IsNamed (Asking o) = (o.activation.pending ≢ []) × (o.activation.outcome ≡ None)
IsNamed (Ended o) = (o.activation.pending ≡ []) × (o.activation.outcome ≢ None)

-- the lock is granted, or the given other thread holds it
abbrev pub Answered : Managed → OpenOf → Asked → Managed → Type 0
Answered m o (Got next) m' = Gets m o (open_of next) m'
Answered m o (Waits asking holder) m' = WaitsFor m o holder asking m'

-- after a grant the section is in the state that the answer names
abbrev pub IsNamedAfter : Asked → Type 0
IsNamedAfter (Got next) = IsNamed next
IsNamedAfter (Waits asking holder) = Unit {0}

-- the section after the request is the same section
abbrev pub GoesOnSame : OpenOf → Asked → Type 0
GoesOnSame o (Got next) = IsSame o (open_of next)
GoesOnSame o (Waits asking holder) = IsSame o asking
