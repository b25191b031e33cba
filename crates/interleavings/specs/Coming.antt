-- What the next step of a thread does.
use Rattle.std.specs.Prelude.{ℕ, List, [], ◌∷◌, slice_get, Option, Some, None}
use Rattle.core_lang.specs.declared.value.Outcome.{Outcome}
use Rattle.locks.specs.declared.lock.Lock.{Lock}
use Rattle.worlds.specs.Worlds.{World, ThreadState, Activation}
use Rattle.interleavings.specs.declared.coming.Coming.{Coming}
use Rattle.interleavings.specs.declared.coming.Coming.TheVariants as coming

-- the next step of an open section, with the locks that it is still to be granted and its outcome
abbrev pub section_comes : Activation → List Lock → Option Outcome → Coming
section_comes a [] None = coming.Instruction a.call.section a.machine.place
section_comes a [] (Some outcome) = coming.Other
section_comes a (lock ∷ rest) outcome = coming.Other

-- the next step of a thread that has made the given number of calls
abbrev pub open_comes : ℕ → Option Activation → Coming
open_comes step None = coming.Call step
open_comes step (Some a) = section_comes a a.pending a.outcome

-- the next step of a thread by its state; for an unknown thread something else
abbrev pub thread_comes : Option ThreadState → Coming
thread_comes None = coming.Other
thread_comes (Some thread) = open_comes thread.step thread.active

-- the next step of the thread of this number: it begins a call, runs an instruction, or does something else
abbrev pub coming_to : World → ℕ → Coming
coming_to w t = thread_comes (slice_get w.threads t)
