-- The threads of a compiled program, in one world.
use Rattle.std.specs.Prelude.{◌≡◌, ℕ, List, take, slice_get, Option, Some}
use Rattle.core_lang.specs.declared.value.Value.{Value}
use Rattle.core_lang.specs.Typing.{lookup}
use Rattle.lowering.specs.Plans.{Plan}
use Rattle.worlds.specs.declared.event.Event.TheVariants.{Began}
use Rattle.worlds.specs.Worlds.{World, opening_world, happens, world_after, final}

-- a program's plan, and the world that its threads are in
pub record ThreadsOf : Type 0 where
  pub plan : Plan
  pub world : World

-- a plan and a world as threads
abbrev pub threads_of : Plan → World → ThreadsOf
threads_of plan world = record { plan = plan; world = world }

-- the threads before any step
abbrev pub at_opening : Plan → ThreadsOf
at_opening plan = threads_of plan (opening_world plan)

-- the threads after these steps from the opening
abbrev pub after_steps : Plan → List ℕ → ThreadsOf
after_steps plan steps = threads_of plan (final plan steps)

-- the threads after these further steps
abbrev pub with_steps : ThreadsOf → List ℕ → ThreadsOf
with_steps w steps = threads_of w.plan (world_after w.plan w.world steps)

-- the steps stopped before one that would have begun a call; those before it were taken
pub record StopsAtBegin (first : ThreadsOf) (steps : List ℕ) (last : ThreadsOf) : Type 0 where
  pub taken : ℕ
  pub thread : ℕ
  pub next : slice_get steps taken ≡ Some thread
  pub stands : last ≡ with_steps first (take taken steps)
  pub begins : (happens last.plan last.world thread).0 ≡ Began

-- the value of a cell, unless a section holds it
abbrev pub cell_in : World → ℕ → Option Value
cell_in w cell = lookup (slice_get w.cells cell) (λ (v : Option Value). v)
