-- Calls from outside a program: scripts of any calls instead of the program's own.
use Rattle.std.specs.Prelude.{◌≡◌, ◌≤◌, ℕ, ◌+◌, List, [], ◌∷◌, length, slice_get, Some}
use Rattle.std.proofs.Common.{Vec, Global}
use Rattle.source.specs.Limits.{THREAD_LIMIT, CALL_LIMIT}
use Rattle.core_lang.specs.declared.typed.Thread.{Thread}
use Rattle.core_lang.specs.declared.typed.Typed.{Typed}
use Rattle.core_lang.specs.Serial.{Invocation}
use Rattle.core_lang.specs.WellFormed.{CanCall}
use Rattle.lowering.specs.Plans.{Plan, IsCompiled}
use Rattle.worlds.specs.Worlds.{scripts}

-- the number of calls of all threads together
abbrev pub count_of : List (List Invocation) → ℕ
count_of [] = 0
count_of (script ∷ rest) = length script + count_of rest

-- calls of some threads, each thread's in order, within the limits of programs: each is of a section of the program,
-- with arguments that fit it
pub record AreCallsOf (program : Typed) (calls : List (List Invocation)) : Type 0 where
  pub threads : length calls ≤ THREAD_LIMIT
  pub together : count_of calls ≤ CALL_LIMIT
  pub fit : (t k : ℕ) (script : List Invocation) (call : Invocation) → slice_get calls t ≡ Some script →
      slice_get script k ≡ Some call → CanCall program call.section call.arguments

-- a program with other threads
abbrev pub with_threads : Typed → Vec Thread Global → Typed
with_threads program threads = record program { threads = threads }

-- a plan with other threads instead of its own, and otherwise the same
abbrev pub with_scripts : Plan → Vec Thread Global → Plan
with_scripts plan threads =
    record plan { accepted = with_threads plan.accepted threads; program = with_threads plan.program threads }

-- threads with these scripts exist, and the plan with them instead of its own is compiled
pub record IsCompiledWith (plan : Plan) (calls : List (List Invocation)) : Type 0 where
  pub threads : Vec Thread Global
  pub are : scripts (with_scripts plan threads) ≡ calls
  pub compiled : IsCompiled (with_scripts plan threads)

-- a compiled program may be called from outside, with any calls of its sections
abbrev pub CallsMayComeFromOutside : Type 0
CallsMayComeFromOutside =
    (plan : Plan) (calls : List (List Invocation)) → IsCompiled plan → AreCallsOf plan.accepted calls →
    IsCompiledWith plan calls
