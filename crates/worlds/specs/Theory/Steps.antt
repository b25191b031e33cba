-- Steps one after another, the parts that an instruction does not change, and entries of calls of scripts. Nobody has
-- to believe this: it is proved here, for proofs of this crate and of those above.
use Rattle.std.proofs.Common.{◌≡◌, ℕ, suc, ◌+◌, List, [], ◌∷◌, ◌++◌, Some, slice_get, refl}
use Rattle.code.specs.Machine.{Effect, Moves, Asks, Finishes, Undefined}
use Rattle.code.specs.Memory.{HeldCells}
use Rattle.history.specs.Commits.{Commit, call_of}
use Rattle.lowering.specs.Plans.{Plan}
use Rattle.worlds.specs.Worlds.{Activation, World, instructed, happens, world_after, call_at}
use Rattle.worlds.specs.Claims.{AreOfScripts}

pub steps_more : (plan : Plan) (w : World) (xs ys : List ℕ) →
    world_after plan w (xs ++ ys) ≡ world_after plan (world_after plan w xs) ys
steps_more plan w [] ys = refl
steps_more plan w (t ∷ xs) ys = steps_more plan (happens plan w t).1 xs ys

pub instructed_call : (plan : Plan) (a : Activation) (e : Effect HeldCells) → (instructed plan a e).call ≡ a.call
instructed_call plan a (Moves m) = refl
instructed_call plan a (Asks point) = refl
instructed_call plan a (Finishes outcome) = refl
instructed_call plan a Undefined = refl

pub instructed_begun : (plan : Plan) (a : Activation) (e : Effect HeldCells) → (instructed plan a e).begun ≡ a.begun
instructed_begun plan a (Moves m) = refl
instructed_begun plan a (Asks point) = refl
instructed_begun plan a (Finishes outcome) = refl
instructed_begun plan a Undefined = refl

-- each entry is a call of its thread's script
pub each_of_scripts : (plan : Plan) (cs : List Commit) →
    ((p : ℕ) (c : Commit) → slice_get cs p ≡ Some c → (k : ℕ) × (call_at plan c.thread k ≡ Some (call_of c))) →
    AreOfScripts plan cs
each_of_scripts plan [] each = tt
each_of_scripts plan (c ∷ cs) each = (each 0 c refl, each_of_scripts plan cs (λ p d is. each (suc p) d is))
