-- The state under the Mutex.
use Rattle.std.specs.Prelude.{◌≡◌, List}
use Rattle.std.specs.List.{All}
use Rattle.core_lang.specs.declared.typed.Typed.{Typed}
use Rattle.core_lang.specs.Typing.{IsHeap}
use Rattle.core_lang.specs.WellFormed.{CanCall}
use Rattle.history.specs.Commits.{Commit, AreTrue}
use Rattle.lock_manager.specs.Manager.{Managed}
use Rattle.lowering.specs.Plans.{Plan}

-- each entry is of a call that can be made of the program
abbrev pub AreCallable : Typed → List Commit → Type 0
AreCallable program log = All (λ (c : Commit). CanCall program c.section c.arguments) log

-- a manager of the plan, whose entries are true and of calls that can be made, and leave a value of its type in each
-- cell
pub record IsManagerOf (plan : Plan) (m : Managed) : Type 0 where
  pub layout : m.layout ≡ plan.layout
  pub ranks : m.ranks ≡ plan.ranks
  pub true_entries : AreTrue plan.program m.history
  pub callable : AreCallable plan.program m.history
  pub heap : IsHeap plan.program m.values
