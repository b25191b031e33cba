-- Logs of entries, and parts of them.
use Rattle.std.specs.Prelude.{◌≡◌, ◌≢◌, ℕ, List, ◌++◌}
use Rattle.std.specs.List.{All}
use Rattle.history.specs.Commits.{Commit, IsLegal, AreTrue}
use Rattle.lowering.specs.Plans.{Plan}

-- the log is one that the program can make: a legal list of true entries
pub record IsSound (plan : Plan) (log : List Commit) : Type 0 where
  pub legal : IsLegal plan.layout.opening log
  pub true_entries : AreTrue plan.program log

-- a list is a prefix of another
pub record Begins {X : Type 0} (first whole : List X) : Type 0 where
  pub rest : List X
  pub is : whole ≡ first ++ rest

-- none of the entries is of the thread
abbrev pub NoneOf : ℕ → List Commit → Type 0
NoneOf thread log = All (λ (c : Commit). c.thread ≢ thread) log
