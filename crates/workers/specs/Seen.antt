-- What a seat has seen.
use Rattle.std.specs.Prelude.{◌≡◌, List, [], ◌∷◌, ◌++◌, length}
use Rattle.history.specs.Commits.{Commit}
use Rattle.lowering.specs.Plans.{Plan}
use Rattle.workers.specs.Seats.{SeatOf}
use Rattle.workers.specs.Answers.{reply_at}
use Rattle.workers.specs.Logs.{IsSound, Begins, NoneOf}

-- what a seat has seen after a call: what it had seen before, then entries of other threads, then the call's own entry.
-- That is the entry of the new answer: it is the thread's, its step is the number of the earlier answers, and its
-- position is that of the answer. The whole is a legal list of true entries
pub record Sees (plan : Plan) (old new : SeatOf) : Type 0 where
  pub between : List Commit
  pub entry : Commit
  pub is : new.seen ≡ (old.seen ++ between) ++ entry ∷ []
  pub others : NoneOf old.thread between
  pub own : entry.thread ≡ old.thread
  pub step : entry.step ≡ length old.answers
  pub answers : new.answers ≡ old.answers ++ reply_at (length (old.seen ++ between)) entry ∷ []
  pub sound : IsSound plan new.seen

-- what a seat has seen is a prefix of a history
abbrev pub SeenIsIn : List Commit → SeatOf → Type 0
SeenIsIn log s = Begins s.seen log
