-- The view of a seat in contracts.
use Rattle.std.specs.Prelude.{◌≡◌, ◌<◌, ◌≤◌, ◌+◌, ⊤, ℕ, ℤ, zero, suc, List, [], ◌∷◌, ◌++◌}
use Rattle.std.specs.List.{All}
use Rattle.core_lang.specs.declared.value.Outcome.{Outcome}
use Rattle.core_lang.specs.Serial.{Invocation}
use Rattle.history.specs.Commits.{Commit}

-- an answered call: its position, the length of the history when it began, the call, its outcome and its prints
pub record ReplyOf : Type 0 where
  pub position : ℕ
  pub begun : ℕ
  pub call : Invocation
  pub outcome : Outcome
  pub prints : List ℤ

-- a seat: its thread, its answers in order, and the entries that it has seen, up to and including the entry of its last
-- answer
pub record SeatOf : Type 0 where
  pub thread : ℕ
  pub answers : List ReplyOf
  pub seen : List Commit

-- a seat before its first call
abbrev pub new_seat : ℕ → SeatOf
new_seat thread = record { thread = thread; answers = []; seen = [] }

-- the seats of the first n threads, in order
abbrev pub new_seats : ℕ → List SeatOf
new_seats zero = []
new_seats (suc n) = new_seats n ++ new_seat n ∷ []

-- all positions are below this one
abbrev pub AllBelow : ℕ → List ReplyOf → Type 0
AllBelow floor replies = All (λ (r : ReplyOf). r.position < floor) replies

-- the answer with these parts
abbrev pub reply : ℕ → ℕ → Invocation → Outcome → List ℤ → ReplyOf
reply position begun call outcome prints =
    record { position = position; begun = begun; call = call; outcome = outcome; prints = prints }

-- each call began at most at its own position, and after the position of the one before it; the first at `floor` or
-- later
abbrev pub AreBegunInTurn : ℕ → List ReplyOf → Type 0
AreBegunInTurn floor [] = ⊤
AreBegunInTurn floor (r ∷ rs) = (floor ≤ r.begun) × (r.begun ≤ r.position) × AreBegunInTurn (r.position + 1) rs

-- the seat keeps its thread and gains exactly one answer, to a call that began after the positions of all its others,
-- and at most at its own
pub record Gains (old new : SeatOf) (position : ℕ) (call : Invocation) (outcome : Outcome) (prints : List ℤ) : Type 0
  where
    pub begun : ℕ
    pub is : new ≡ record old {
      answers = old.answers ++ reply position begun call outcome prints ∷ [];
      seen = new.seen;
    }
    pub above : AllBelow begun old.answers
    pub at_most : begun ≤ position
