-- Finished sections as data: which lists of them are legal, and when one is true.
use Rattle.std.specs.Prelude.{◌≡◌, ◌≢◌, ℕ, ℤ, List, [], ◌∷◌, length, ⊤}
use Rattle.core_lang.specs.declared.value.Value.{Value}
use Rattle.core_lang.specs.declared.value.Outcome.{Outcome}
use Rattle.core_lang.specs.declared.typed.Typed.{Typed}
use Rattle.core_lang.specs.Whole.{Finished}
use Rattle.core_lang.specs.Serial.{Invocation, Ended, Scheduled, WholeCall}
use Rattle.code.specs.Memory.{overwritten, Agrees}

-- a finished section: its thread, and the number of the call among the thread's calls. The section's number and its
-- arguments. The length of the history when the section began. Each cell that it read before it wrote it, with the
-- value found, and each cell that it wrote, with the last value written. How it ended, and what it printed
pub record Commit : Type 0 where
  pub thread : ℕ
  pub step : ℕ
  pub section : ℕ
  pub arguments : List Value
  pub begun : ℕ
  pub reads : List (ℕ × Value)
  pub writes : List (ℕ × Value)
  pub outcome : Outcome
  pub prints : List ℤ

-- the call: the section and its arguments
abbrev pub call_of : Commit → Invocation
call_of c = record { section = c.section; arguments = c.arguments }

-- the call with its thread and its number among the thread's calls
abbrev pub script_call : Commit → Scheduled
script_call c = record { thread = c.thread; step = c.step; call = call_of c }

-- how the section ended, and what it printed
abbrev pub answer_of : Commit → Ended
answer_of c = record { outcome = c.outcome; prints = c.prints }

-- how the section ended, what it printed, and the heap that it left
abbrev pub finished_on : Commit → List Value → Finished
finished_on c heap = record { outcome = c.outcome; prints = c.prints; heap = heap }

-- a heap after the writes of these commits, in order
abbrev pub committed : List Value → List Commit → List Value
committed heap [] = heap
committed heap (c ∷ cs) = committed (overwritten heap c.writes) cs

-- ---- legal and true

-- each commit read the values that the commits before it left
abbrev pub IsLegal : List Value → List Commit → Type 0
IsLegal heap [] = ⊤
IsLegal heap (c ∷ cs) = Agrees heap c.reads × IsLegal (overwritten heap c.writes) cs

-- on every heap that agrees with the commit's reads, the call, run alone from begin to end, ends and prints as the
-- commit says, and leaves that heap with the commit's writes made
abbrev pub IsTrueCommit : Typed → Commit → Type 0
IsTrueCommit program c =
    (heap : List Value) → length heap ≡ length program.cells.items → Agrees heap c.reads →
    WholeCall program (call_of c) heap (finished_on c (overwritten heap c.writes))

-- each of these commits is true
abbrev pub AreTrue : Typed → List Commit → Type 0
AreTrue program [] = ⊤
AreTrue program (c ∷ cs) = IsTrueCommit program c × AreTrue program cs

-- ---- cells that are not written

-- none of these writes is of the cell
abbrev pub WritesNot : ℕ → List (ℕ × Value) → Type 0
WritesNot cell [] = ⊤
WritesNot cell (w ∷ ws) = (w.0 ≢ cell) × WritesNot cell ws

-- none of these commits writes the cell
abbrev pub NoneWrites : ℕ → List Commit → Type 0
NoneWrites cell [] = ⊤
NoneWrites cell (c ∷ cs) = WritesNot cell c.writes × NoneWrites cell cs
