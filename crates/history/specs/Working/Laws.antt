-- Laws of histories, as the laws of `src/laws.rt` claim them.
use Rattle.std.specs.Prelude.{◌≡◌, ℕ, List, [], ◌∷◌, ◌++◌, map, length, slice_get}
use Rattle.core_lang.specs.declared.value.Value.{Value}
use Rattle.core_lang.specs.declared.typed.Typed.{Typed}
use Rattle.core_lang.specs.Serial.{Serial}
use Rattle.code.specs.Memory.{overwritten, Agrees}
use Rattle.history.specs.Commits.{Commit, call_of, answer_of, committed, IsLegal, IsTrueCommit, AreTrue, WritesNot}
use Rattle.history.specs.Commits.{NoneWrites}

-- writes that aren't of a cell leave its value
abbrev pub WritesSpareOthers : Type 0
WritesSpareOthers =
    (heap : List Value) (writes : List (ℕ × Value)) (cell : ℕ) → WritesNot cell writes →
    slice_get (overwritten heap writes) cell ≡ slice_get heap cell

-- commits appended to a legal list that don't write a cell leave its value
abbrev pub Commuting : Type 0
Commuting =
    (opening : List Value) (cs more : List Commit) (cell : ℕ) → IsLegal opening (cs ++ more) → NoneWrites cell more →
    slice_get (committed opening (cs ++ more)) cell ≡ slice_get (committed opening cs) cell

-- the calls of a legal list of true commits, run whole one after another, end and print as the commits say, and leave
-- the heap that the commits leave
abbrev pub LegalIsSerial : Type 0
LegalIsSerial =
    (program : Typed) (heap : List Value) (cs : List Commit) → length heap ≡ length program.cells.items →
    IsLegal heap cs → AreTrue program cs →
    Serial program heap (map call_of cs) (map answer_of cs) (committed heap cs)

-- ---- one commit more

-- the heap after one more commit is the heap before it with its writes made
abbrev pub CommittedOfOneMore : Type 0
CommittedOfOneMore =
    (heap : List Value) (cs : List Commit) (c : Commit) →
    committed heap (cs ++ c ∷ []) ≡ overwritten (committed heap cs) c.writes

-- a legal list with one more commit is legal if that commit read what the heap held
abbrev pub LegalOfOneMore : Type 0
LegalOfOneMore =
    (heap : List Value) (cs : List Commit) (c : Commit) → IsLegal heap cs → Agrees (committed heap cs) c.reads →
    IsLegal heap (cs ++ c ∷ [])

-- a list of true commits with one more true commit is a list of true commits
abbrev pub TrueOfOneMore : Type 0
TrueOfOneMore =
    (program : Typed) (cs : List Commit) (c : Commit) → AreTrue program cs → IsTrueCommit program c →
    AreTrue program (cs ++ c ∷ [])

-- commits leave the number of cells unchanged
abbrev pub CommittedKeepsSize : Type 0
CommittedKeepsSize = (heap : List Value) (cs : List Commit) → length (committed heap cs) ≡ length heap
