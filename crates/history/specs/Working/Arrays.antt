-- The arrays of a history. Nobody has to believe this file.
use Rattle.std.specs.Prelude.{ℕ, ℤ, List}
use Rattle.core_lang.specs.declared.value.Value.{Value}
use Rattle.history.specs.Working.Histories.{PromisedOf, with_promise}

-- the lists of all entries, those of one kind one after another, and the number of entries for which room is left
pub record ListsOf : Type 0 where
  pub arguments : List Value
  pub reads : List (ℕ × Value)
  pub writes : List (ℕ × Value)
  pub prints : List ℤ
  pub promised : PromisedOf

-- the arrays with room for one more entry
abbrev pub with_room : ListsOf → ℕ → ListsOf
with_room lists cells = record lists { promised = with_promise lists.promised cells }
