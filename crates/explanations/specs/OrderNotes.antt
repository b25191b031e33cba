-- The notes on the order of a program's lock classes: the class of each rank; and for each pair of classes of which the
-- first has to come before the second a note that says so, where a lock of the first is used, and where the root of a
-- path of the second is bound.
use Rattle.std.specs.Prelude.{◌≡◌, ℕ, List, [], ◌∷◌, ◌++◌, length, map, None, codes}
use Rattle.std.specs.Fmt.{decimal}
use Rattle.std.specs.List.{range_with_len}
use Rattle.report_check.specs.Check.{ranked_class}
use Rattle.core_lang.specs.declared.typed.Typed.{Typed}
use Rattle.explanation.specs.Notes.{Note}
use Rattle.lockorder.specs.declared.ranks.ClassPair.{ClassPair}
use Rattle.lockorder.specs.ClassPairs.{AreClassPairs}
use Rattle.locks.specs.Texts.{class_name}
use Rattle.explanations.specs.CycleNotes.{TellsEdge}

-- ---- the ranks

-- rank R CLASS
abbrev pub rank_words : Typed → List ℕ → ℕ → List ℕ
rank_words program ranks rank = codes "rank " ++ decimal rank ++ codes " " ++ ranked_class program ranks rank

-- the note on a rank, without a place
abbrev pub rank_note : Typed → List ℕ → ℕ → Note
rank_note program ranks rank = record { start = None; words = rank_words program ranks rank }

-- for each rank from 0 on
abbrev pub rank_notes : Typed → List ℕ → List Note
rank_notes program ranks = map (rank_note program ranks) (range_with_len 0 (length ranks))

-- ---- the pairs

-- CLASS comes before CLASS
abbrev pub pair_words : Typed → ClassPair → List ℕ
pair_words program pair = class_name program pair.edge.class ++ codes " comes before " ++ class_name program pair.next

-- the note that one class comes before the other, without a place
abbrev pub pair_note : Typed → ClassPair → Note
pair_note program pair = record { start = None; words = pair_words program pair }

-- for each pair the note that says so, then the notes on what makes it
abbrev pub TellPairs : Typed → List ClassPair → List Note → Type 0
TellPairs program [] [] = Unit {0}
TellPairs program (pair ∷ rest) (order ∷ usage ∷ binding ∷ notes) =
    (order ≡ pair_note program pair) × TellsEdge program pair.edge pair.next usage binding × TellPairs program rest notes
TellPairs program (pair ∷ rest) _ = ⊥
TellPairs program [] (note ∷ notes) = ⊥

-- ---- both notes, of a program with the rank of each class
-- the notes on the order of the lock classes: of each rank, and of exactly the program's pairs
pub record AreOrderNotes (program : Typed) (ranks : List ℕ) (notes : List Note) : Type 0 where
  pub pairs : List ClassPair
  pub are : AreClassPairs program pairs
  pub of_pairs : List Note
  pub tell : TellPairs program pairs of_pairs
  pub whole : notes ≡ rank_notes program ranks ++ of_pairs
