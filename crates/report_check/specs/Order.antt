-- The text of `order`, as bytes: the order of a program's lock classes as a graph in the language DOT. It has a line
-- for each class, and one for each pair of classes of which the first must precede the second.
use Rattle.std.specs.Prelude.{ℕ, ◌==◌, ◌&&◌, ◌||◌, if◌then◌else◌, Bool, false, List, [], ◌∷◌, ◌++◌, length, slice_get, codes}
use Rattle.std.specs.Prelude.{string_bytes}
use Rattle.std.specs.Option.{option_map_or}
use Rattle.std.specs.List.{flat_map, range_with_len}
use Rattle.std.specs.Fmt.{decimal}
use Rattle.source.specs.Faults.{line_of, column_of}
use Rattle.core_lang.specs.declared.tree.Section.{Section}
use Rattle.core_lang.specs.declared.typed.Typed.{Typed}
use Rattle.flow.specs.Points.{Point, points, start_of}
use Rattle.locks.specs.Texts.{class_name}
use Rattle.lockorder.specs.declared.ranks.ClassPair.{ClassPair}
use Rattle.lockorder.specs.declared.ranks.Edge.{Edge}
use Rattle.lockorder.specs.ClassPairs.{classes_of_pair}
use Rattle.lockorder.specs.Faults.{classes_of, second}
use Rattle.code.specs.LineTables.{position_text}
use Rattle.report_check.specs.Check.{ranked_class}
use Rattle.code.specs.Listing.{line}

-- ---- the classes

-- rank R CLASS
abbrev pub label_text : Typed → List ℕ → ℕ → List ℕ
label_text program ranks rank = codes "rank " ++ decimal rank ++ codes " " ++ ranked_class program ranks rank

-- "CLASS" [label="rank R CLASS"];
abbrev pub node_text : Typed → List ℕ → ℕ → List ℕ
node_text program ranks rank =
    line (codes "  \"" ++ ranked_class program ranks rank
    ++ codes "\" [label=\"" ++ label_text program ranks rank ++ codes "\"];")

-- a line for each rank from 0 on
abbrev pub node_texts : Typed → List ℕ → List ℕ
node_texts program ranks = flat_map (node_text program ranks) (range_with_len 0 (length ranks))

-- ---- the pairs

-- LINE:COL of the point's statement
abbrev pub point_text : List ℕ → Point → List ℕ
point_text text point = position_text (line_of text (start_of point)) (column_of text (start_of point))

-- LINE:COL of the statement of the point with this number
abbrev pub numbered_point : List ℕ → List Point → ℕ → List ℕ
numbered_point text list p = option_map_or (point_text text) (slice_get list p) []

-- SECTION:LINE:COL of the section's point of this number
abbrev pub place_text : List ℕ → ℕ → Section → List ℕ
place_text text p section = string_bytes section.name ++ codes ":" ++ numbered_point text (points section) p

-- the position of the edge's use of a lock of its class
abbrev pub use_text : List ℕ → Typed → Edge → List ℕ
use_text text program edge = option_map_or (place_text text edge.used) (slice_get program.sections.items edge.section) []

-- the cycle of these classes goes from the first class of the pair to the second
abbrev pub goes : ℕ → List ℕ → ℕ × ℕ → Bool
goes first [] pair = false
goes first (c ∷ rest) pair = (c == pair.0 && second first rest == pair.1) || goes first rest pair

-- the cycle goes from the pair's first class to its second
abbrev pub is_on : List Edge → ClassPair → Bool
is_on [] pair = false
is_on (e ∷ rest) pair = goes e.class (classes_of (e ∷ rest)) (classes_of_pair pair)

-- a pair on the cycle is red
abbrev pub mark : List Edge → ClassPair → List ℕ
mark cycle pair = if is_on cycle pair then codes ", color=\"red\"" else []

-- "CLASS" -> "CLASS"
abbrev pub ends_text : Typed → ClassPair → List ℕ
ends_text program pair =
    codes "  \"" ++ class_name program pair.edge.class ++ codes "\" -> \"" ++ class_name program pair.next ++ codes "\""

-- `"CLASS" -> "CLASS" [label="SECTION:LINE:COL"];`, where an edge on the cycle has `, color="red"` after its label
abbrev pub edge_text : List ℕ → Typed → List Edge → ClassPair → List ℕ
edge_text text program cycle pair =
    line (ends_text program pair ++ codes " [label=\"" ++ use_text text program pair.edge ++ codes "\"" ++ mark cycle pair ++ codes "];")

-- a line for each pair
abbrev pub edge_texts : List ℕ → Typed → List Edge → List ClassPair → List ℕ
edge_texts text program cycle pairs = flat_map (edge_text text program cycle) pairs

-- ---- the whole text, of a program with the rank of each class and its pairs of classes: none is on a cycle
-- the text of `order` for a program without a cycle
abbrev pub order_text : List ℕ → Typed → List ℕ → List ClassPair → List ℕ
order_text text program ranks pairs =
    line (codes "digraph lock_order {") ++ node_texts program ranks ++ edge_texts text program [] pairs ++ line (codes "}")

-- ---- of a program with a cycle

-- "CLASS";
abbrev pub class_text : Typed → ℕ → List ℕ
class_text program class = line (codes "  \"" ++ class_name program class ++ codes "\";")

-- a line for each class, in the order of their numbers
abbrev pub class_texts : Typed → List ℕ
class_texts program = flat_map (class_text program) (range_with_len 0 (length program.classes.items))

-- the whole text, for a program with its pairs of classes and a cycle of them
abbrev pub cyclic_order_text : List ℕ → Typed → List ClassPair → List Edge → List ℕ
cyclic_order_text text program pairs cycle =
    line (codes "digraph lock_order {") ++ class_texts program ++ edge_texts text program cycle pairs ++ line (codes "}")
