-- The text of `check`, as bytes: a line `accepted`, a line for each rank, and for each section a line with its name and
-- one for each of its points before which locks are acquired.
use Rattle.std.specs.Prelude.{ℕ, ◌==◌, List, [], ◌∷◌, ◌++◌, length, position, codes, string_bytes}
use Rattle.std.specs.Option.{option_map_or}
use Rattle.std.specs.List.{flat_map, range_with_len}
use Rattle.std.specs.Fmt.{decimal}
use Rattle.source.specs.Faults.{line_of, column_of}
use Rattle.core_lang.specs.declared.tree.Section.{Section}
use Rattle.core_lang.specs.declared.typed.Typed.{Typed}
use Rattle.flow.specs.Points.{Point, points, start_of}
use Rattle.locks.specs.Texts.{class_name}
use Rattle.code.specs.LineTables.{position_text}
use Rattle.code.specs.Listing.{line, paths_text}

-- ---- the ranks

-- the class that has a rank
abbrev pub ranked_class : Typed → List ℕ → ℕ → List ℕ
ranked_class program ranks rank = option_map_or (class_name program) (position (λ r. r == rank) ranks) []

-- rank R CLASS
abbrev pub rank_text : Typed → List ℕ → ℕ → List ℕ
rank_text program ranks rank = line (codes "rank " ++ decimal rank ++ codes " " ++ ranked_class program ranks rank)

-- a line for each rank from 0 on
abbrev pub rank_texts : Typed → List ℕ → List ℕ
rank_texts program ranks = flat_map (rank_text program ranks) (range_with_len 0 (length ranks))

-- ---- a section

-- at LINE:COL take PATHS, if there are any
abbrev pub take_text : List ℕ → Typed → Section → ℕ → List ℕ → List ℕ
take_text text program section start [] = []
take_text text program section start (i ∷ is) =
    line (codes "at " ++ position_text (line_of text start) (column_of text start)
    ++ codes " take" ++ paths_text program section (i ∷ is))

-- the text of each point, by the first byte of its statement and the list before it
abbrev pub takes_by : (ℕ → List ℕ → List ℕ) → List Point → List (List ℕ) → List ℕ
takes_by take [] lists = []
takes_by take (p ∷ ps) [] = []
takes_by take (p ∷ ps) (list ∷ lists) = take (start_of p) list ++ takes_by take ps lists

abbrev pub take_texts : List ℕ → Typed → Section → List Point → List (List ℕ) → List ℕ
take_texts text program section = takes_by (take_text text program section)

-- section NAME, and its points
abbrev pub section_by : (Section → ℕ → List ℕ → List ℕ) → Section → List (List ℕ) → List ℕ
section_by take section lists =
    line (codes "section " ++ string_bytes section.name) ++ takes_by (take section) (points section) lists

-- the lines of each section, with its lists
abbrev pub sections_by : (Section → ℕ → List ℕ → List ℕ) → List Section → List (List (List ℕ)) → List ℕ
sections_by take [] lists = []
sections_by take (s ∷ ss) [] = []
sections_by take (s ∷ ss) (ls ∷ lists) = section_by take s ls ++ sections_by take ss lists

-- ---- the whole text, of a program with the rank of each class and the lists before the points of each section
-- the text of `check`, given what is written of a point
abbrev pub check_by : (Section → ℕ → List ℕ → List ℕ) → Typed → List ℕ → List (List (List ℕ)) → List ℕ
check_by take program ranks lists =
    line (codes "accepted") ++ rank_texts program ranks ++ sections_by take program.sections.items lists

-- the text of `check`
abbrev pub check_text : List ℕ → Typed → List ℕ → List (List (List ℕ)) → List ℕ
check_text text program = check_by (take_text text program) program
