-- The text of `check --source`, as bytes: that of `check`, in which the helper's name follows each place in a helper,
-- and the line of the source follows each line with a place.
use Rattle.std.specs.Prelude.{ℕ, ◌==◌, Bool, List, [], ◌∷◌, ◌++◌, codes, string_bytes}
use Rattle.std.specs.List.{find, list_any}
use Rattle.std.specs.Option.{option_map_or}
use Rattle.source.specs.Faults.{line_of, column_of}
use Rattle.core_lang.specs.declared.tree.Section.{Section}
use Rattle.core_lang.specs.declared.typed.Typed.{Typed}
use Rattle.flow.specs.Points.{Point, points, start_of}
use Rattle.code.specs.LineTables.{position_text}
use Rattle.code.specs.Listing.{line, paths_text}
pub use Rattle.explanation.specs.Shown.{source_line}
use Rattle.report_check.specs.Check.{check_by}

-- ---- the helper

-- a statement of the body starts at this byte
abbrev pub has_place : ℕ → Section → Bool
has_place start body = list_any (λ (p : Point). start_of p == start) (points body)

-- in HELPER, if one of these has the place
abbrev pub in_helper : List Section → ℕ → List ℕ
in_helper helpers start =
    option_map_or (λ (helper : Section). codes " in " ++ string_bytes helper.name) (find (has_place start) helpers) []

-- ---- a point

-- at LINE:COL in HELPER take PATHS, and the line of the source, if there are any paths
abbrev pub sourced_take_text : List ℕ → List Section → Typed → Section → ℕ → List ℕ → List ℕ
sourced_take_text text helpers program section start [] = []
sourced_take_text text helpers program section start (i ∷ is) =
    line (codes "at " ++ position_text (line_of text start) (column_of text start) ++ in_helper helpers start
    ++ codes " take" ++ paths_text program section (i ∷ is))
    ++ source_line text start

-- ---- the whole text, of a program with its helpers expanded, the rank of each class and the lists before the points
-- of each section; the helpers as declared
abbrev pub sourced_check_text : List ℕ → List Section → Typed → List ℕ → List (List (List ℕ)) → List ℕ
sourced_check_text text helpers program = check_by (sourced_take_text text helpers program) program
