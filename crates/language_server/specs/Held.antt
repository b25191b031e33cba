-- The lock paths that are held at the points of a program, and the lines on a statement.
use Rattle.std.specs.Prelude.{◌≡◌, ℕ, ◌+◌, ◌==◌, Bool, false, true, List, [], ◌∷◌, ◌++◌, length, fold, slice_get}
use Rattle.std.specs.Prelude.{Some, codes, string_bytes}
use Rattle.std.specs.Bool.{Decides}
use Rattle.std.specs.BTreeSet.{insert_key}
use Rattle.std.specs.Cmp.Lexicographic.{slice_cmp}
use Rattle.std.specs.List.{filter, range_with_len}
use Rattle.std.specs.Ordering.{nat_cmp}
use Rattle.core_lang.specs.declared.tree.Section.{Section}
use Rattle.core_lang.specs.declared.typed.Typed.{Typed}
use Rattle.flow.specs.Points.{Point, points, start_of}
use Rattle.locks.specs.LockPaths.{LockPath, lock_paths}
use Rattle.points.specs.Wanted.{IsSurelyHeld}
use Rattle.inserter.specs.Placement.{IsPath}
use Rattle.code.specs.Listing.{paths_text}
use Rattle.code.specs.Lowering.{lists_at}
use Rattle.lowering.specs.Plans.{Plan}

module _ (program : Typed) (section : Section) (ranks : List ℕ) where
  -- the numbers of the lock paths that are surely held at a point, in increasing order
  pub record IsHeldList (p : ℕ) (list : List ℕ) : Type 0 where
    pub held : ℕ → Bool
    pub decides : (i : ℕ) (path : LockPath) → IsPath program section i path →
        Decides (held i) (IsSurelyHeld program section ranks p path)
    pub rising : list ≡ filter held (range_with_len 0 (length (lock_paths program section)))

  -- those lists for all points of a section
  pub record AreHeldLists (lists : List (List ℕ)) : Type 0 where
    pub long : length lists ≡ length (points section)
    pub each : (p : ℕ) (list : List ℕ) → slice_get lists p ≡ Some list → IsHeldList p list

-- those lists for all sections of a program
pub record AreHeld (program : Typed) (ranks : List ℕ) (lists : List (List (List ℕ))) : Type 0 where
  pub long : length lists ≡ length program.sections.items
  pub each : (k : ℕ) (section : Section) (ls : List (List ℕ)) → slice_get program.sections.items k ≡ Some section →
      slice_get lists k ≡ Some ls → AreHeldLists program section ranks ls

-- ---- in words

-- PATHS, each after a space; or ` nothing`
abbrev pub held_text : Typed → Section → List ℕ → List ℕ
held_text program section [] = codes " nothing"
held_text program section (i ∷ is) = paths_text program section (i ∷ is)

-- , takes PATHS
abbrev pub taken_text : Typed → Section → List ℕ → List ℕ
taken_text program section [] = []
taken_text program section (i ∷ is) = codes ", takes" ++ paths_text program section (i ∷ is)

-- NAME: holds PATHS, takes PATHS
abbrev pub held_line : Typed → Section → List ℕ → List ℕ → List ℕ
held_line program section held taken =
    string_bytes section.name ++ codes ": holds" ++ held_text program section held ++ taken_text program section taken

-- the line of a point, if it is meant
abbrev pub line_if : Typed → Section → Bool → List ℕ → List ℕ → List (List ℕ)
line_if program section false held taken = []
line_if program section true held taken = held_line program section held taken ∷ []

-- the lines of the points whose statement starts at this byte, each point with the lists of held and of acquired lock
-- paths
abbrev pub point_lines : Typed → Section → ℕ → List Point → List (List ℕ) → List (List ℕ) → List (List ℕ)
point_lines program section start (p ∷ ps) (held ∷ helds) (taken ∷ takes) =
    line_if program section (start_of p == start) held taken ++ point_lines program section start ps helds takes
point_lines program section start _ _ _ = []

-- the lines of sections from the one with this number on, where these paths are held
abbrev pub section_lines : Plan → List (List (List ℕ)) → ℕ → ℕ → List Section → List (List ℕ)
section_lines plan held start k [] = []
section_lines plan held start k (s ∷ ss) =
    point_lines plan.program s start (points s) (lists_at held k) (lists_at plan.lists k)
    ++ section_lines plan held start (k + 1) ss

-- the lines of the statement that starts at this byte, each once, in the order of their bytes
abbrev pub lines_of : Plan → List (List (List ℕ)) → ℕ → List (List ℕ)
lines_of plan held start =
    fold (insert_key (slice_cmp nat_cmp)) [] (section_lines plan held start 0 plan.program.sections.items)
