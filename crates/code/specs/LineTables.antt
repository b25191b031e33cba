-- The line table of a section's code: where the code of each point begins, and thereby the point of each instruction.
use Rattle.std.specs.Prelude.{ℕ, zero, suc, ◌+◌, leb, List, [], ◌∷◌, ◌++◌, length, slice_get, Option, Some, None}
use Rattle.std.specs.Prelude.{option_and_then, option_map, codes}
use Rattle.std.specs.List.{count_by}
use Rattle.std.specs.Option.{option_map_or}
use Rattle.std.specs.Fmt.{decimal}
use Rattle.source.specs.Faults.{line_of, column_of}
use Rattle.core_lang.specs.declared.tree.Stmt.{Stmt}
use Rattle.core_lang.specs.declared.tree.Action.{Action, If', IfElse', While', Row_of-Stmt, end_of-Stmt, more_of-Stmt}
use Rattle.core_lang.specs.declared.tree.Return.{Return as Result_of}
use Rattle.core_lang.specs.declared.tree.Section.{Section}
use Rattle.flow.specs.Points.{points, start_of}
use Rattle.code.specs.declared.instr.Instr.{Instr}
use Rattle.code.specs.Lowering.{test_code, points_of, points_in, acquire_code, stmt_code, block_code}

-- ---- where points begin

-- a `return` is a point; the end of a section without a result is not
abbrev pub end_begins : Option Result_of → ℕ → List ℕ
end_begins None place = []
end_begins (Some result) place = place ∷ []

-- given the lists of lock paths before the points
module _ {P : Type 0} (lists : List (List P)) where
  -- the place after a condition and its jump; n is the condition's number
  abbrev pub behind_test : List Instr → ℕ → ℕ → ℕ
  behind_test test n place = place + length (acquire_code lists n ++ test) + 1

  -- where the points of a statement begin, whose first point has number n and whose code begins at a place; a point
  -- begins with its acquire
  abbrev mutual
    pub stmt_begins : Action → ℕ → ℕ → List ℕ
    stmt_begins (If' c m block) n place = place ∷ block_begins block (n + 1) (behind_test (test_code c) n place)
    stmt_begins (IfElse' c m block k otherwise) n place =
        place ∷ (block_begins block (n + 1) (behind_test (test_code c) n place)
        ++ block_begins otherwise (n + 1 + points_in block)
        (behind_test (test_code c) n place + length (block_code lists block (n + 1)) + 1))
    stmt_begins (While' c m body) n place = place ∷ block_begins body (n + 1) (behind_test (test_code c) n place)
    stmt_begins _ n place = place ∷ []

    pub block_begins : {m : _} → Row_of-Stmt m → ℕ → ℕ → List ℕ
    block_begins end_of-Stmt n place = []
    block_begins (more_of-Stmt start action rest) n place =
        stmt_begins action n place
        ++ block_begins rest (n + points_of action) (place + length (stmt_code lists action n))

  -- where the points of statements and of the result begin
  abbrev pub body_begins : List Stmt → ℕ → ℕ → Option Result_of → List ℕ
  body_begins [] n place result = end_begins result place
  body_begins (x ∷ xs) n place result =
      stmt_begins x.action n place
      ++ body_begins xs (n + points_of x.action) (place + length (stmt_code lists x.action n)) result

  -- for each point of a section, the place of its first instruction
  abbrev pub section_begins : Section → List ℕ
  section_begins section = body_begins section.body.items 0 0 section.result

-- ---- the point of an instruction

-- the last of the given number of items
abbrev pub last_of : ℕ → Option ℕ
last_of zero = None
last_of (suc n) = Some n

-- the point of an instruction: the last one that begins at its place or before it
abbrev pub point_at : List ℕ → ℕ → Option ℕ
point_at begins place = last_of (count_by (λ begin. leb begin place) begins)

-- ---- its position in the program's text

-- LINE:COL
abbrev pub position_text : ℕ → ℕ → List ℕ
position_text line column = decimal line ++ codes ":" ++ decimal column

-- LINE:COL of the statement of the point of the instruction at a place, and a space; nothing if the section has no
-- point
abbrev pub place_text : List ℕ → List (List ℕ) → Section → ℕ → List ℕ
place_text text lists section place =
    option_map_or (λ start. position_text (line_of text start) (column_of text start) ++ codes " ")
    (option_and_then (λ point. option_map start_of (slice_get (points section) point))
    (point_at (section_begins lists section) place)) []
