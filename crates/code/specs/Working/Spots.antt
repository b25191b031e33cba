-- Where the code of each point of a section begins.
use Rattle.std.specs.Prelude.{◌≡◌, ℕ, ◌+◌, List, [], ◌∷◌, length, slice_get, Option, Some, None, ◌⊎◌, ⊤}
use Rattle.core_lang.specs.declared.tree.Stmt.{Stmt}
use Rattle.core_lang.specs.declared.tree.Action.{Action, If', IfElse', While', Row_of-Stmt, end_of-Stmt, more_of-Stmt}
use Rattle.core_lang.specs.declared.tree.Return.{Return as Result_of}
use Rattle.core_lang.specs.declared.tree.Section.{Section}
use Rattle.flow.specs.Points.{Point, statement, result}
use Rattle.code.specs.declared.instr.Instr.{Instr}
use Rattle.code.specs.Lowering.{test_code, points_of, points_in, stmt_code, block_code}
use Rattle.code.specs.LineTables.{behind_test}

-- the code has these instructions from a place on
abbrev pub HasAt : List Instr → ℕ → List Instr → Type 0
HasAt code place [] = ⊤
HasAt code place (instr ∷ rest) = (slice_get code place ≡ Some instr) × HasAt code (place + 1) rest

-- a point in the code: its number, the place where its code begins, and what it does
pub record Spot : Type 0 where
  pub number : ℕ
  pub place : ℕ
  pub point : Point

abbrev pub spot : ℕ → ℕ → Point → Spot
spot number place point = record { number = number; place = place; point = point }

-- given the lists of lock paths before the points
module _ {P : Type 0} (lists : List (List P)) where
  -- x is a point of the blocks of a statement; the statement's first point has number n, and its code begins at place
  abbrev mutual
    pub Inside : Action → ℕ → ℕ → Spot → Type 0
    Inside (If' c m block) n place x = InBlock block (n + 1) (behind_test lists (test_code c) n place) x
    Inside (IfElse' c m block k otherwise) n place x =
        InBlock block (n + 1) (behind_test lists (test_code c) n place) x
        ⊎ InBlock otherwise (n + 1 + points_in block)
        (behind_test lists (test_code c) n place + length (block_code lists block (n + 1)) + 1) x
    Inside (While' c m body) n place x = InBlock body (n + 1) (behind_test lists (test_code c) n place) x
    Inside _ n place x = ⊥

    -- x is a point of a block
    pub InBlock : {m : _} → Row_of-Stmt m → ℕ → ℕ → Spot → Type 0
    InBlock end_of-Stmt n place x = ⊥
    InBlock (more_of-Stmt start action rest) n place x =
        ((x ≡ spot n place (statement start action)) ⊎ Inside action n place x)
        ⊎ InBlock rest (n + points_of action) (place + length (stmt_code lists action n)) x

  -- x is the point of a statement that starts at this byte, or one of its blocks
  abbrev pub InAction : ℕ → Action → ℕ → ℕ → Spot → Type 0
  InAction start action n place x = (x ≡ spot n place (statement start action)) ⊎ Inside action n place x

  -- x is a point of statements, or of the result after them
  abbrev pub InBody : List Stmt → Option Result_of → ℕ → ℕ → Spot → Type 0
  InBody [] None n place x = ⊥
  InBody [] (Some r) n place x = x ≡ spot n place (result r)
  InBody (s ∷ ss) r n place x =
      InAction s.start s.action n place x
      ⊎ InBody ss r (n + points_of s.action) (place + length (stmt_code lists s.action n)) x

  -- x is a point of a section
  abbrev pub InSection : Section → Spot → Type 0
  InSection section x = InBody section.body.items section.result 0 0 x
