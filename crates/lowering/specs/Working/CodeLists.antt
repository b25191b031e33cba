-- The instructions of a tree's parts, where their points begin and how many operands they need, over the items of each
-- `Vec`. Nobody has to believe these: `proofs/CodeViews`, `BeginViews` and `NeedViews` prove that they are those of the
-- tree.
use Rattle.std.specs.Prelude.{ℕ, ◌+◌, max, List, [], ◌∷◌, ◌++◌, length}
use Rattle.core_lang.specs.declared.tree.Operation.{Operation}
use Rattle.core_lang.specs.declared.tree.Condition.{Condition}
use Rattle.core_lang.specs.declared.tree.Stmt.{Stmt}
use Rattle.code.specs.declared.instr.Instr.{Instr}
use Rattle.code.specs.declared.instr.Instr.TheVariants.{Operate}
use Rattle.code.specs.Lowering.{expr_code, test_code, points_of, stmt_code}
use Rattle.code.specs.LineTables.{stmt_begins}
use Rattle.code.specs.Needs.{expr_need, test_need}

-- further operands, each followed by its operator
abbrev pub operations_code : List Operation → List Instr
operations_code [] = []
operations_code (o ∷ os) = (expr_code o.operand ++ Operate o.operator ∷ []) ++ operations_code os

-- operands of && or of ||, each with this jump after it, and the last
abbrev pub conditions_code : (ℕ → Instr) → List Condition → List Instr → List Instr
conditions_code jump [] last = last
conditions_code jump (c ∷ cs) last =
    test_code c ++ (jump (length (conditions_code jump cs last)) ∷ conditions_code jump cs last)

-- the number of points of statements
abbrev pub points_of_all : List Stmt → ℕ
points_of_all [] = 0
points_of_all (s ∷ ss) = points_of s.action + points_of_all ss

-- the code of statements, the first of whose points has this number
abbrev pub sequence_code : {P : Type 0} → List (List P) → List Stmt → ℕ → List Instr
sequence_code lists [] point = []
sequence_code lists (s ∷ ss) point =
    stmt_code lists s.action point ++ sequence_code lists ss (point + points_of s.action)

-- the places where the points of statements begin, the first at a place
abbrev pub sequence_begins : {P : Type 0} → List (List P) → List Stmt → ℕ → ℕ → List ℕ
sequence_begins lists [] point place = []
sequence_begins lists (s ∷ ss) point place =
    stmt_begins lists s.action point place
    ++ sequence_begins lists ss (point + points_of s.action) (place + length (stmt_code lists s.action point))

-- ---- operands

abbrev pub operations_need : List Operation → ℕ
operations_need [] = 0
operations_need (o ∷ os) = max (1 + expr_need o.operand) (operations_need os)

abbrev pub conditions_need : List Condition → ℕ
conditions_need [] = 0
conditions_need (c ∷ cs) = max (test_need c) (conditions_need cs)
