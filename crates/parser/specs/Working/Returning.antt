-- The first misplaced or missing `return`: what the functions of this crate compute.
use Rattle.std.specs.Prelude.{ℕ, Bool, true, false, List, [], ◌∷◌, Option, Some, None, min}
use Rattle.syntax.specs.Trees.{ValueType, Stmt, if_then, while, return_value, Stmts, no_stmts, stmt, Otherwise}
use Rattle.syntax.specs.Trees.{no_else, else_do, Section, Decl, atomic, helper}

-- the lesser of two bytes, if there are any
abbrev pub earlier : Option ℕ → Option ℕ → Option ℕ
earlier None b = b
earlier (Some a) None = Some a
earlier (Some a) (Some b) = Some (min a b)

-- the first byte of the statement, if it is a `return`
abbrev pub own_return : Stmt → Option ℕ
own_return (return_value at e) = Some at.start
own_return _ = None

abbrev mutual
  -- the first byte of the first `return` among statements and in their blocks
  pub least_return : Stmts → Option ℕ
  least_return no_stmts = None
  least_return (stmt s more) = earlier (earlier (own_return s) (inner_return s)) (least_return more)

  -- the first byte of the first `return` in the blocks of a statement
  pub inner_return : Stmt → Option ℕ
  inner_return (if_then start e body close other) = earlier (least_return body) (other_return other)
  inner_return (while start e body close) = least_return body
  inner_return _ = None

  pub other_return : Otherwise → Option ℕ
  other_return no_else = None
  other_return (else_do body close) = least_return body

abbrev pub least_stray : Stmts → Option ℕ
least_stray no_stmts = None
least_stray (stmt s no_stmts) = inner_return s
least_stray (stmt s (stmt next more)) = earlier (earlier (own_return s) (inner_return s)) (least_stray (stmt next more))

abbrev pub is_return : Stmt → Bool
is_return (return_value at e) = true
is_return _ = false

abbrev pub does_end : Stmts → Bool
does_end no_stmts = false
does_end (stmt s no_stmts) = is_return s
does_end (stmt s (stmt next more)) = does_end (stmt next more)

abbrev pub missing_at : Bool → ℕ → Option ℕ
missing_at true close = None
missing_at false close = Some close

abbrev pub section_fault_of : Option ValueType → Stmts → ℕ → Option ℕ
section_fault_of None ss close = least_return ss
section_fault_of (Some t) ss close = earlier (least_stray ss) (missing_at (does_end ss) close)

abbrev pub section_fault : Section → Option ℕ
section_fault s = section_fault_of s.result s.body.stmts s.body.close.start

abbrev pub decl_fault : Decl → Option ℕ
decl_fault (atomic s) = section_fault s
decl_fault (helper s) = section_fault s
decl_fault _ = None

abbrev pub least_fault : List Decl → Option ℕ
least_fault [] = None
least_fault (d ∷ ds) = earlier (decl_fault d) (least_fault ds)
