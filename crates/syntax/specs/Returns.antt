-- Misplaced and missing returns. A `return` is the last statement of the body of a section or helper that has a result,
-- and is allowed nowhere else.
use Rattle.std.specs.Prelude.{◌≡◌, ℕ, ◌≤◌, List, ◌∷◌, Some, None}
use Rattle.source.specs.declared.span.Span.{Span}
use Rattle.syntax.specs.Trees.{ValueType, Expr, Stmt, if_then, while, return_value, Stmts, no_stmts, stmt, Otherwise}
use Rattle.syntax.specs.Trees.{else_do, Section, Decl, atomic, helper}

-- a `return` at this byte is this statement
pub data IsReturn : Stmt → ℕ → Type 0 where
  is_return : {at : Span} {e : Expr} → IsReturn (return_value at e) at.start

mutual
  -- a statement of the list is a `return` at this byte, or has one in a block
  pub data HasReturn : Stmts → ℕ → Type 0 where
    this_returns : {s : Stmt} {more : Stmts} {at : ℕ} → IsReturn s at → HasReturn (stmt s more) at
    returns_inside : {s : Stmt} {more : Stmts} {at : ℕ} → HasReturnInside s at → HasReturn (stmt s more) at
    later_returns : {s : Stmt} {more : Stmts} {at : ℕ} → HasReturn more at → HasReturn (stmt s more) at

  -- a `return` is in a block of the statement
  pub data HasReturnInside : Stmt → ℕ → Type 0 where
    in_then : {start close : Span} {e : Expr} {body : Stmts} {other : Otherwise} {at : ℕ} → HasReturn body at →
        HasReturnInside (if_then start e body close other) at
    in_else : {start close end : Span} {e : Expr} {body other : Stmts} {at : ℕ} → HasReturn other at →
        HasReturnInside (if_then start e body close (else_do other end)) at
    in_while : {start close : Span} {e : Expr} {body : Stmts} {at : ℕ} → HasReturn body at →
        HasReturnInside (while start e body close) at

-- a `return` at this byte has a statement after it, or is in a block of a statement
pub data HasStrayReturn : Stmts → ℕ → Type 0 where
  this_early : {s next : Stmt} {more : Stmts} {at : ℕ} → IsReturn s at → HasStrayReturn (stmt s (stmt next more)) at
  stray_inside : {s : Stmt} {more : Stmts} {at : ℕ} → HasReturnInside s at → HasStrayReturn (stmt s more) at
  later_stray : {s : Stmt} {more : Stmts} {at : ℕ} → HasStrayReturn more at → HasStrayReturn (stmt s more) at

-- the last statement is a `return`
pub data EndsInReturn : Stmts → Type 0 where
  last_returns : {s : Stmt} {at : ℕ} → IsReturn s at → EndsInReturn (stmt s no_stmts)
  ends_later : {s : Stmt} {more : Stmts} → EndsInReturn more → EndsInReturn (stmt s more)

-- the byte of a fault of the returns of a section or a helper
pub data IsSectionFault : Section → ℕ → Type 0 where
  no_result : {s : Section} {at : ℕ} → s.result ≡ None → HasReturn s.body.stmts at → IsSectionFault s at
  stray : {s : Section} {t : ValueType} {at : ℕ} → s.result ≡ Some t → HasStrayReturn s.body.stmts at →
      IsSectionFault s at
  missing : {s : Section} {t : ValueType} → s.result ≡ Some t → (EndsInReturn s.body.stmts → ⊥) →
      IsSectionFault s s.body.close.start

-- the byte of a fault of a program's returns
pub data IsReturnFault : List Decl → ℕ → Type 0 where
  this_section : {s : Section} {ds : List Decl} {at : ℕ} → IsSectionFault s at → IsReturnFault (atomic s ∷ ds) at
  this_helper : {s : Section} {ds : List Decl} {at : ℕ} → IsSectionFault s at → IsReturnFault (helper s ∷ ds) at
  later_section : {d : Decl} {ds : List Decl} {at : ℕ} → IsReturnFault ds at → IsReturnFault (d ∷ ds) at

-- the program has no fault of returns
abbrev pub ReturnsRight : List Decl → Type 0
ReturnsRight ds = (at : ℕ) → IsReturnFault ds at → ⊥

-- the lowest byte of a fault of a program's returns
abbrev pub IsFirstReturnFault : List Decl → ℕ → Type 0
IsFirstReturnFault ds at = IsReturnFault ds at × ((other : ℕ) → IsReturnFault ds other → at ≤ other)
