-- The limit on objects, cells or calls that is exceeded.
use Rattle.std.specs.Prelude.{◌≡◌, ◌+◌, ◌<◌, ◌≤◌, ℕ, List, take, slice_get, Some, codes}
use Rattle.resolution.specs.Limits.{OBJECT_LIMIT, CELL_LIMIT, CALL_LIMIT}
use Rattle.resolution.specs.Numbers.{objects_of, cells_of, calls_of, total}
use Rattle.resolution.specs.Scopes.{declared}
use Rattle.syntax.specs.Trees.{Ident, Decl}

-- the declaration whose name begins at this byte is the first one with which the sum of `of` exceeds the limit
pub record IsFirstOver (of : Decl → ℕ) (decls : List Decl) (at limit : ℕ) : Type 0 where
  pub place : ℕ
  pub decl : Decl
  pub name : Ident
  pub listed : slice_get decls place ≡ Some decl
  pub named : declared decl ≡ Some name
  pub starts : name.span.start ≡ at
  pub few : total of (take place decls) ≤ limit
  pub many : limit < total of (take place decls) + of decl

-- E15, for objects, cells and calls
pub data IsAmountPassed (decls : List Decl) (at : ℕ) : List ℕ → Type 0 where
  objects : IsFirstOver objects_of decls at OBJECT_LIMIT →
      IsAmountPassed decls at (codes "a program has at most 65536 objects")
  cells : IsFirstOver (cells_of decls) decls at CELL_LIMIT →
      IsAmountPassed decls at (codes "a program has at most 262144 cells")
  calls : IsFirstOver calls_of decls at CALL_LIMIT →
      IsAmountPassed decls at (codes "the threads of a program make at most 100000 calls, each repeat multiplied out")
