-- The number of points that replace the calls of a section once its helpers are expanded.
use Rattle.std.specs.Prelude.{ℕ, zero, suc, ◌+◌, List, [], ◌∷◌, slice_get, Option, Some, None}
use Rattle.core_lang.specs.declared.tree.Stmt.{Stmt}
use Rattle.core_lang.specs.declared.tree.Action.{Action, Call, If', IfElse', While', Row_of-Stmt, end_of-Stmt}
use Rattle.core_lang.specs.declared.tree.Action.{more_of-Stmt}
use Rattle.core_lang.specs.declared.tree.Return.{Return}
use Rattle.core_lang.specs.declared.tree.Section.{Section}
use Rattle.core_lang.specs.declared.shape.Shape.{Shape}
use Rattle.core_lang.specs.Meaning.{deepest}

-- the number of points of a statement: a call counts what its helper brings, and each other statement `own`
abbrev mutual
  pub points_by : ℕ → (ℕ → ℕ) → Action → ℕ
  points_by own brings (Call helper arguments result) = brings helper
  points_by own brings (If' c m block) = own + points_among own brings block
  points_by own brings (IfElse' c m block k otherwise) = own + (points_among own brings block + points_among own brings otherwise)
  points_by own brings (While' c m body) = own + points_among own brings body
  points_by own brings _ = own

  pub points_among : {m : _} → ℕ → (ℕ → ℕ) → Row_of-Stmt m → ℕ
  points_among own brings end_of-Stmt = 0
  points_among own brings (more_of-Stmt start action rest) = points_by own brings action + points_among own brings rest

-- the number of points of a list of statements
abbrev pub points_among_all : ℕ → (ℕ → ℕ) → List Stmt → ℕ
points_among_all own brings [] = 0
points_among_all own brings (x ∷ xs) = points_by own brings x.action + points_among_all own brings xs

-- a `return` is a point
abbrev pub result_points : Option Return → ℕ
result_points None = 0
result_points (Some result) = 1

-- the points of a helper, or 0 if it does not exist
abbrev pub points_if : Option Section → (Section → ℕ) → ℕ
points_if (Some helper) go = go helper
points_if None go = 0

-- the points that a helper brings: one for each parameter, those of its body, and its `return`, with calls followed to
-- this depth
abbrev pub brought_points : ℕ → Shape → ℕ → ℕ
brought_points zero shape helper = 0
brought_points (suc depth) shape helper =
    points_if (slice_get shape.helpers.items helper) (λ (h : Section).
    h.parameters + (points_among_all 1 (brought_points depth shape) h.body.items + result_points h.result))

-- the points that the calls of a section bring
abbrev pub helper_points : Shape → Section → ℕ
helper_points shape section = points_among_all 0 (brought_points deepest shape) section.body.items
