-- The helpers that the points of a section call: those that its statements call.
use Rattle.std.proofs.Common.{◌≡◌, ℕ, List, [], ◌∷◌, Option, Some, None}
use Rattle.std.specs.Prelude.{slice_get}
use Rattle.core_lang.specs.declared.tree.Stmt.{Stmt}
use Rattle.core_lang.specs.declared.tree.Action.{Action, Bind, SetLocal, SetGlobal, SetElement, SetField, Call, Print}
use Rattle.core_lang.specs.declared.tree.Action.{If', IfElse', While', Row_of-Stmt, end_of-Stmt, more_of-Stmt}
use Rattle.core_lang.specs.declared.tree.Return.{Return}
use Rattle.core_lang.specs.declared.tree.Section.{Section}
use Rattle.core_lang.specs.Helpers.{CallsOnly, AllCallOnly, EachCallsOnly}
use Rattle.flow.specs.Points.{Point, statement, result, inner_points, points_in, points_of_all, point_of_return, points}
use Rattle.flow.specs.Theory.Each.{Each, each_append, each_there}

module _ (P : ℕ → Type 0) where
  -- each helper that a point calls has the property
  abbrev pub PointCalls : Point → Type 0
  PointCalls (statement start x) = CallsOnly P x
  PointCalls (result r) = Unit {0}

  mutual
    inner_calls : (x : Action) → CallsOnly P x → Each PointCalls (inner_points x)
    inner_calls (Bind local e) h = tt
    inner_calls (SetLocal local e) h = tt
    inner_calls (SetGlobal cell e) h = tt
    inner_calls (SetElement array index e) h = tt
    inner_calls (SetField base s f e) h = tt
    inner_calls (Call helper arguments r) h = tt
    inner_calls (Print e) h = tt
    inner_calls (If' c m block) h = row_calls block h
    inner_calls (IfElse' c m block k otherwise) h =
        each_append PointCalls (points_in block) (points_in otherwise) (row_calls block h.0) (row_calls otherwise h.1)
    inner_calls (While' c m body) h = row_calls body h

    row_calls : {m : _} (row : Row_of-Stmt m) → AllCallOnly P row → Each PointCalls (points_in row)
    row_calls end_of-Stmt h = tt
    row_calls (more_of-Stmt start x rest) h = (h.0, each_append PointCalls (inner_points x) (points_in rest) (inner_calls x h.0) (row_calls rest h.1))

  all_call : (ss : List Stmt) → EachCallsOnly P ss → Each PointCalls (points_of_all ss)
  all_call [] h = tt
  all_call (s ∷ ss) h = (h.0, each_append PointCalls (inner_points s.action) (points_of_all ss) (inner_calls s.action h.0) (all_call ss h.1))

  return_calls : (r : Option Return) → Each PointCalls (point_of_return r)
  return_calls None = tt
  return_calls (Some r) = (tt, tt)

  pub point_calls : (section : Section) (p : ℕ) (point : Point) → EachCallsOnly P section.body.items →
      slice_get (points section) p ≡ Some point → PointCalls point
  point_calls section p point only at =
      each_there PointCalls (points section) p point
      (each_append PointCalls (points_of_all section.body.items) (point_of_return section.result) (all_call section.body.items only) (return_calls section.result)) at
