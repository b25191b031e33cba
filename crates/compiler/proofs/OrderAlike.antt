-- Programs that stand for one resolved program have the same order of lock classes and the same cycles, wherever they
-- are in memory.
use Rattle.std.proofs.Common.{◌≡◌, ℕ, List, [], ◌∷◌, ◌++◌, Option, Some, None, refl, sym, ap, subst, ◌∙◌}
use Rattle.std.specs.Prelude.{map, option_map, slice_get, codes, ◌⊎◌, string_bytes}
use Rattle.std.specs.List.{Contains}
use Rattle.source.specs.declared.fault.Fault.{Fault}
use Rattle.core_lang.specs.declared.tree.Stmt as s
use Rattle.core_lang.specs.declared.tree.Action as a
use Rattle.core_lang.specs.declared.tree.Action.{Bind, SetLocal, SetGlobal, SetElement, SetField, Call as CallOf, Print}
use Rattle.core_lang.specs.declared.tree.Action.{If', IfElse', While', Row_of-Stmt, end_of-Stmt, more_of-Stmt}
use Rattle.core_lang.specs.declared.tree.Return as the_return
use Rattle.core_lang.specs.declared.tree.Section as the_section
use Rattle.core_lang.specs.declared.typed.LockClass as the_class
use Rattle.core_lang.specs.declared.typed.LockClass.TheVariants as class_case
use Rattle.core_lang.specs.declared.typed.LockField as the_lock
use Rattle.core_lang.specs.declared.typed.Struct as the_struct
use Rattle.core_lang.specs.declared.typed.Typed.{Typed}
use Rattle.core_lang.specs.Typing.{lookup}
use Rattle.resolution.specs.Core.{Action, bind, call, if_true, if_else, while_true, Stmts, no_stmts, stmt, Return}
use Rattle.resolution.specs.Core.{Section, LockClass, global_lock, lock_field, LockField, Struct, Program}
use Rattle.resolution.specs.CoreViews.{core_action, core_stmts_row, core_stmts, core_return, core_section, core_class}
use Rattle.resolution.specs.CoreViews.{core_lock, core_struct, core_of}
use Rattle.flow.specs.Points.{Point, statement, result, points, start_of, bound_at, Binds}
use Rattle.flow.specs.Skeletons.{Skeleton, Nil, Step, Fork, Loop, in_front, block_skeleton, all_in_front}
use Rattle.flow.specs.Skeletons.{return_skeleton, skeleton}
use Rattle.flow.specs.Flow.{Before}
use Rattle.locks.specs.Accesses.{accesses_at}
use Rattle.locks.specs.LockPaths.{LockPath, paths_of, Uses}
use Rattle.locks.specs.Texts.{or_nothing, lock_name, struct_name, class_text, class_name}
use Rattle.lockorder.specs.Ranks.{LeadTo, IsCycle}
use Rattle.lockorder.specs.Edges.{UsesClass, BindsClass, Makes, Edge}
use Rattle.lockorder.specs.Faults.{arrows, cycle_text, second, StartsAt, IsFault, cycle}
use Rattle.compiler.proofs.Alike.{looked_at, Spot, at_statement, at_return, spot, spots, points_alike, accesses_of_spot}
use Rattle.compiler.proofs.Alike.{accesses_at_alike, section_at, paths_same}
use Rattle.core_lang.specs.Theory.Items.{get_mapped, map_some}

-- ---- skeletons of resolved sections

abbrev mutual
  front_of : Action → Skeleton → Skeleton
  front_of (if_true x block) rest = Fork (block_of block) Nil rest
  front_of (if_else x block otherwise) rest = Fork (block_of block) (block_of otherwise) rest
  front_of (while_true x body) rest = Loop (block_of body) rest
  front_of _ rest = Step rest

  block_of : Stmts → Skeleton
  block_of no_stmts = Nil
  block_of (stmt start x rest) = front_of x (block_of rest)

mutual
  front_alike : (x : a.Action) (rest : Skeleton) → in_front x rest ≡ front_of (core_action x) rest
  front_alike (Bind local x) rest = refl
  front_alike (SetLocal local x) rest = refl
  front_alike (SetGlobal cell x) rest = refl
  front_alike (SetElement array index x) rest = refl
  front_alike (SetField base structure field x) rest = refl
  front_alike (CallOf helper xs r) rest = refl
  front_alike (Print x) rest = refl
  front_alike (If' x _ block) rest = λ i. Fork (block_alike block i) Nil rest
  front_alike (IfElse' x _ block _ otherwise) rest = λ i. Fork (block_alike block i) (block_alike otherwise i) rest
  front_alike (While' x _ body) rest = λ i. Loop (block_alike body i) rest

  block_alike : {m : _} (row : Row_of-Stmt m) → block_skeleton row ≡ block_of (core_stmts_row row)
  block_alike end_of-Stmt = refl
  block_alike (more_of-Stmt start x rest) = front_alike x (block_skeleton rest) ∙ ap (front_of (core_action x)) (block_alike rest)

abbrev all_of : Stmts → Skeleton → Skeleton
all_of no_stmts rest = rest
all_of (stmt start x ss) rest = front_of x (all_of ss rest)

all_alike : (ss : List s.Stmt) (rest : Skeleton) → all_in_front ss rest ≡ all_of (core_stmts ss) rest
all_alike [] rest = refl
all_alike (x ∷ ss) rest = front_alike x.action (all_in_front ss rest) ∙ ap (front_of (core_action x.action)) (all_alike ss rest)

abbrev return_of : Option Return → Skeleton
return_of None = Nil
return_of (Some r) = Step Nil

return_alike : (r : Option the_return.Return) → return_skeleton r ≡ return_of (option_map core_return r)
return_alike None = refl
return_alike (Some r) = refl

abbrev skeleton_of : Section → Skeleton
skeleton_of x = all_of x.body (return_of x.result)

skeleton_alike : (x : the_section.Section) → skeleton x ≡ skeleton_of (core_section x)
skeleton_alike x = all_alike x.body.items (return_skeleton x.result) ∙ ap (all_of (core_stmts x.body.items)) (return_alike x.result)

-- ---- the bindings and the positions of its points

abbrev bound_of : Spot → Option ℕ
bound_of (at_statement start (bind local x)) = Some local
bound_of (at_statement start (call helper xs (Some local))) = Some local
bound_of _ = None

bound_alike : (p : Point) → bound_at p ≡ bound_of (spot p)
bound_alike (statement start (Bind local x)) = refl
bound_alike (statement start (SetLocal local x)) = refl
bound_alike (statement start (SetGlobal cell x)) = refl
bound_alike (statement start (SetElement array index x)) = refl
bound_alike (statement start (SetField base structure field x)) = refl
bound_alike (statement start (CallOf helper xs None)) = refl
bound_alike (statement start (CallOf helper xs (Some local))) = refl
bound_alike (statement start (Print x)) = refl
bound_alike (statement start (If' x _ block)) = refl
bound_alike (statement start (IfElse' x _ block _ otherwise)) = refl
bound_alike (statement start (While' x _ body)) = refl
bound_alike (result r) = refl

abbrev start_of_spot : Spot → ℕ
start_of_spot (at_statement start x) = start
start_of_spot (at_return r) = r.start

start_alike : (p : Point) → start_of p ≡ start_of_spot (spot p)
start_alike (statement start x) = refl
start_alike (result r) = refl

-- ---- names of its classes

abbrev lock_by : Program → ℕ → ℕ → List ℕ
lock_by program k l =
    or_nothing (lookup (slice_get program.structs k) (λ (x : Struct). lookup (slice_get x.locks l) (λ (y : LockField). Some y.name)))

lock_alike : (program : Typed) (k l : ℕ) → lock_name program k l ≡ lock_by (core_of program) k l
lock_alike program k l =
    ap or_nothing ((λ i. lookup (slice_get program.structs.items k) (λ (x : the_struct.Struct). in_struct x i))
    ∙ sym (looked_at core_struct program.structs.items k (λ (x : Struct). lookup (slice_get x.locks l) (λ (y : LockField). Some y.name))))
  where
    in_struct : (x : the_struct.Struct) →
        lookup (slice_get x.locks.items l) (λ (y : the_lock.LockField). Some (string_bytes y.name))
        ≡ lookup (slice_get (core_struct x).locks l) (λ (y : LockField). Some y.name)
    in_struct x = sym (looked_at core_lock x.locks.items l (λ (y : LockField). Some y.name))

abbrev struct_by : Program → ℕ → List ℕ
struct_by program k = or_nothing (lookup (slice_get program.structs k) (λ (x : Struct). Some x.name))

struct_alike : (program : Typed) (k : ℕ) → struct_name program k ≡ struct_by (core_of program) k
struct_alike program k = ap or_nothing (sym (looked_at core_struct program.structs.items k (λ (x : Struct). Some x.name)))

abbrev text_by : Program → LockClass → List ℕ
text_by program (global_lock name) = name
text_by program (lock_field k l) = struct_by program k ++ codes "." ++ lock_by program k l

text_alike : (program : Typed) (x : the_class.LockClass) →
    class_text program x ≡ text_by (core_of program) (core_class x)
text_alike program (class_case.Global name) = refl
text_alike program (class_case.Field k l) = λ i. struct_alike program k i ++ codes "." ++ lock_alike program k l i

abbrev name_by : Program → ℕ → List ℕ
name_by program c = or_nothing (lookup (slice_get program.classes c) (λ (x : LockClass). Some (text_by program x)))

name_alike : (program : Typed) (c : ℕ) → class_name program c ≡ name_by (core_of program) c
name_alike program c =
    ap or_nothing ((λ i. lookup (slice_get program.classes.items c) (λ (x : the_class.LockClass). Some (text_alike program x i)))
    ∙ sym (looked_at core_class program.classes.items c (λ (x : LockClass). Some (text_by (core_of program) x))))

-- ---- faults

module _ (program other : Typed) (same : core_of program ≡ core_of other) where
  name_same : (c : ℕ) → class_name program c ≡ class_name other c
  name_same c = name_alike program c ∙ ap (λ (p : Program). name_by p c) same ∙ sym (name_alike other c)

  arrows_same : (cs : List ℕ) → arrows program cs ≡ arrows other cs
  arrows_same [] = refl
  arrows_same (c ∷ cs) = λ i. name_same c i ++ codes " -> " ++ arrows_same cs i

  text_same : (cs : List ℕ) → cycle_text program cs ≡ cycle_text other cs
  text_same [] = refl
  text_same (c ∷ cs) = λ i. arrows_same (c ∷ cs) i ++ name_same c i

  module _ (x y : the_section.Section) (one : core_section x ≡ core_section y) where
    skeleton_same : skeleton x ≡ skeleton y
    skeleton_same = skeleton_alike x ∙ ap skeleton_of one ∙ sym (skeleton_alike y)

    spots_same : map spot (points x) ≡ map spot (points y)
    spots_same = points_alike x ∙ ap spots one ∙ sym (points_alike y)

    -- a point of the one is one of the other, wherever that lies
    point_at : (p : ℕ) (point : Point) → slice_get (points x) p ≡ Some point
        → (found : Point) × (slice_get (points y) p ≡ Some found) × (spot found ≡ spot point)
    point_at p point at =
        map_some spot (slice_get (points y) p) (spot point)
        (sym (get_mapped spot (points y) p) ∙ ap (λ list. slice_get list p) (sym spots_same) ∙ get_mapped spot (points x) p ∙ ap (option_map spot) at)

    used_same : (p q : Point) → spot q ≡ spot p → paths_of program x (accesses_at p) ≡ paths_of other y (accesses_at q)
    used_same p q seen =
        paths_same program other same x y one (accesses_at p)
        ∙ ap (paths_of other y) (accesses_at_alike p ∙ ap accesses_of_spot (sym seen) ∙ sym (accesses_at_alike q))

    uses_alike : (p : ℕ) (path : LockPath) → Uses program x p path → Uses other y p path
    uses_alike p path (point, at, among) =
        let found = point_at p point at in
        (found.0, found.1, subst (λ list. Contains list path) (used_same point found.0 found.2) among)

    binds_alike : (p k : ℕ) → Binds x p k → Binds y p k
    binds_alike p k (point, at, bound) =
        let found = point_at p point at in
        (found.0, found.1, bound_alike found.0 ∙ ap bound_of found.2 ∙ sym (bound_alike point) ∙ bound)

    uses_class_alike : (p c : ℕ) → UsesClass program x p c → UsesClass other y p c
    uses_class_alike p c (path, uses, of) = (path, uses_alike p path uses, of)

    binds_class_alike : (p c : ℕ) → BindsClass program x p c → BindsClass other y p c
    binds_class_alike p c (path, user, uses, (k, root, binds), of) =
        (path, user, uses_alike user path uses, (k, root, binds_alike p k binds), of)

    before_alike : (used bound : ℕ) → (used ≡ bound) ⊎ Before (skeleton x) used bound →
        (used ≡ bound) ⊎ Before (skeleton y) used bound
    before_alike used bound order = subst (λ c. (used ≡ bound) ⊎ Before c used bound) skeleton_same order

  makes_alike : (number used bound c d : ℕ) → Makes program number used bound c d → Makes other number used bound c d
  makes_alike number used bound c d m =
      let found = section_at program other same number m.section m.here in
      record {
        section = found.0;
        here = found.1;
        uses = uses_class_alike m.section found.0 found.2 used c m.uses;
        binds = binds_class_alike m.section found.0 found.2 bound d m.binds;
        order = before_alike m.section found.0 found.2 used bound m.order;
      }

  edge_alike : (c d : ℕ) → Edge program c d → Edge other c d
  edge_alike c d (number, used, bound, makes) = (number, used, bound, makes_alike number used bound c d makes)

  lead_alike : (first : ℕ) (list : List ℕ) → LeadTo (Edge program) first list → LeadTo (Edge other) first list
  lead_alike first [] lead = lead
  lead_alike first (c ∷ []) lead = edge_alike c first lead
  lead_alike first (c ∷ d ∷ rest) lead = (edge_alike c d lead.0, lead_alike first (d ∷ rest) lead.1)

  cycle_alike : (list : List ℕ) → IsCycle (Edge program) list → IsCycle (Edge other) list
  cycle_alike [] is = is
  cycle_alike (c ∷ rest) is = (is.0, lead_alike c (c ∷ rest) is.1)

  starts_alike : (number p start : ℕ) → StartsAt program number p start → StartsAt other number p start
  starts_alike number p start at =
      let found = section_at program other same number at.section at.here in
      let seen = point_at at.section found.0 found.2 p at.point at.there in
      record {
        section = found.0;
        here = found.1;
        point = seen.0;
        there = seen.1;
        starts = start_alike seen.0 ∙ ap start_of_spot seen.2 ∙ sym (start_alike at.point) ∙ at.starts;
      }

  pub order_fault_alike : (fault : Fault) → IsFault program fault → IsFault other fault
  order_fault_alike fault (cycle c rest number used bound is makes at code detail) =
      cycle c rest number used bound (cycle_alike (c ∷ rest) is) (makes_alike number used bound c (second c rest) makes)
      (starts_alike number used fault.start at) code (detail ∙ text_same (c ∷ rest))
