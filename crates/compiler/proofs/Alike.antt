-- Programs that stand for one resolved program have the same accesses, lock paths and faults of lock paths, wherever
-- they are in memory.
use Rattle.std.proofs.Common.{◌≡◌, ℕ, List, [], ◌∷◌, ◌++◌, length, Option, Some, None, if◌then◌else◌, refl, sym, ap}
use Rattle.std.proofs.Common.{subst, ◌∙◌}
use Rattle.std.specs.Prelude.{map, option_map, slice_get, ◌==◌}
use Rattle.std.specs.List.{Contains, filter_map, flat_map, cons_option, list_any}
use Rattle.source.specs.declared.fault.Code.{Code}
use Rattle.core_lang.specs.declared.tree.FieldStep.{FieldStep}
use Rattle.core_lang.specs.declared.tree.Expr as e
use Rattle.core_lang.specs.declared.tree.Expr.{Number, Null, Place, Global, Element', Member', Negate', Owned', Chain'}
use Rattle.core_lang.specs.declared.tree.Expr.{Row_of-Operation, end_of-Operation, more_of-Operation}
use Rattle.core_lang.specs.declared.tree.Condition as c
use Rattle.core_lang.specs.declared.tree.Condition.{Compare, Not', And', Or', Row_of-Condition, end_of-Condition}
use Rattle.core_lang.specs.declared.tree.Condition.{more_of-Condition}
use Rattle.core_lang.specs.declared.tree.Stmt as s
use Rattle.core_lang.specs.declared.tree.Action as a
use Rattle.core_lang.specs.declared.tree.Action.{Bind, SetLocal, SetGlobal, SetElement, SetField, Call as CallOf, Print}
use Rattle.core_lang.specs.declared.tree.Action.{If', IfElse', While', Row_of-Stmt, end_of-Stmt, more_of-Stmt}
use Rattle.core_lang.specs.declared.tree.Return as the_return
use Rattle.core_lang.specs.declared.tree.Section as the_section
use Rattle.core_lang.specs.declared.typed.CellOwner.{CellOwner}
use Rattle.core_lang.specs.declared.typed.CellOwner.TheVariants as owner
use Rattle.core_lang.specs.declared.typed.Cell.{Cell}
use Rattle.core_lang.specs.declared.typed.LockClass as the_class
use Rattle.core_lang.specs.declared.typed.LockClass.TheVariants as class_case
use Rattle.core_lang.specs.declared.typed.Protection as the_protection
use Rattle.core_lang.specs.declared.typed.Field as the_field
use Rattle.core_lang.specs.declared.typed.Struct as the_struct
use Rattle.core_lang.specs.declared.typed.Typed.{Typed}
use Rattle.core_lang.specs.Typing.{lookup}
use Rattle.resolution.specs.Core.{Expr, number, null, place, global, element, member, negate, owned, chain, Operations}
use Rattle.resolution.specs.Core.{no_operations, operation, Condition, compare, negation, all_of, any_of, Conditions}
use Rattle.resolution.specs.Core.{no_conditions, condition, Action, bind, set_local, set_global, set_element, set_field}
use Rattle.resolution.specs.Core.{call, print, if_true, if_else, while_true, Stmts, no_stmts, stmt, Return, Local}
use Rattle.resolution.specs.Core.{Section, LockClass, global_lock, lock_field, Protection, Field, Struct}
use Rattle.resolution.specs.Core.{GlobalVariable, Array, Program}
use Rattle.resolution.specs.CoreViews.{core_expr, core_operations_row, core_condition, core_conditions_row, core_action}
use Rattle.resolution.specs.CoreViews.{core_stmts_row, core_stmts, core_return, core_local, core_section, core_class}
use Rattle.resolution.specs.CoreViews.{core_protection, core_field, core_struct, core_global, core_array, core_of}
use Rattle.flow.specs.Points.{Point, statement, result, inner_points, points_in, points_of_all, point_of_return, points}
use Rattle.locks.specs.declared.path.Root.TheVariants as root
use Rattle.locks.specs.Accesses.{Access, Target, global as at_global, element as at_element, field as at_field, along}
use Rattle.locks.specs.Accesses.{access, in_path, in_expr, in_exprs, in_operations, in_condition, in_conditions}
use Rattle.locks.specs.Accesses.{in_action, accesses_at, accesses}
use Rattle.locks.specs.Locks.{protection_of}
use Rattle.locks.specs.LockPaths.{StablePath, OwnerPath, is_fixed, all_final, stable, stable_value, owner_of}
use Rattle.locks.specs.LockPaths.{owned_path, Binding, binding_at, bindings, or_behind, replaced, all_replaced}
use Rattle.locks.specs.LockPaths.{normal_form, extended, normal_base, LockPath, global_path, whole_class, under, class_if_global}
use Rattle.locks.specs.LockPaths.{target_path, lock_path, paths_of, each_once}
use Rattle.locks.specs.Faults.{HasSection, IsFault, Named, where_at, IsUnstable, IsUnstableOwner, IsOverLimit, unstable}
use Rattle.locks.specs.Faults.{unstable_owner, one_too_many, unstable_base, unstable_owner_base, over_limit}
use Rattle.core_lang.specs.Theory.Items.{get_mapped, in_map, from_map, map_some}

-- ---- lists and lookups seen by a view

both : {A : Type 0} {xs xs' ys ys' : List A} → xs ≡ xs' → ys ≡ ys' → xs ++ ys ≡ xs' ++ ys'
both p q = λ i. p i ++ q i

mapped_append : {A B : Type 0} (f : A → B) (xs ys : List A) → map f (xs ++ ys) ≡ map f xs ++ map f ys
mapped_append f [] ys = refl
mapped_append f (x ∷ xs) ys = ap (λ zs. f x ∷ zs) (mapped_append f xs ys)

looked : {A B C : Type 0} (f : A → B) (o : Option A) (g : B → Option C) →
    lookup (option_map f o) g ≡ lookup o (λ x. g (f x))
looked f (Some x) g = refl
looked f None g = refl

pub looked_at : {A B C : Type 0} (f : A → B) (xs : List A) (k : ℕ) (g : B → Option C) →
    lookup (slice_get (map f xs) k) g ≡ lookup (slice_get xs k) (λ x. g (f x))
looked_at f xs k g = ap (λ o. lookup o g) (get_mapped f xs k) ∙ looked f (slice_get xs k) g

viewed : {A B C : Type 0} (f : B → C) (o : Option A) (g : A → Option B) →
    option_map f (lookup o g) ≡ lookup o (λ x. option_map f (g x))
viewed f (Some x) g = refl
viewed f None g = refl

-- ---- the accesses of a resolved program

abbrev mutual
  of_expr : Expr → List Access
  of_expr (number n) = []
  of_expr null = []
  of_expr (place p) = along p.start p.local [] p.fields
  of_expr (global start cell) = access start (at_global cell) ∷ []
  of_expr (element start array index) = access start (at_element array) ∷ of_expr index
  of_expr (member pool index) = of_expr index
  of_expr (negate x) = of_expr x
  of_expr (owned x k f start owner) = of_expr x
  of_expr (chain first rest) = of_expr first ++ of_operations rest

  of_operations : Operations → List Access
  of_operations no_operations = []
  of_operations (operation operator x rest) = of_expr x ++ of_operations rest

mutual
  expr_alike : (x : e.Expr) → in_expr x ≡ of_expr (core_expr x)
  expr_alike (Number n) = refl
  expr_alike Null = refl
  expr_alike (Place p) = refl
  expr_alike (Global start cell) = refl
  expr_alike (Element' start array _ index) = ap (λ xs. access start (at_element array) ∷ xs) (expr_alike index)
  expr_alike (Member' pool _ index) = expr_alike index
  expr_alike (Negate' _ x) = expr_alike x
  expr_alike (Owned' _ x k f start owner) = expr_alike x
  expr_alike (Chain' _ first _ rest) = both (expr_alike first) (operations_alike rest)

  operations_alike : {m : _} (row : Row_of-Operation m) → in_operations row ≡ of_operations (core_operations_row row)
  operations_alike end_of-Operation = refl
  operations_alike (more_of-Operation operator x rest) = both (expr_alike x) (operations_alike rest)

exprs_alike : (xs : List e.Expr) → in_exprs xs ≡ flat_map of_expr (map core_expr xs)
exprs_alike [] = refl
exprs_alike (x ∷ xs) = both (expr_alike x) (exprs_alike xs)

abbrev mutual
  of_condition : Condition → List Access
  of_condition (compare comparison x y) = of_expr x ++ of_expr y
  of_condition (negation x) = of_condition x
  of_condition (all_of before last) = of_conditions before ++ of_condition last
  of_condition (any_of before last) = of_conditions before ++ of_condition last

  of_conditions : Conditions → List Access
  of_conditions no_conditions = []
  of_conditions (condition x rest) = of_condition x ++ of_conditions rest

mutual
  condition_alike : (x : c.Condition) → in_condition x ≡ of_condition (core_condition x)
  condition_alike (Compare comparison x y) = both (expr_alike x) (expr_alike y)
  condition_alike (Not' _ x) = condition_alike x
  condition_alike (And' _ before _ last) = both (conditions_alike before) (condition_alike last)
  condition_alike (Or' _ before _ last) = both (conditions_alike before) (condition_alike last)

  conditions_alike : {m : _} (row : Row_of-Condition m) → in_conditions row ≡ of_conditions (core_conditions_row row)
  conditions_alike end_of-Condition = refl
  conditions_alike (more_of-Condition x rest) = both (condition_alike x) (conditions_alike rest)

abbrev of_action : ℕ → Action → List Access
of_action start (bind local x) = of_expr x
of_action start (set_local local x) = of_expr x
of_action start (set_global cell x) = access start (at_global cell) ∷ of_expr x
of_action start (set_element array index x) = access start (at_element array) ∷ (of_expr index ++ of_expr x)
of_action start (set_field p structure field x) =
    along p.start p.local [] p.fields ++ access p.start (at_field p.local p.fields structure field) ∷ of_expr x
of_action start (call helper xs r) = flat_map of_expr xs
of_action start (print x) = of_expr x
of_action start (if_true x block) = of_condition x
of_action start (if_else x block otherwise) = of_condition x
of_action start (while_true x body) = of_condition x

action_alike : (start : ℕ) (x : a.Action) → in_action start x ≡ of_action start (core_action x)
action_alike start (Bind local x) = expr_alike x
action_alike start (SetLocal local x) = expr_alike x
action_alike start (SetGlobal cell x) = ap (λ xs. access start (at_global cell) ∷ xs) (expr_alike x)
action_alike start (SetElement array index x) = ap (λ xs. access start (at_element array) ∷ xs) (both (expr_alike index) (expr_alike x))
action_alike start (SetField base structure field x) =
    ap (λ xs. in_path base ++ access base.start (at_field base.local base.fields.items structure field) ∷ xs) (expr_alike x)
action_alike start (CallOf helper xs r) = exprs_alike xs.items
action_alike start (Print x) = expr_alike x
action_alike start (If' x _ block) = condition_alike x
action_alike start (IfElse' x _ block _ otherwise) = condition_alike x
action_alike start (While' x _ body) = condition_alike x

-- ---- its points

pub data Spot : Type 0 where
  at_statement : (start : ℕ) → Action → Spot
  at_return : Return → Spot

abbrev pub spot : Point → Spot
spot (statement start x) = at_statement start (core_action x)
spot (result r) = at_return (core_return r)

abbrev mutual
  spots_within : Action → List Spot
  spots_within (if_true x block) = spots_in block
  spots_within (if_else x block otherwise) = spots_in block ++ spots_in otherwise
  spots_within (while_true x body) = spots_in body
  spots_within _ = []

  spots_in : Stmts → List Spot
  spots_in no_stmts = []
  spots_in (stmt start x rest) = at_statement start x ∷ (spots_within x ++ spots_in rest)

mutual
  within_alike : (x : a.Action) → map spot (inner_points x) ≡ spots_within (core_action x)
  within_alike (Bind local x) = refl
  within_alike (SetLocal local x) = refl
  within_alike (SetGlobal cell x) = refl
  within_alike (SetElement array index x) = refl
  within_alike (SetField base structure field x) = refl
  within_alike (CallOf helper xs r) = refl
  within_alike (Print x) = refl
  within_alike (If' x _ block) = block_alike block
  within_alike (IfElse' x _ block _ otherwise) =
      mapped_append spot (points_in block) (points_in otherwise) ∙ both (block_alike block) (block_alike otherwise)
  within_alike (While' x _ body) = block_alike body

  block_alike : {m : _} (row : Row_of-Stmt m) → map spot (points_in row) ≡ spots_in (core_stmts_row row)
  block_alike end_of-Stmt = refl
  block_alike (more_of-Stmt start x rest) =
      ap (λ xs. at_statement start (core_action x) ∷ xs)
      (mapped_append spot (inner_points x) (points_in rest) ∙ both (within_alike x) (block_alike rest))

all_alike : (ss : List s.Stmt) → map spot (points_of_all ss) ≡ spots_in (core_stmts ss)
all_alike [] = refl
all_alike (x ∷ ss) =
    ap (λ xs. at_statement x.start (core_action x.action) ∷ xs)
    (mapped_append spot (inner_points x.action) (points_of_all ss) ∙ both (within_alike x.action) (all_alike ss))

abbrev spot_of_return : Option Return → List Spot
spot_of_return None = []
spot_of_return (Some r) = at_return r ∷ []

return_alike : (r : Option the_return.Return) → map spot (point_of_return r) ≡ spot_of_return (option_map core_return r)
return_alike None = refl
return_alike (Some r) = refl

abbrev pub spots : Section → List Spot
spots x = spots_in x.body ++ spot_of_return x.result

pub points_alike : (x : the_section.Section) → map spot (points x) ≡ spots (core_section x)
points_alike x =
    mapped_append spot (points_of_all x.body.items) (point_of_return x.result) ∙ both (all_alike x.body.items) (return_alike x.result)

-- ---- its accesses

abbrev pub accesses_of_spot : Spot → List Access
accesses_of_spot (at_statement start x) = of_action start x
accesses_of_spot (at_return r) = of_expr r.value

pub accesses_at_alike : (p : Point) → accesses_at p ≡ accesses_of_spot (spot p)
accesses_at_alike (statement start x) = action_alike start x
accesses_at_alike (result r) = expr_alike r.value

over_alike : (ps : List Point) → flat_map accesses_at ps ≡ flat_map accesses_of_spot (map spot ps)
over_alike [] = refl
over_alike (p ∷ ps) = both (accesses_at_alike p) (over_alike ps)

accesses_alike : (x : the_section.Section) → accesses x ≡ flat_map accesses_of_spot (spots (core_section x))
accesses_alike x = over_alike (points x) ∙ ap (flat_map accesses_of_spot) (points_alike x)

-- ---- normal forms

abbrev stable_of : List Local → ℕ → List FieldStep → Option StablePath
stable_of locals k fields =
    lookup (slice_get locals k) (λ (l : Local).
    if is_fixed l.kind then option_map (λ finals. record { root = k; finals = finals }) (all_final fields) else None)

stable_alike : (x : the_section.Section) (k : ℕ) (fields : List FieldStep) →
    stable x k fields ≡ stable_of (core_section x).locals k fields
stable_alike x k fields = sym (looked_at core_local x.locals.items k (λ (l : Local).
    if is_fixed l.kind then option_map (λ finals. record { root = k; finals = finals }) (all_final fields) else None))

abbrev value_of : List Local → Expr → Option StablePath
value_of locals (place p) = if p.in_parentheses then None else stable_of locals p.local p.fields
value_of locals (owned x k f start owner) = value_of locals x
value_of locals _ = None

value_alike : (x : the_section.Section) (v : e.Expr) → stable_value x v ≡ value_of (core_section x).locals (core_expr v)
value_alike x (Number n) = refl
value_alike x Null = refl
value_alike x (Place p) = ap (λ o. if p.in_parentheses then None else o) (stable_alike x p.local p.fields.items)
value_alike x (Global start cell) = refl
value_alike x (Element' start array _ index) = refl
value_alike x (Member' pool _ index) = refl
value_alike x (Negate' _ v) = refl
value_alike x (Owned' _ v k f start owner) = value_alike x v
value_alike x (Chain' _ first _ rest) = refl

abbrev named_owner : ℕ → StablePath → OwnerPath
named_owner f path = record { final = f; path = path }

abbrev owner_by : List Local → Expr → Option OwnerPath
owner_by locals (owned v k f start owner) = option_map (named_owner f) (stable_of locals owner [])
owner_by locals _ = None

owner_alike : (x : the_section.Section) (v : e.Expr) → owner_of x v ≡ owner_by (core_section x).locals (core_expr v)
owner_alike x (Number n) = refl
owner_alike x Null = refl
owner_alike x (Place p) = refl
owner_alike x (Global start cell) = refl
owner_alike x (Element' start array _ index) = refl
owner_alike x (Member' pool _ index) = refl
owner_alike x (Negate' _ v) = refl
owner_alike x (Owned' _ v k f start owner) = ap (option_map (named_owner f)) (stable_alike x owner [])
owner_alike x (Chain' _ first _ rest) = refl

-- a local that is bound, and what stands for its owner and for itself
record Standing : Type 0 where
  local : ℕ
  owner : Option OwnerPath
  value : Option StablePath

abbrev bound_to : the_section.Section → Binding → Standing
bound_to x b = record { local = b.local; owner = owner_of x b.value; value = stable_value x b.value }

abbrev bound_by : List Local → Spot → Option Standing
bound_by locals (at_statement start (bind local v)) = Some (record { local = local; owner = owner_by locals v; value = value_of locals v })
bound_by locals (at_statement start (call helper xs (Some local))) = Some (record { local = local; owner = None; value = None })
bound_by locals _ = None

bound_alike : (x : the_section.Section) (p : Point) →
    option_map (bound_to x) (binding_at p) ≡ bound_by (core_section x).locals (spot p)
bound_alike x (statement start (Bind local v)) = λ i. Some (record { local = local; owner = owner_alike x v i; value = value_alike x v i })
bound_alike x (statement start (SetLocal local v)) = refl
bound_alike x (statement start (SetGlobal cell v)) = refl
bound_alike x (statement start (SetElement array index v)) = refl
bound_alike x (statement start (SetField base structure field v)) = refl
bound_alike x (statement start (CallOf helper xs None)) = refl
bound_alike x (statement start (CallOf helper xs (Some local))) = refl
bound_alike x (statement start (Print v)) = refl
bound_alike x (statement start (If' v _ block)) = refl
bound_alike x (statement start (IfElse' v _ block _ otherwise)) = refl
bound_alike x (statement start (While' v _ body)) = refl
bound_alike x (result r) = refl

cons_mapped : {A B : Type 0} (f : A → B) (o : Option A) (xs : List A) →
    map f (cons_option o xs) ≡ cons_option (option_map f o) (map f xs)
cons_mapped f (Some x) xs = refl
cons_mapped f None xs = refl

each_bound_alike : (x : the_section.Section) (ps : List Point) →
    map (bound_to x) (filter_map binding_at ps) ≡ filter_map (bound_by (core_section x).locals) (map spot ps)
each_bound_alike x [] = refl
each_bound_alike x (p ∷ ps) =
    cons_mapped (bound_to x) (binding_at p) (filter_map binding_at ps)
    ∙ (λ i. cons_option (bound_alike x p i) (each_bound_alike x ps i))

abbrev all_bound : Section → List Standing
all_bound x = filter_map (bound_by x.locals) (spots x)

bindings_alike : (x : the_section.Section) → map (bound_to x) (bindings x) ≡ all_bound (core_section x)
bindings_alike x = each_bound_alike x (points x) ∙ ap (filter_map (bound_by (core_section x).locals)) (points_alike x)

abbrev replaced_by : List Standing → StablePath → StablePath
replaced_by [] path = path
replaced_by (b ∷ bs) path =
    let rest = replaced_by bs path in if b.local == rest.root then or_behind (owned_path b.owner rest) b.value rest else rest

replaced_alike : (x : the_section.Section) (bs : List Binding) (path : StablePath) →
    all_replaced x bs path ≡ replaced_by (map (bound_to x) bs) path
replaced_alike x [] path = refl
replaced_alike x (b ∷ bs) path = ap (replaced x b) (replaced_alike x bs path)

abbrev normal_form_of : Section → StablePath → StablePath
normal_form_of x path = replaced_by (all_bound x) path

normal_form_alike : (x : the_section.Section) (path : StablePath) →
    normal_form x path ≡ normal_form_of (core_section x) path
normal_form_alike x path = replaced_alike x (bindings x) path ∙ ap (λ bs. replaced_by bs path) (bindings_alike x)

-- ---- lock paths

abbrev protection_by : Program → ℕ → ℕ → Option Protection
protection_by program k f =
    lookup (slice_get program.structs k) (λ (x : Struct). lookup (slice_get x.fields f) (λ (y : Field). Some y.protection))

protection_alike : (program : Typed) (k f : ℕ) →
    option_map core_protection (protection_of program k f) ≡ protection_by (core_of program) k f
protection_alike program k f =
    viewed core_protection (slice_get program.structs.items k) _
    ∙ (λ i. lookup (slice_get program.structs.items k) (λ (x : the_struct.Struct). in_struct x i))
    ∙ sym (looked_at core_struct program.structs.items k (λ (x : Struct). lookup (slice_get x.fields f) (λ (y : Field). Some y.protection)))
  where
    in_struct : (x : the_struct.Struct) →
        option_map core_protection (lookup (slice_get x.fields.items f) (λ (y : the_field.Field). Some y.protection))
        ≡ lookup (slice_get (core_struct x).fields f) (λ (y : Field). Some y.protection)
    in_struct x =
        viewed core_protection (slice_get x.fields.items f) _
        ∙ sym (looked_at core_field x.fields.items f (λ (y : Field). Some y.protection))

abbrev under_class : List ℕ → LockClass → Protection → Option StablePath → Option LockPath
under_class listed (global_lock name) p base = Some (global_path p.class)
under_class listed (lock_field k l) p base =
    if list_any (λ number. number == p.class) listed then Some (whole_class p.class k)
    else option_map (λ (b : StablePath). record { root = root.Local b.root; finals = b.finals; class = p.class }) base

under_alike : (section : the_section.Section) (x : the_class.LockClass) (p : the_protection.Protection) (base : Option StablePath) →
    under section x p base ≡ under_class (core_section section).listed (core_class x) (core_protection p) base
under_alike section (class_case.Global name) p base = refl
under_alike section (class_case.Field k l) p base = refl

abbrev class_by : Program → CellOwner → Option ℕ
class_by program (owner.Global g) = lookup (slice_get program.globals g) (λ (x : GlobalVariable). Some x.class)
class_by program (owner.Element array index) = None
class_by program (owner.Field o f) = None

class_alike : (program : Typed) (o : CellOwner) → class_if_global program o ≡ class_by (core_of program) o
class_alike program (owner.Global g) = sym (looked_at core_global program.globals.items g (λ (x : GlobalVariable). Some x.class))
class_alike program (owner.Element array index) = refl
class_alike program (owner.Field o f) = refl

module _ (program : Program) (section : Section) where
  abbrev base_by : Protection → ℕ → List FieldStep → Option StablePath
  base_by p local base =
      option_map (λ (b : StablePath). normal_form_of section (record { root = b.root; finals = b.finals ++ p.through }))
      (stable_of section.locals local base)

  abbrev path_by : Target → Option LockPath
  path_by (at_global cell) = lookup (slice_get program.cells cell) (λ (x : Cell). option_map global_path (class_by program x.owner))
  path_by (at_element array) = lookup (slice_get program.arrays array) (λ (x : Array). Some (global_path x.class))
  path_by (at_field local base k f) =
      lookup (protection_by program k f) (λ (p : Protection). lookup (slice_get program.classes p.class) (λ (x : LockClass).
      under_class section.listed x p (base_by p local base)))

module _ (program : Typed) (section : the_section.Section) where
  base_alike : (p : the_protection.Protection) (local : ℕ) (base : List FieldStep) →
      option_map (normal_base section p) (stable section local base) ≡ base_by (core_of program) (core_section section) (core_protection p) local base
  base_alike p local base =
      (λ i. option_map (λ (path : StablePath). normal_form_alike section (extended path p) i) (stable_alike section local base i))

  path_alike : (t : Target) → target_path program section t ≡ path_by (core_of program) (core_section section) t
  path_alike (at_global cell) =
      λ i. lookup (slice_get program.cells.items cell) (λ (x : Cell). option_map global_path (class_alike program x.owner i))
  path_alike (at_element array) =
      sym (looked_at core_array program.shape.arrays.items array (λ (x : Array). Some (global_path x.class)))
  path_alike (at_field local base k f) =
      (λ i. lookup (protection_of program k f) (λ (p : the_protection.Protection). by_class p i))
      ∙ sym (looked core_protection (protection_of program k f) (λ (p : Protection). lookup (slice_get (core_of program).classes p.class) (λ (x : LockClass).
      under_class (core_section section).listed x p (base_by (core_of program) (core_section section) p local base))))
      ∙ ap (λ o. lookup o (λ (p : Protection). lookup (slice_get (core_of program).classes p.class) (λ (x : LockClass).
      under_class (core_section section).listed x p (base_by (core_of program) (core_section section) p local base)))) (protection_alike program k f)
    where
      by_class : (p : the_protection.Protection) →
          lookup (slice_get program.classes.items p.class) (λ (x : the_class.LockClass). under section x p (option_map (normal_base section p) (stable section local base)))
          ≡ lookup (slice_get (core_of program).classes p.class) (λ (x : LockClass). under_class (core_section section).listed x (core_protection p) (base_by (core_of program) (core_section section) (core_protection p) local base))
      by_class p =
          (λ i. lookup (slice_get program.classes.items p.class) (λ (x : the_class.LockClass). under section x p (base_alike p local base i)))
          ∙ (λ i. lookup (slice_get program.classes.items p.class) (λ (x : the_class.LockClass).
          under_alike section x p (base_by (core_of program) (core_section section) (core_protection p) local base) i))
          ∙ sym (looked_at core_class program.classes.items p.class (λ (x : LockClass).
          under_class (core_section section).listed x (core_protection p) (base_by (core_of program) (core_section section) (core_protection p) local base)))

-- ---- faults

-- the local that a `where` names
abbrev where_in : Expr → Option Named
where_in (owned v k f start owner) = Some (record { start = start; local = owner })
where_in _ = None

abbrev where_of : Spot → Option Named
where_of (at_statement start (bind local v)) = where_in v
where_of _ = None

value_where : (start local : ℕ) (v : e.Expr) → where_at (statement start (Bind local v)) ≡ where_in (core_expr v)
value_where start local (Number n) = refl
value_where start local Null = refl
value_where start local (Place p) = refl
value_where start local (Global at cell) = refl
value_where start local (Element' at array _ index) = refl
value_where start local (Member' pool _ index) = refl
value_where start local (Negate' _ v) = refl
value_where start local (Owned' _ v k f at owner) = refl
value_where start local (Chain' _ first _ rest) = refl

where_alike : (p : Point) → where_at p ≡ where_of (spot p)
where_alike (statement start (Bind local v)) = value_where start local v
where_alike (statement start (SetLocal local v)) = refl
where_alike (statement start (SetGlobal cell v)) = refl
where_alike (statement start (SetElement array index v)) = refl
where_alike (statement start (SetField base structure field v)) = refl
where_alike (statement start (CallOf helper xs r)) = refl
where_alike (statement start (Print v)) = refl
where_alike (statement start (If' v _ block)) = refl
where_alike (statement start (IfElse' v _ block _ otherwise)) = refl
where_alike (statement start (While' v _ body)) = refl
where_alike (result r) = refl

module _ (program other : Typed) (same : core_of program ≡ core_of other) where
  -- a section of the one is one of the other, wherever that lies
  pub section_at : (k : ℕ) (x : the_section.Section) → slice_get program.sections.items k ≡ Some x
      → (y : the_section.Section) × (slice_get other.sections.items k ≡ Some y) × (core_section x ≡ core_section y)
  section_at k x at =
      let seen : slice_get (map core_section other.sections.items) k ≡ Some (core_section x) =
      ap (λ (p : Program). slice_get p.sections k) (sym same) ∙ get_mapped core_section program.sections.items k ∙ ap (option_map core_section) at in
      let found = map_some core_section (slice_get other.sections.items k) (core_section x) (sym (get_mapped core_section other.sections.items k) ∙ seen) in
      (found.0, found.1, sym found.2)

  section_alike : (x : the_section.Section) → HasSection program x →
      (y : the_section.Section) × HasSection other y × (core_section x ≡ core_section y)
  section_alike x (k, at) =
      let found = section_at k x at in
      (found.0, (k, found.1), found.2)

  module _ (x y : the_section.Section) (one : core_section x ≡ core_section y) where
    accesses_same : accesses x ≡ accesses y
    accesses_same = accesses_alike x ∙ ap (λ z. flat_map accesses_of_spot (spots z)) one ∙ sym (accesses_alike y)

    path_same : (a : Access) → lock_path program x a ≡ lock_path other y a
    path_same a = path_alike program x a.target ∙ (λ i. path_by (same i) (one i) a.target) ∙ sym (path_alike other y a.target)

    pub paths_same : (list : List Access) → paths_of program x list ≡ paths_of other y list
    paths_same list = λ i. filter_map (λ (a : Access). path_same a i) list

  unstable_alike : (start : ℕ) → IsUnstable program start → IsUnstable other start
  unstable_alike start (unstable {section = x} {a = a} has among none) =
      let found = section_alike x has in
      unstable found.1 (subst (λ list. Contains list a) (accesses_same x found.0 found.2) among) (sym (path_same x found.0 found.2 a) ∙ none)

  over_limit_alike : (start : ℕ) → IsOverLimit program start → IsOverLimit other start
  over_limit_alike start (one_too_many {section = x} before after a {path = path} has parts full is new) =
      let found = section_alike x has in
      let paths = paths_same x found.0 found.2 before in
      one_too_many before after a found.1 (sym (accesses_same x found.0 found.2) ∙ parts)
      (ap (λ list. length (each_once list)) (sym paths) ∙ full) (sym (path_same x found.0 found.2 a) ∙ is)
      (λ among. new (subst (λ list. Contains list path) (sym paths) among))

  unstable_owner_alike : (start : ℕ) → IsUnstableOwner program start → IsUnstableOwner other start
  unstable_owner_alike start (unstable_owner {section = x} {point = point} {owner = named} has among at none) =
      let found = section_alike x has in
      let y = found.0 in
      let seen : Contains (map spot (points y)) (spot point) =
      subst (λ list. Contains list (spot point)) (points_alike x ∙ ap spots found.2 ∙ sym (points_alike y)) (in_map spot (points x) point among) in
      let there = from_map spot (points y) (spot point) seen in
      let stable_too : stable y named.local [] ≡ stable x named.local [] =
      stable_alike y named.local [] ∙ ap (λ (z : Section). stable_of z.locals named.local []) (sym found.2) ∙ sym (stable_alike x named.local []) in
      unstable_owner found.1 there.1 (where_alike there.0 ∙ ap where_of there.2 ∙ sym (where_alike point) ∙ at) (stable_too ∙ none)

  pub fault_alike : (code : Code) (start : ℕ) → IsFault program code start → IsFault other code start
  fault_alike code start (unstable_base h) = unstable_base (unstable_alike start h)
  fault_alike code start (unstable_owner_base h) = unstable_owner_base (unstable_owner_alike start h)
  fault_alike code start (over_limit h) = over_limit (over_limit_alike start h)
