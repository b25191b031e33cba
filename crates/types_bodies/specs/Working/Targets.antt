-- Statements and targets, as values of this crate stand for them.
use Rattle.std.specs.Prelude.{ℕ, List, [], ◌∷◌, ◌++◌, length, Option, Some, None, map, option_map}
use Rattle.std.proofs.Common.{Vec, Global}
use Rattle.resolution.specs.declared.finding.Finding.{Finding}
use Rattle.syntax.specs.Trees as trees
use Rattle.core_lang.specs.declared.value.ValueType.TheVariants.{Reference}
use Rattle.core_lang.specs.declared.tree.LocalKind.{LocalKind}
use Rattle.core_lang.specs.declared.tree.LocalKind.TheVariants.{Let}
use Rattle.core_lang.specs.declared.tree.Condition as the_condition
use Rattle.core_lang.specs.declared.tree.Stmt as the_stmt
use Rattle.resolution.specs.Core as core
use Rattle.resolution.specs.CoreViews.{core_expr, core_condition, core_path, core_stmt, core_stmts, core_return}
use Rattle.resolution.specs.Scopes.{Scope, Meaning, meaning, bound, left, type_of}
use Rattle.resolution.specs.Working.TypedStatements.{Target, to_local, to_global, to_element, to_field, Assignee, Part}
use Rattle.resolution.specs.Working.TypedStatements.{does}
use Rattle.resolution.specs.Working.TypedStatements.{gives, binds, Body, typed_if}
use Rattle.resolution.specs.Statements.{after_all}
use Rattle.resolution.specs.declared.owner_field.OwnerField.{OwnerField}
use Rattle.resolution.specs.Working.TypedOwners.{tested_by, owned_by}
use Rattle.resolution.specs.Working.FaultLists.{no_array, no_elements, no_owner, owner_field_faults, owner_faults}
use Rattle.resolution.specs.Working.FaultLists.{stmt_faults}
use Rattle.types_bodies.specs.declared.place.Indexed.{Indexed}
use Rattle.types_bodies.specs.declared.place.Indexed.TheVariants.{Array, Pool}
use Rattle.types_bodies.specs.declared.target.Target as t
use Rattle.types_bodies.specs.declared.target.Target.TheVariants as v
use Rattle.types_bodies.specs.declared.target.Assignee as the_assignee
use Rattle.types_bodies.specs.declared.owner.Opening as the_opening
use Rattle.types_bodies.specs.declared.stmt.Part as the_part
use Rattle.types_bodies.specs.declared.stmt.Part.TheVariants as part
use Rattle.types_bodies.specs.declared.stmt.BlockChecker as the_body
use Rattle.types_bodies.specs.declared.stmt.Choice as the_choice

abbrev pub target_seen : t.Target → Target
target_seen (v.Local i) = to_local i
target_seen (v.Global cell) = to_global cell
target_seen (v.Element number index) = to_element number (core_expr index)
target_seen (v.Field base structure field) = to_field (core_path base) structure field

abbrev pub assignee_of : the_assignee.Assignee → Assignee
assignee_of a = record { target = target_seen a.target; value_type = a.value_type }

-- the element at an index as a target
abbrev pub assigned_at : Option Indexed → Option core.Expr → Option Assignee
assigned_at (Some (Array n t)) (Some index) = Some (record { target = to_element n index; value_type = t })
assigned_at (Some (Pool n t)) (Some index) = None
assigned_at (Some x) None = None
assigned_at None index = None

-- the faults of a name with an index on the left
abbrev pub element_faults : List trees.Decl → ℕ → Meaning → List Finding
element_faults decls start m = no_elements decls start m ++ no_array decls start m

-- ---- the first value of a local

-- the statement that binds the next local to its first value
abbrev pub next_bound : Scope → trees.Local → the_opening.Opening → Option Part
next_bound sc l o = binds l.start.start (length sc.locals) o.value_type (option_map core_expr o.value)

-- the faults of a final reference's name, for a struct
abbrev pub final_faults_in : Scope → ℕ → trees.Ident → List Finding
final_faults_in sc structure f = owner_field_faults sc.decls (Some (Reference structure)) f

-- the faults of a name after `where` that has to be a local's
abbrev pub owner_name_faults : Scope → Option OwnerField → trees.Ident → List Finding
owner_name_faults sc field x = no_owner sc.decls x.span.start field (meaning sc x.text)

-- the first value of a local, tested by its `where`
abbrev pub owned_opening : Scope → the_opening.Opening → trees.Owner → Option core.Expr
owned_opening sc opening o = owned_by sc opening.value_type o (option_map core_expr opening.value)

abbrev pub opening_faults : Scope → the_opening.Opening → trees.Owner → List Finding
opening_faults sc opening o = owner_faults sc opening.value_type o

abbrev pub owned_faults : Scope → trees.Local → trees.Owner → List Finding
owned_faults sc l o = stmt_faults sc (trees.let_owned l o)

-- a value that is tested by a final reference and a local, if nothing is missing
abbrev pub tested_if : ℕ → Option core.Expr → Option (OwnerField × ℕ) → Option core.Expr
tested_if start (Some e) (Some t) = tested_by start e t.0 t.1
tested_if start (Some e) None = None
tested_if start None t = None

abbrev pub part_of : the_part.Part → Part
part_of (part.Does x) = does (core_stmt x)
part_of (part.Gives r) = gives (core_return r)

abbrev pub body_of : the_body.BlockChecker → Body
body_of b = record { stmts = core_stmts b.stmts.items; result = option_map core_return b.result }

-- the data of a condition, if there is one
abbrev pub test_seen : Option the_condition.Condition → Option core.Condition
test_seen c = option_map core_condition c

abbrev pub block_seen : Option (Vec the_stmt.Stmt Global) → Option core.Stmts
block_seen v = option_map (λ b. core_stmts b.items) v

-- an `if`, with what follows its `else`
abbrev pub choice_with : Scope → the_choice.Choice → trees.Otherwise → Option Part
choice_with sc c other = typed_if sc c.start (test_seen c.condition) (block_seen c.block) other

-- ---- scopes

-- the scope after a local
abbrev pub behind_local : Scope → LocalKind → trees.Local → Scope
behind_local sc kind l = bound sc kind l.name (type_of sc l.value_type)

-- the scope after a `let` of a call
abbrev pub behind_called : Scope → trees.CalledLocal → Scope
behind_called sc l = bound sc Let l.name (type_of sc l.value_type)

-- the scope after a block
abbrev pub behind_block : Scope → trees.Stmts → Scope
behind_block sc body = left sc (after_all sc body)

-- ---- a body in parts

-- the statements of a body as a list, and its `return`
pub record Row : Type 0 where
  pub stmts : List core.Stmt
  pub result : Option core.Return

abbrev pub row_of : the_body.BlockChecker → Row
row_of b = record { stmts = map core_stmt b.stmts.items; result = option_map core_return b.result }

abbrev pub pushed_to : List core.Stmt → Option core.Return → Part → Option Row
pushed_to xs None (does x) = Some (record { stmts = xs ++ x ∷ []; result = None })
pushed_to xs None (gives r) = Some (record { stmts = xs; result = Some r })
pushed_to xs (Some q) p = None

abbrev pub body_pushed : Option Row → Option Part → Option Row
body_pushed (Some b) (Some p) = pushed_to b.stmts b.result p
body_pushed (Some b) None = None
body_pushed None p = None
