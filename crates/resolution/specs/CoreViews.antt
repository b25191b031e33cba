-- The resolved program that a value stands for, part by part.
use Rattle.std.specs.Prelude.{List, [], ◌∷◌, map, option_map, string_bytes}
use Rattle.core_lang.specs.declared.tree.Path as the_path
use Rattle.core_lang.specs.declared.tree.Expr as e
use Rattle.core_lang.specs.declared.tree.Expr.{Number, Null, Place, Global, Element', Member', Negate', Owned'}
use Rattle.core_lang.specs.declared.tree.Expr.{Chain', Row_of-Operation, end_of-Operation, more_of-Operation}
use Rattle.core_lang.specs.declared.tree.Operation as the_operation
use Rattle.core_lang.specs.declared.tree.Condition as c
use Rattle.core_lang.specs.declared.tree.Condition.{Compare, Not', And', Or', Row_of-Condition, end_of-Condition}
use Rattle.core_lang.specs.declared.tree.Condition.{more_of-Condition}
use Rattle.core_lang.specs.declared.tree.Stmt as s
use Rattle.core_lang.specs.declared.tree.Action as a
use Rattle.core_lang.specs.declared.tree.Action.{Bind, SetLocal, SetGlobal, SetElement, SetField, Call as CallOf}
use Rattle.core_lang.specs.declared.tree.Action.{Print, If', IfElse', While', Row_of-Stmt, end_of-Stmt, more_of-Stmt}
use Rattle.core_lang.specs.declared.tree.Return as the_return
use Rattle.core_lang.specs.declared.tree.Local as the_local
use Rattle.core_lang.specs.declared.tree.Section as the_section
use Rattle.core_lang.specs.declared.shape.Array as the_array
use Rattle.core_lang.specs.declared.shape.Pool as the_pool
use Rattle.core_lang.specs.declared.typed.LockClass as the_class
use Rattle.core_lang.specs.declared.typed.LockClass.TheVariants as class_case
use Rattle.core_lang.specs.declared.typed.LockField as the_lock
use Rattle.core_lang.specs.declared.typed.FinalField as the_final
use Rattle.core_lang.specs.declared.typed.Protection as the_protection
use Rattle.core_lang.specs.declared.typed.Field as the_field
use Rattle.core_lang.specs.declared.typed.Struct as the_struct
use Rattle.core_lang.specs.declared.typed.GlobalVariable as the_global
use Rattle.core_lang.specs.declared.typed.Call as the_call
use Rattle.core_lang.specs.declared.typed.Thread as the_thread
use Rattle.core_lang.specs.declared.typed.Typed.{Typed}
use Rattle.resolution.specs.Core.{Path, Expr, number, null, place, global, element, member, negate, owned, chain}
use Rattle.resolution.specs.Core.{Operations, no_operations, operation, Condition, compare, negation, all_of, any_of}
use Rattle.resolution.specs.Core.{Conditions, no_conditions, condition, Action, bind, set_local, set_global}
use Rattle.resolution.specs.Core.{set_element, set_field, call, print, if_true, if_else, while_true, Stmts, no_stmts}
use Rattle.resolution.specs.Core.{stmt, Stmt, Return, Local, Section, LockClass, global_lock, lock_field, LockField}
use Rattle.resolution.specs.Core.{FinalField, Protection, Field, Struct, GlobalVariable, Array, Pool, Call, Thread}
use Rattle.resolution.specs.Core.{Program}

-- the data of a path
abbrev pub core_path : the_path.Path → Path
core_path p = record { start = p.start; local = p.local; fields = p.fields.items; in_parentheses = p.in_parentheses }

abbrev mutual
  -- the data of an expression
  pub core_expr : e.Expr → Expr
  core_expr (Number n) = number n
  core_expr Null = null
  core_expr (Place p) = place (core_path p)
  core_expr (Global start cell) = global start cell
  core_expr (Element' start array _ index) = element start array (core_expr index)
  core_expr (Member' pool _ index) = member pool (core_expr index)
  core_expr (Negate' _ e) = negate (core_expr e)
  core_expr (Owned' _ e structure final start owner) = owned (core_expr e) structure final start owner
  core_expr (Chain' _ first _ rest) = chain (core_expr first) (core_operations_row rest)

  -- the data of the operations of a chain
  pub core_operations_row : {m : _} → Row_of-Operation m → Operations
  core_operations_row end_of-Operation = no_operations
  core_operations_row (more_of-Operation operator operand rest) = operation operator (core_expr operand) (core_operations_row rest)

-- the data of a list of operations
abbrev pub core_operations : List the_operation.Operation → Operations
core_operations [] = no_operations
core_operations (o ∷ os) = operation o.operator (core_expr o.operand) (core_operations os)

abbrev mutual
  -- the data of a condition
  pub core_condition : c.Condition → Condition
  core_condition (Compare comparison a b) = compare comparison (core_expr a) (core_expr b)
  core_condition (Not' _ a) = negation (core_condition a)
  core_condition (And' _ before _ last) = all_of (core_conditions_row before) (core_condition last)
  core_condition (Or' _ before _ last) = any_of (core_conditions_row before) (core_condition last)

  -- the data of the conditions of a chain
  pub core_conditions_row : {m : _} → Row_of-Condition m → Conditions
  core_conditions_row end_of-Condition = no_conditions
  core_conditions_row (more_of-Condition first rest) = condition (core_condition first) (core_conditions_row rest)

abbrev mutual
  -- the data of an action
  pub core_action : a.Action → Action
  core_action (Bind local e) = bind local (core_expr e)
  core_action (SetLocal local e) = set_local local (core_expr e)
  core_action (SetGlobal cell e) = set_global cell (core_expr e)
  core_action (SetElement array index e) = set_element array (core_expr index) (core_expr e)
  core_action (SetField base structure field e) = set_field (core_path base) structure field (core_expr e)
  core_action (CallOf helper arguments result) = call helper (map core_expr arguments.items) result
  core_action (Print e) = print (core_expr e)
  core_action (If' c _ block) = if_true (core_condition c) (core_stmts_row block)
  core_action (IfElse' c _ block _ otherwise) = if_else (core_condition c) (core_stmts_row block) (core_stmts_row otherwise)
  core_action (While' c _ body) = while_true (core_condition c) (core_stmts_row body)

  -- the data of the statements of a block
  pub core_stmts_row : {m : _} → Row_of-Stmt m → Stmts
  core_stmts_row end_of-Stmt = no_stmts
  core_stmts_row (more_of-Stmt start action rest) = stmt start (core_action action) (core_stmts_row rest)

-- the data of a list of statements
abbrev pub core_stmts : List s.Stmt → Stmts
core_stmts [] = no_stmts
core_stmts (x ∷ xs) = stmt x.start (core_action x.action) (core_stmts xs)

-- the data of a list of conditions
abbrev pub core_conditions : List c.Condition → Conditions
core_conditions [] = no_conditions
core_conditions (x ∷ xs) = condition (core_condition x) (core_conditions xs)

abbrev pub core_stmt : s.Stmt → Stmt
core_stmt x = record { start = x.start; action = core_action x.action }

-- the data of a `return`
abbrev pub core_return : the_return.Return → Return
core_return r = record { start = r.start; value = core_expr r.value }

-- the data of a local
abbrev pub core_local : the_local.Local → Local
core_local l = record { name = string_bytes l.name; kind = l.kind; value_type = l.value_type }

-- the data of locals
abbrev pub core_locals : List the_local.Local → List Local
core_locals ls = map core_local ls

-- the data of a section
abbrev pub core_section : the_section.Section → Section
core_section x = record {
  name = string_bytes x.name;
  parameters = x.parameters;
  locals = core_locals x.locals.items;
  result_type = x.result_type;
  listed = x.listed.items;
  body = core_stmts x.body.items;
  result = option_map core_return x.result;
}

-- the data of a lock class
abbrev pub core_class : the_class.LockClass → LockClass
core_class (class_case.Global name) = global_lock (string_bytes name)
core_class (class_case.Field structure lock) = lock_field structure lock

-- the data of a lock field
abbrev pub core_lock : the_lock.LockField → LockField
core_lock l = record { name = string_bytes l.name; class = l.class }

-- the data of a final reference
abbrev pub core_final : the_final.FinalField → FinalField
core_final f = record { name = string_bytes f.name; target = f.target }

-- the data of a protection
abbrev pub core_protection : the_protection.Protection → Protection
core_protection p = record { through = p.through.items; class = p.class }

-- the data of a field
abbrev pub core_field : the_field.Field → Field
core_field f = record { name = string_bytes f.name; value_type = f.value_type; protection = core_protection f.protection }

-- the data of a struct
abbrev pub core_struct : the_struct.Struct → Struct
core_struct x = record { name = string_bytes x.name; locks = map core_lock x.locks.items; finals = map core_final x.finals.items; fields = map core_field x.fields.items }

-- the data of a global variable
abbrev pub core_global : the_global.GlobalVariable → GlobalVariable
core_global g = record { name = string_bytes g.name; cell = g.cell; class = g.class }

-- the data of an array
abbrev pub core_array : the_array.Array → Array
core_array a = record { name = string_bytes a.name; first = a.first; length = a.length; element_type = a.element; class = a.class }

-- the data of a pool
abbrev pub core_pool : the_pool.Pool → Pool
core_pool p = record { name = string_bytes p.name; first = p.first; length = p.length; structure = p.structure }

-- the data of a call
abbrev pub core_call : the_call.Call → Call
core_call c = record { section = c.section; arguments = c.arguments.items }

-- the data of a thread
abbrev pub core_thread : the_thread.Thread → Thread
core_thread t = record { name = string_bytes t.name; calls = map core_call t.calls.items }

-- the data of a program
abbrev pub core_of : Typed → Program
core_of t = record {
  classes = map core_class t.classes.items;
  structs = map core_struct t.structs.items;
  globals = map core_global t.globals.items;
  arrays = map core_array t.shape.arrays.items;
  pools = map core_pool t.shape.pools.items;
  objects = t.shape.objects.items;
  finals = t.shape.finals.items;
  cells = t.cells.items;
  helpers = map core_section t.shape.helpers.items;
  sections = map core_section t.sections.items;
  threads = map core_thread t.threads.items;
}
