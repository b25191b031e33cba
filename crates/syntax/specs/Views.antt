-- The trees that values of the program stand for.
use Rattle.std.specs.Prelude.{◌+◌, List, [], ◌∷◌, Option, Some, None, map, length}
use Rattle.std.specs.Rc.{rc_str_bytes}
use Rattle.syntax.specs.declared.tree.Name as the_name
use Rattle.syntax.specs.declared.tree.ValueType as the_type
use Rattle.syntax.specs.declared.tree.ValueType.TheVariants as type_case
use Rattle.syntax.specs.declared.tree.Const as the_const
use Rattle.syntax.specs.declared.tree.Const.TheVariants as const_case
use Rattle.syntax.specs.declared.tree.Path as the_path
use Rattle.syntax.specs.declared.tree.Place as the_place
use Rattle.syntax.specs.declared.tree.Place.TheVariants as place_case
use Rattle.syntax.specs.declared.tree.Expr as the_expr
use Rattle.syntax.specs.declared.tree.Joined as the_joined
use Rattle.syntax.specs.declared.tree.Element as the_element
use Rattle.syntax.specs.declared.tree.Joined.{Row_of-Link, end_of-Link, more_of-Link}
use Rattle.syntax.specs.declared.tree.Operator.{Operator}
use Rattle.syntax.specs.declared.tree.Link as the_link
use Rattle.syntax.specs.declared.tree.Local as the_local
use Rattle.syntax.specs.declared.tree.OwnerClause as the_owner
use Rattle.syntax.specs.declared.tree.OwnedLocal as the_owned_local
use Rattle.syntax.specs.declared.tree.HelperCall as the_helper_call
use Rattle.syntax.specs.declared.tree.CalledLocal as the_called_local
use Rattle.syntax.specs.declared.tree.Stmt as the_stmt
use Rattle.syntax.specs.declared.tree.Stmt.{Row_of-Stmt, end_of-Stmt, more_of-Stmt}
use Rattle.syntax.specs.declared.tree.If as the_if
use Rattle.syntax.specs.declared.tree.Block as the_block
use Rattle.syntax.specs.declared.tree.Protection as the_protection
use Rattle.syntax.specs.declared.tree.Variable as the_variable
use Rattle.syntax.specs.declared.tree.Array as the_array
use Rattle.syntax.specs.declared.tree.Final as the_final
use Rattle.syntax.specs.declared.tree.Field as the_field
use Rattle.syntax.specs.declared.tree.Member as the_member
use Rattle.syntax.specs.declared.tree.Member.TheVariants as member_case
use Rattle.syntax.specs.declared.tree.Struct as the_struct
use Rattle.syntax.specs.declared.tree.Pool as the_pool
use Rattle.syntax.specs.declared.tree.Init as the_init
use Rattle.syntax.specs.declared.tree.Param as the_param
use Rattle.syntax.specs.declared.tree.ClassName as the_class_name
use Rattle.syntax.specs.declared.tree.Section as the_section
use Rattle.syntax.specs.declared.tree.Call as the_call
use Rattle.syntax.specs.declared.tree.Item as the_item
use Rattle.syntax.specs.declared.tree.Item.{Row_of-Item, end_of-Item, more_of-Item}
use Rattle.syntax.specs.declared.tree.Thread as the_thread
use Rattle.syntax.specs.declared.tree.Decl as the_decl
use Rattle.syntax.specs.declared.tree.Decl.TheVariants as decl_case
use Rattle.syntax.specs.declared.tree.Tree.{Tree}
use Rattle.syntax.specs.Trees.{Ident, ValueType, int_type, ref_type, Const, int_const, negative, null_const}
use Rattle.syntax.specs.Trees.{member_const, Place, lone, element, path, Expr, int, null, place, paren, prefix, chain}
use Rattle.syntax.specs.Trees.{compare, Links, no_links, link, Local, Owner, HelperCall, CalledLocal, Stmt, let_local}
use Rattle.syntax.specs.Trees.{let_owned, let_call, var_local, assign, if_then, while, print, return_value, Stmts}
use Rattle.syntax.specs.Trees.{no_stmts, stmt, Otherwise, no_else, else_do, Block, Protection, Variable, Array, Final}
use Rattle.syntax.specs.Trees.{Field, Member, lock_member, final_member, field_member, Struct, Pool, Init, Param}
use Rattle.syntax.specs.Trees.{ClassName, Section, Call, Item, call, repeat, Items, no_items, item, Thread, Decl}
use Rattle.syntax.specs.Trees.{lock, struct, global, array, pool, init, atomic, helper, thread}
use Rattle.syntax.specs.Grammar.{level_of}

abbrev pub ident : the_name.Name → Ident
ident n = record { text = rc_str_bytes n.text; span = record { start = n.start; end = n.start + length (rc_str_bytes n.text) } }

abbrev pub type_of : the_type.ValueType → ValueType
type_of type_case.Int = int_type
type_of (type_case.Ref target) = ref_type (ident target)

abbrev pub const_of : the_const.Const → Const
const_of (const_case.Int n) = int_const n
const_of (const_case.Negative sign n) = negative sign n
const_of (const_case.Null at) = null_const at
const_of (const_case.Member name index) = member_const (ident name) index

abbrev pub path_of : the_path.Path → Place
path_of p = path (ident p.first) (map ident p.fields.items)

-- a chain of two operands
abbrev pub pair_of : Operator → Expr → Expr → Expr
pair_of op left right = chain (level_of op) left (link op right no_links)

abbrev mutual
  pub expr_of : the_expr.Expr → Expr
  expr_of (the_expr.Int n) = int n
  expr_of (the_expr.Null at) = null at
  expr_of (the_expr.Name n) = place (lone (ident n))
  expr_of (the_expr.Element' _ n e) = place (element (ident n) (expr_of e))
  expr_of (the_expr.Path p) = place (path_of p.value)
  expr_of (the_expr.Paren' at _ e) = paren at (expr_of e)
  expr_of (the_expr.Prefix' op at _ e) = prefix op at (expr_of e)
  expr_of (the_expr.Joined' _ j) = joined_of j

  pub joined_of : the_joined.Joined → Expr
  joined_of (the_joined.Pair op left right) = pair_of op (expr_of left) (expr_of right)
  joined_of (the_joined.Chain' level first _ links) = chain level (expr_of first) (links_of_row links)
  joined_of (the_joined.Compare c left right) = compare (expr_of left) c (expr_of right)

  pub links_of_row : {m : _} → Row_of-Link m → Links
  links_of_row end_of-Link = no_links
  links_of_row (more_of-Link op operand rest) = link op (expr_of operand) (links_of_row rest)

abbrev pub element_of : the_element.Element → Place
element_of e = element (ident e.name) (expr_of e.index)

abbrev pub place_of : the_place.Place → Place
place_of (place_case.Name n) = lone (ident n)
place_of (place_case.Element e) = element_of e.value
place_of (place_case.Path p) = path_of p.value

-- the tree of the rest of a chain
abbrev pub links_of : List the_link.Link → Links
links_of [] = no_links
links_of (l ∷ ls) = link l.op (expr_of l.operand) (links_of ls)

-- an operator and its operand
abbrev pub link_of : the_link.Link → Operator × Expr
link_of l = (l.op, expr_of l.operand)

abbrev pub local_of : the_local.Local → Local
local_of l = record { start = l.start; name = ident l.name; value_type = type_of l.value_type; value = expr_of l.value }

abbrev pub owner_of : the_owner.OwnerClause → Owner
owner_of o = record { field = ident o.field; local = ident o.local }

abbrev pub owned_local_of : the_owned_local.OwnedLocal → Stmt
owned_local_of l = let_owned (local_of l.local) (owner_of l.owner)

abbrev pub helper_call_of : the_helper_call.HelperCall → HelperCall
helper_call_of c = record { helper = ident c.helper; arguments = map expr_of c.arguments.items }

abbrev pub called_local_of : the_called_local.CalledLocal → CalledLocal
called_local_of l = record { start = l.start; name = ident l.name; value_type = type_of l.value_type; call = helper_call_of l.call }

abbrev mutual
  pub stmt_of : the_stmt.Stmt → Stmt
  stmt_of (the_stmt.Let l) = let_local (local_of l.value)
  stmt_of (the_stmt.LetOwned l) = owned_local_of l.value
  stmt_of (the_stmt.LetCall l) = let_call (called_local_of l.value)
  stmt_of (the_stmt.Var l) = var_local (local_of l.value)
  stmt_of (the_stmt.Assign p e) = assign (place_of p) (expr_of e)
  stmt_of (the_stmt.If' _ choice) = if_of choice
  stmt_of (the_stmt.While' _ start e _ body close) = while start (expr_of e) (stmts_of_row body) close
  stmt_of (the_stmt.Print start e) = print start (expr_of e)
  stmt_of (the_stmt.Return start e) = return_value start (expr_of e)
  stmt_of (the_stmt.Call start c) = call start (helper_call_of c.value)

  pub if_of : the_if.If → Stmt
  if_of (the_if.If' start e _ body close other) = if_then start (expr_of e) (stmts_of_row body) close (otherwise_of other)

  pub otherwise_of : the_if.Held-If-otherwise → Otherwise
  otherwise_of the_if.None' = no_else
  otherwise_of (the_if.Some' _ body close) = else_do (stmts_of_row body) close

  pub stmts_of_row : {m : _} → Row_of-Stmt m → Stmts
  stmts_of_row end_of-Stmt = no_stmts
  stmts_of_row (more_of-Stmt s rest) = stmt (stmt_of s) (stmts_of_row rest)

-- the tree of the statements of a block
abbrev pub stmts_of : List the_stmt.Stmt → Stmts
stmts_of [] = no_stmts
stmts_of (x ∷ ss) = stmt (stmt_of x) (stmts_of ss)

-- the otherwise part that an optional block stands for
abbrev pub else_of : Option the_block.Block → Otherwise
else_of None = no_else
else_of (Some b) = else_do (stmts_of b.stmts.items) b.close

abbrev pub block_of : the_block.Block → Block
block_of b = record { stmts = stmts_of b.stmts.items; close = b.close }

abbrev pub protection_of : the_protection.Protection → Protection
protection_of p = record { first = ident p.first; rest = map ident p.rest.items }

-- the view of what an option holds
abbrev pub option_of : {A B : Type 0} → (A → B) → Option A → Option B
option_of view None = None
option_of view (Some x) = Some (view x)

abbrev pub variable_of : the_variable.Variable → Variable
variable_of v = record { name = ident v.name; value_type = type_of v.value_type; protection = option_of protection_of v.protection; value = option_of const_of v.value }

abbrev pub array_of : the_array.Array → Array
array_of a = record { name = ident a.name; value_type = type_of a.value_type; length = a.length; protection = option_of protection_of a.protection }

abbrev pub final_of : the_final.Final → Final
final_of f = record { name = ident f.name; target = ident f.target }

abbrev pub field_of : the_field.Field → Field
field_of f = record { name = ident f.name; value_type = type_of f.value_type; protection = option_of protection_of f.protection }

abbrev pub member_of : the_member.Member → Member
member_of (member_case.Lock n) = lock_member (ident n)
member_of (member_case.Final f) = final_member (final_of f)
member_of (member_case.Field f) = field_member (field_of f)

abbrev pub struct_of : the_struct.Struct → Struct
struct_of s = record { name = ident s.name; members = map member_of s.members.items }

abbrev pub pool_of : the_pool.Pool → Pool
pool_of p = record { name = ident p.name; target = ident p.target; length = p.length }

abbrev pub init_of : the_init.Init → Init
init_of i = record { start = i.start; pool = ident i.pool; index = i.index; field = ident i.field; value = const_of i.value }

abbrev pub param_of : the_param.Param → Param
param_of p = record { name = ident p.name; value_type = type_of p.value_type }

abbrev pub class_name_of : the_class_name.ClassName → ClassName
class_name_of c = record { structure = ident c.structure; lock = ident c.lock }

abbrev pub section_of : the_section.Section → Section
section_of s = record { name = ident s.name; params = map param_of s.params.items; result = option_of type_of s.result; listed = map class_name_of s.listed.items; body = block_of s.body }

abbrev pub call_of : the_call.Call → Call
call_of c = record { section = ident c.section; arguments = map const_of c.arguments.items }

abbrev mutual
  pub item_of : the_item.Item → Item
  item_of (the_item.Call c) = call (call_of c)
  item_of (the_item.Repeat' n _ is) = repeat n (items_of_row is)

  pub items_of_row : {m : _} → Row_of-Item m → Items
  items_of_row end_of-Item = no_items
  items_of_row (more_of-Item i rest) = item (item_of i) (items_of_row rest)

-- the tree of a list of items
abbrev pub items_of : List the_item.Item → Items
items_of [] = no_items
items_of (i ∷ is) = item (item_of i) (items_of is)

abbrev pub thread_of : the_thread.Thread → Thread
thread_of t = record { name = ident t.name; items = items_of t.items.items }

abbrev pub decl_of : the_decl.Decl → Decl
decl_of (decl_case.Lock n) = lock (ident n)
decl_of (decl_case.Struct s) = struct (struct_of s)
decl_of (decl_case.Global v) = global (variable_of v)
decl_of (decl_case.Array a) = array (array_of a)
decl_of (decl_case.Pool p) = pool (pool_of p)
decl_of (decl_case.Init i) = init (init_of i)
decl_of (decl_case.Atomic s) = atomic (section_of s)
decl_of (decl_case.Helper s) = helper (section_of s)
decl_of (decl_case.Thread t) = thread (thread_of t)

abbrev pub tree_of : Tree → List Decl
tree_of t = map decl_of t.decls.items
