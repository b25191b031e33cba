-- Trees without the positions of their parts, and the tree of a printed text.
use Rattle.std.specs.Prelude.{◌≡◌, ℕ, List, map}
use Rattle.source.specs.declared.span.Span.{Span}
use Rattle.source.specs.Tokens.{Tok}
use Rattle.source.specs.Texts.{HasTokens}
use Rattle.source.specs.declared.token.Number.{Number}
use Rattle.syntax.specs.Trees.{Ident, ValueType, int_type, ref_type, Const, int_const, negative, null_const}
use Rattle.syntax.specs.Trees.{member_const, Place, lone, element, path, Expr, int, null, place, paren, prefix, chain}
use Rattle.syntax.specs.Trees.{compare, Links, no_links, link, Local, Owner, HelperCall, CalledLocal, Stmt, let_local}
use Rattle.syntax.specs.Trees.{let_owned, let_call, var_local, assign, if_then, while, print, return_value, Stmts}
use Rattle.syntax.specs.Trees.{no_stmts, stmt, Otherwise, no_else, else_do, Block, Protection, Variable, Array, Final}
use Rattle.syntax.specs.Trees.{Field, Member, lock_member, final_member, field_member, Struct, Pool, Init, Param}
use Rattle.syntax.specs.Trees.{ClassName, Section, Call, Item, call, repeat, Items, no_items, item, Thread, Decl}
use Rattle.syntax.specs.Trees.{lock, struct, global, array, pool, init, atomic, helper, thread}
use Rattle.syntax.specs.Views.{option_of}
use Rattle.syntax.specs.Grammar.{HasTree}

-- the position of each part of a tree without positions
abbrev pub nowhere : Span
nowhere = record { start = 0; end = 0 }

abbrev pub bare_name : Ident → Ident
bare_name n = record { text = n.text; span = nowhere }

abbrev pub bare_number : Number → Number
bare_number n = record { value = n.value; span = nowhere }

abbrev pub bare_type : ValueType → ValueType
bare_type int_type = int_type
bare_type (ref_type target) = ref_type (bare_name target)

abbrev pub bare_const : Const → Const
bare_const (int_const n) = int_const (bare_number n)
bare_const (negative sign n) = negative nowhere (bare_number n)
bare_const (null_const at) = null_const nowhere
bare_const (member_const x n) = member_const (bare_name x) (bare_number n)

abbrev mutual
  pub bare_expr : Expr → Expr
  bare_expr (int n) = int (bare_number n)
  bare_expr (null at) = null nowhere
  bare_expr (place p) = place (bare_place p)
  bare_expr (paren at e) = paren nowhere (bare_expr e)
  bare_expr (prefix op at e) = prefix op nowhere (bare_expr e)
  bare_expr (chain k e links) = chain k (bare_expr e) (bare_links links)
  bare_expr (compare left c right) = compare (bare_expr left) c (bare_expr right)

  pub bare_place : Place → Place
  bare_place (lone x) = lone (bare_name x)
  bare_place (element x e) = element (bare_name x) (bare_expr e)
  bare_place (path x fields) = path (bare_name x) (map bare_name fields)

  pub bare_links : Links → Links
  bare_links no_links = no_links
  bare_links (link op e more) = link op (bare_expr e) (bare_links more)

abbrev pub bare_local : Local → Local
bare_local l = record { start = nowhere; name = bare_name l.name; value_type = bare_type l.value_type; value = bare_expr l.value }

abbrev pub bare_owner : Owner → Owner
bare_owner o = record { field = bare_name o.field; local = bare_name o.local }

abbrev pub bare_helper_call : HelperCall → HelperCall
bare_helper_call c = record { helper = bare_name c.helper; arguments = map bare_expr c.arguments }

abbrev pub bare_called_local : CalledLocal → CalledLocal
bare_called_local l = record { start = nowhere; name = bare_name l.name; value_type = bare_type l.value_type; call = bare_helper_call l.call }

abbrev mutual
  pub bare_stmt : Stmt → Stmt
  bare_stmt (let_local l) = let_local (bare_local l)
  bare_stmt (let_owned l o) = let_owned (bare_local l) (bare_owner o)
  bare_stmt (let_call l) = let_call (bare_called_local l)
  bare_stmt (var_local l) = var_local (bare_local l)
  bare_stmt (assign p e) = assign (bare_place p) (bare_expr e)
  bare_stmt (if_then at e body close other) = if_then nowhere (bare_expr e) (bare_stmts body) nowhere (bare_else other)
  bare_stmt (while at e body close) = while nowhere (bare_expr e) (bare_stmts body) nowhere
  bare_stmt (print at e) = print nowhere (bare_expr e)
  bare_stmt (return_value at e) = return_value nowhere (bare_expr e)
  bare_stmt (call at c) = call nowhere (bare_helper_call c)

  pub bare_stmts : Stmts → Stmts
  bare_stmts no_stmts = no_stmts
  bare_stmts (stmt s more) = stmt (bare_stmt s) (bare_stmts more)

  pub bare_else : Otherwise → Otherwise
  bare_else no_else = no_else
  bare_else (else_do body close) = else_do (bare_stmts body) nowhere

abbrev pub bare_block : Block → Block
bare_block b = record { stmts = bare_stmts b.stmts; close = nowhere }

abbrev pub bare_protection : Protection → Protection
bare_protection p = record { first = bare_name p.first; rest = map bare_name p.rest }

abbrev pub bare_variable : Variable → Variable
bare_variable v = record { name = bare_name v.name; value_type = bare_type v.value_type; protection = option_of bare_protection v.protection; value = option_of bare_const v.value }

abbrev pub bare_array : Array → Array
bare_array a = record { name = bare_name a.name; value_type = bare_type a.value_type; length = bare_number a.length; protection = option_of bare_protection a.protection }

abbrev pub bare_final : Final → Final
bare_final f = record { name = bare_name f.name; target = bare_name f.target }

abbrev pub bare_field : Field → Field
bare_field f = record { name = bare_name f.name; value_type = bare_type f.value_type; protection = option_of bare_protection f.protection }

abbrev pub bare_member : Member → Member
bare_member (lock_member x) = lock_member (bare_name x)
bare_member (final_member f) = final_member (bare_final f)
bare_member (field_member f) = field_member (bare_field f)

abbrev pub bare_struct : Struct → Struct
bare_struct s = record { name = bare_name s.name; members = map bare_member s.members }

abbrev pub bare_pool : Pool → Pool
bare_pool p = record { name = bare_name p.name; target = bare_name p.target; length = bare_number p.length }

abbrev pub bare_init : Init → Init
bare_init i = record { start = nowhere; pool = bare_name i.pool; index = bare_number i.index; field = bare_name i.field; value = bare_const i.value }

abbrev pub bare_param : Param → Param
bare_param p = record { name = bare_name p.name; value_type = bare_type p.value_type }

abbrev pub bare_class : ClassName → ClassName
bare_class c = record { structure = bare_name c.structure; lock = bare_name c.lock }

abbrev pub bare_section : Section → Section
bare_section s = record { name = bare_name s.name; params = map bare_param s.params; result = option_of bare_type s.result; listed = map bare_class s.listed; body = bare_block s.body }

abbrev pub bare_call : Call → Call
bare_call c = record { section = bare_name c.section; arguments = map bare_const c.arguments }

abbrev mutual
  pub bare_item : Item → Item
  bare_item (call c) = call (bare_call c)
  bare_item (repeat n is) = repeat (bare_number n) (bare_items is)

  pub bare_items : Items → Items
  bare_items no_items = no_items
  bare_items (item i more) = item (bare_item i) (bare_items more)

abbrev pub bare_thread : Thread → Thread
bare_thread t = record { name = bare_name t.name; items = bare_items t.items }

abbrev pub bare_decl : Decl → Decl
bare_decl (lock x) = lock (bare_name x)
bare_decl (struct s) = struct (bare_struct s)
bare_decl (global v) = global (bare_variable v)
bare_decl (array a) = array (bare_array a)
bare_decl (pool p) = pool (bare_pool p)
bare_decl (init i) = init (bare_init i)
bare_decl (atomic s) = atomic (bare_section s)
bare_decl (helper s) = helper (bare_section s)
bare_decl (thread t) = thread (bare_thread t)

-- a tree without the positions of its parts
abbrev pub bare : List Decl → List Decl
bare ds = map bare_decl ds

-- the text has the tree, except for positions
pub record HasTextOf (text : List ℕ) (ds : List Decl) : Type 0 where
  pub tokens : List Tok
  pub tree : List Decl
  pub has_tokens : HasTokens text tokens
  pub has_tree : HasTree tokens tree
  pub same : bare tree ≡ bare ds

-- if any text has the tree, this one has it, except for positions
abbrev pub HasTextIfAny : List ℕ → List Decl → Type 0
HasTextIfAny printed ds = (text : List ℕ) (tokens : List Tok) → HasTokens text tokens → HasTree tokens ds → HasTextOf printed ds
