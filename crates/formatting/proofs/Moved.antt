-- Tokens at other positions spell the same tree, except for positions.
use Rattle.std.proofs.Common.{◌≡◌, ℕ, ◌+◌, ◌-◌, ◌<◌, ◌≤◌, true, false, length, length-append, arith, List, [], ◌∷◌, ◌++◌, map, Option, Some, None, refl, sym, ap, ◌∙◌, subst}
use Rattle.std.specs.Prelude.{◌==◌, if◌then◌else◌}
use Rattle.std.proofs.lemmas.Bool.Decides.{nat_tests}
use Rattle.source.specs.declared.span.Span.{Span}
use Rattle.source.specs.declared.token.Sign.{Sign}
use Rattle.source.specs.declared.token.Sign.TheVariants as sign
use Rattle.source.specs.declared.token.Number.{Number}
use Rattle.source.specs.Tokens.{Lexeme, Tok}
use Rattle.syntax.specs.Trees.{Ident, ValueType, int_type, ref_type, Const, int_const, negative, null_const}
use Rattle.syntax.specs.Trees.{member_const, Place, lone, element, path, Expr, int, null, place, paren, prefix, chain}
use Rattle.syntax.specs.Trees.{compare, Links, no_links, link, Local, Owner, HelperCall, CalledLocal, Stmt, let_local}
use Rattle.syntax.specs.Trees.{let_owned, let_call, var_local, assign, if_then, while, print, return_value, Stmts}
use Rattle.syntax.specs.Trees.{no_stmts, stmt, Otherwise, no_else, else_do, Block, Protection, Variable, Array, Final}
use Rattle.syntax.specs.Trees.{Field, Member, lock_member, final_member, field_member, Struct, Pool, Init, Param}
use Rattle.syntax.specs.Trees.{ClassName, Section, Call, Item, repeat, Items, no_items, item, Thread, Decl, lock}
use Rattle.syntax.specs.Trees.{struct, global, array, pool, init, atomic, helper, thread}
use Rattle.syntax.specs.Views.{option_of}
use Rattle.syntax.specs.Grammar.{IsOptional, left_out, given, AreMany, no_more, one_more, IsAfter, after, AreListed}
use Rattle.syntax.specs.Grammar.{none_listed, listed, IsName, is_name, IsType, is_int_type, is_ref_type, IsConst}
use Rattle.syntax.specs.Grammar.{is_int_const, is_negative, is_null_const, is_member_const, IsExpr, IsPlace, IsLinks, is_int}
use Rattle.syntax.specs.Grammar.{is_null, is_place, is_paren, is_prefix, is_chain, is_compare, is_lone, is_element, is_path}
use Rattle.syntax.specs.Grammar.{are_no_links, is_link, IsLocal, is_local, IsOwner, is_owner, IsHelperCall, is_helper_call}
use Rattle.syntax.specs.Grammar.{IsStmt, is_let, is_let_owned, is_let_call, is_var, is_assign, is_if, is_while, is_print}
use Rattle.syntax.specs.Grammar.{is_return, is_call_stmt, IsStmts, are_no_stmts, are_stmts, IsBraced, is_braced, IsElse}
use Rattle.syntax.specs.Grammar.{is_no_else, is_else, IsBlock, is_block, IsIndex, is_index, IsProtection, is_protection}
use Rattle.syntax.specs.Grammar.{IsVariable, is_variable, IsArray, is_array, IsFinal, is_final, IsField, is_field, IsMember}
use Rattle.syntax.specs.Grammar.{is_lock_member, is_final_member, is_field_member, IsStruct, is_struct, IsPool, is_pool}
use Rattle.syntax.specs.Grammar.{IsInit, is_init, IsParam, is_param, IsClassName, is_class_name, AreTakenWhole}
use Rattle.syntax.specs.Grammar.{none_taken, taken, IsSection, is_section, IsCall, is_call, IsItem}
use Rattle.syntax.specs.Grammar.{is_call_item, is_repeat, IsItems, are_no_items, are_items, IsThread, is_thread, IsDecl}
use Rattle.syntax.specs.Grammar.{is_lock, is_struct_decl, is_global, is_array_decl, is_pool_decl, is_init_decl, is_atomic}
use Rattle.syntax.specs.Grammar.{is_helper, is_thread_decl, Spells, spells, nesting, open_after, IsShallow, HasTree}
use Rattle.syntax.specs.Grammar.{ANY, NESTING_LIMIT, IsOpening}
use Rattle.syntax.specs.Returns as returns
use Rattle.syntax.specs.Returns.{IsReturn, HasReturn, HasReturnInside, this_returns, returns_inside, later_returns, in_then}
use Rattle.syntax.specs.Returns.{in_else, in_while, HasStrayReturn, this_early, stray_inside, later_stray, EndsInReturn}
use Rattle.syntax.specs.Returns.{last_returns, ends_later, IsSectionFault, no_result, stray, missing, IsReturnFault}
use Rattle.syntax.specs.Returns.{this_section, this_helper, later_section}
use Rattle.syntax.specs.Faults.{HasRightTree}
use Rattle.syntax.specs.declared.tree.Level.{Level}
use Rattle.formatting.specs.Formatted.{kind}
use Rattle.formatting.specs.Pieces.{Piece, ArePieces}
use Rattle.formatting.specs.Pieces as cut
use Rattle.formatting.proofs.Units.{unit_begins}

module _ (f : Span → Span) where
  abbrev pub moved_tok : Tok → Tok
  moved_tok t = record { kind = t.kind; span = f t.span }

  abbrev pub moved : List Tok → List Tok
  moved ts = map moved_tok ts

  abbrev m_name : Ident → Ident
  m_name n = record { text = n.text; span = f n.span }

  abbrev m_number : Number → Number
  m_number n = record { value = n.value; span = f n.span }

  abbrev m_type : ValueType → ValueType
  m_type int_type = int_type
  m_type (ref_type target) = ref_type (m_name target)

  abbrev m_const : Const → Const
  m_const (int_const n) = int_const (m_number n)
  m_const (negative sign n) = negative (f sign) (m_number n)
  m_const (null_const at) = null_const (f at)
  m_const (member_const x n) = member_const (m_name x) (m_number n)

  abbrev mutual
    m_expr : Expr → Expr
    m_expr (int n) = int (m_number n)
    m_expr (null at) = null (f at)
    m_expr (place p) = place (m_place p)
    m_expr (paren at e) = paren (f at) (m_expr e)
    m_expr (prefix op at e) = prefix op (f at) (m_expr e)
    m_expr (chain k e links) = chain k (m_expr e) (m_links links)
    m_expr (compare left c right) = compare (m_expr left) c (m_expr right)

    m_place : Place → Place
    m_place (lone x) = lone (m_name x)
    m_place (element x e) = element (m_name x) (m_expr e)
    m_place (path x fields) = path (m_name x) (map m_name fields)

    m_links : Links → Links
    m_links no_links = no_links
    m_links (link op e more) = link op (m_expr e) (m_links more)

  abbrev m_local : Local → Local
  m_local l = record { start = f l.start; name = m_name l.name; value_type = m_type l.value_type; value = m_expr l.value }

  abbrev m_owner : Owner → Owner
  m_owner o = record { field = m_name o.field; local = m_name o.local }

  abbrev m_helper_call : HelperCall → HelperCall
  m_helper_call c = record { helper = m_name c.helper; arguments = map m_expr c.arguments }

  abbrev m_called_local : CalledLocal → CalledLocal
  m_called_local l = record { start = f l.start; name = m_name l.name; value_type = m_type l.value_type; call = m_helper_call l.call }

  abbrev mutual
    m_stmt : Stmt → Stmt
    m_stmt (let_local l) = let_local (m_local l)
    m_stmt (let_owned l o) = let_owned (m_local l) (m_owner o)
    m_stmt (let_call l) = let_call (m_called_local l)
    m_stmt (var_local l) = var_local (m_local l)
    m_stmt (assign p e) = assign (m_place p) (m_expr e)
    m_stmt (if_then at e body close other) = if_then (f at) (m_expr e) (m_stmts body) (f close) (m_else other)
    m_stmt (while at e body close) = while (f at) (m_expr e) (m_stmts body) (f close)
    m_stmt (print at e) = print (f at) (m_expr e)
    m_stmt (return_value at e) = return_value (f at) (m_expr e)
    m_stmt (Stmt.call at c) = Stmt.call (f at) (m_helper_call c)

    m_stmts : Stmts → Stmts
    m_stmts no_stmts = no_stmts
    m_stmts (stmt s more) = stmt (m_stmt s) (m_stmts more)

    m_else : Otherwise → Otherwise
    m_else no_else = no_else
    m_else (else_do body close) = else_do (m_stmts body) (f close)

  abbrev m_block : Block → Block
  m_block b = record { stmts = m_stmts b.stmts; close = f b.close }

  abbrev m_protection : Protection → Protection
  m_protection p = record { first = m_name p.first; rest = map m_name p.rest }

  abbrev m_variable : Variable → Variable
  m_variable v = record { name = m_name v.name; value_type = m_type v.value_type; protection = option_of m_protection v.protection; value = option_of m_const v.value }

  abbrev m_array : Array → Array
  m_array a = record { name = m_name a.name; value_type = m_type a.value_type; length = m_number a.length; protection = option_of m_protection a.protection }

  abbrev m_final : Final → Final
  m_final x = record { name = m_name x.name; target = m_name x.target }

  abbrev m_field : Field → Field
  m_field x = record { name = m_name x.name; value_type = m_type x.value_type; protection = option_of m_protection x.protection }

  abbrev m_member : Member → Member
  m_member (lock_member x) = lock_member (m_name x)
  m_member (final_member x) = final_member (m_final x)
  m_member (field_member x) = field_member (m_field x)

  abbrev m_struct : Struct → Struct
  m_struct s = record { name = m_name s.name; members = map m_member s.members }

  abbrev m_pool : Pool → Pool
  m_pool p = record { name = m_name p.name; target = m_name p.target; length = m_number p.length }

  abbrev m_init : Init → Init
  m_init i = record { start = f i.start; pool = m_name i.pool; index = m_number i.index; field = m_name i.field; value = m_const i.value }

  abbrev m_param : Param → Param
  m_param p = record { name = m_name p.name; value_type = m_type p.value_type }

  abbrev m_class : ClassName → ClassName
  m_class c = record { structure = m_name c.structure; lock = m_name c.lock }

  abbrev m_section : Section → Section
  m_section s = record { name = m_name s.name; params = map m_param s.params; result = option_of m_type s.result; listed = map m_class s.listed; body = m_block s.body }

  abbrev m_call : Call → Call
  m_call c = record { section = m_name c.section; arguments = map m_const c.arguments }

  abbrev mutual
    m_item : Item → Item
    m_item (Item.call c) = Item.call (m_call c)
    m_item (repeat n is) = repeat (m_number n) (m_items is)

    m_items : Items → Items
    m_items no_items = no_items
    m_items (item i more) = item (m_item i) (m_items more)

  abbrev m_thread : Thread → Thread
  m_thread t = record { name = m_name t.name; items = m_items t.items }

  abbrev pub m_decl : Decl → Decl
  m_decl (lock x) = lock (m_name x)
  m_decl (struct s) = struct (m_struct s)
  m_decl (global v) = global (m_variable v)
  m_decl (array a) = array (m_array a)
  m_decl (pool p) = pool (m_pool p)
  m_decl (init i) = init (m_init i)
  m_decl (atomic s) = atomic (m_section s)
  m_decl (helper s) = helper (m_section s)
  m_decl (thread t) = thread (m_thread t)

  -- ---- parts that may be left out, and lists

  abbrev Moves : {A : Type 0} → (A → List Tok → List Tok → Type 0) → (A → A) → Type 0
  Moves {A} R g = (x : A) (ts rest : List Tok) → R x ts rest → R (g x) (moved ts) (moved rest)

  optional_moved : {A : Type 0} (R : A → List Tok → List Tok → Type 0) (g : A → A) → Moves R g →
      Moves (IsOptional R) (option_of g)
  optional_moved R g h None ts rest left_out = left_out
  optional_moved R g h (Some x) ts rest (given p) = given (h x ts rest p)

  many_moved : {A : Type 0} (R : A → List Tok → List Tok → Type 0) (g : A → A) → Moves R g → Moves (AreMany R) (map g)
  many_moved R g h [] ts rest no_more = no_more
  many_moved R g h (x ∷ xs) ts rest (one_more {mid = mid} p more) = one_more (h x ts mid p) (many_moved R g h xs mid rest more)

  after_moved : {A : Type 0} (s : Sign) (R : A → List Tok → List Tok → Type 0) (g : A → A) → Moves R g →
      Moves (IsAfter s R) g
  after_moved s R g h x ts rest (after {ts = us} p) = after (h x us rest p)

  listed_moved : {A : Type 0} (R : A → List Tok → List Tok → Type 0) (g : A → A) → Moves R g → Moves (AreListed R) (map g)
  listed_moved R g h [] ts rest none_listed = none_listed
  listed_moved R g h (x ∷ xs) ts rest (listed {mid = mid} p more) = listed (h x ts mid p) (many_moved (IsAfter sign.Comma R) g (after_moved sign.Comma R g h) xs mid rest more)

  -- ---- names, types, constants

  name_moved : Moves IsName m_name
  name_moved x ts rest is_name = is_name

  type_moved : Moves IsType m_type
  type_moved x ts rest is_int_type = is_int_type
  type_moved x ts rest is_ref_type = is_ref_type

  const_moved : Moves IsConst m_const
  const_moved x ts rest is_int_const = is_int_const
  const_moved x ts rest is_negative = is_negative
  const_moved x ts rest is_null_const = is_null_const
  const_moved x ts rest is_member_const = is_member_const

  dotted_moved : Moves (AreMany (IsAfter sign.Dot IsName)) (map m_name)
  dotted_moved = many_moved (IsAfter sign.Dot IsName) m_name (after_moved sign.Dot IsName m_name name_moved)

  -- ---- expressions

  mutual
    expr_moved : {n : ℕ} {e : Expr} {ts rest : List Tok} → IsExpr n e ts rest → IsExpr n (m_expr e) (moved ts) (moved rest)
    expr_moved is_int = is_int
    expr_moved is_null = is_null
    expr_moved (is_place p) = is_place (place_moved p)
    expr_moved (is_paren h) = is_paren (expr_moved h)
    expr_moved (is_prefix le h) = is_prefix le (expr_moved h)
    expr_moved (is_chain le h more) = is_chain le (expr_moved h) (links_moved more)
    expr_moved (is_compare le h g) = is_compare le (expr_moved h) (expr_moved g)

    place_moved : {p : Place} {ts rest : List Tok} → IsPlace p ts rest → IsPlace (m_place p) (moved ts) (moved rest)
    place_moved is_lone = is_lone
    place_moved (is_element h) = is_element (expr_moved h)
    place_moved (is_path {fields = fields} {ts = ts} {rest = rest} h) = is_path (dotted_moved fields ts rest h)

    links_moved : {k : Level} {l : Links} {ts rest : List Tok} → IsLinks k l ts rest → IsLinks k (m_links l) (moved ts) (moved rest)
    links_moved are_no_links = are_no_links
    links_moved (is_link h more) = is_link (expr_moved h) (links_moved more)

  any_moved : {n : ℕ} → Moves (IsExpr n) m_expr
  any_moved x ts rest h = expr_moved h

  -- ---- statements

  local_moved : {l : Local} {ts rest : List Tok} → IsLocal l ts rest → IsLocal (m_local l) (moved ts) (moved rest)
  local_moved (is_local {l} {ts = ts} h g) = is_local (type_moved l.value_type ts _ h) (expr_moved g)

  owner_moved : {o : Owner} {ts rest : List Tok} → IsOwner o ts rest → IsOwner (m_owner o) (moved ts) (moved rest)
  owner_moved is_owner = is_owner

  helper_call_moved : {c : HelperCall} {ts rest : List Tok} → IsHelperCall c ts rest →
      IsHelperCall (m_helper_call c) (moved ts) (moved rest)
  helper_call_moved (is_helper_call {c} {ts = ts} h) = is_helper_call (listed_moved (IsExpr ANY) m_expr any_moved c.arguments ts _ h)

  mutual
    stmt_moved : {s : Stmt} {ts rest : List Tok} → IsStmt s ts rest → IsStmt (m_stmt s) (moved ts) (moved rest)
    stmt_moved (is_let h) = is_let (local_moved h)
    stmt_moved (is_let_owned h g) = is_let_owned (local_moved h) (owner_moved g)
    stmt_moved (is_let_call {l} {ts = ts} h g) = is_let_call (type_moved l.value_type ts _ h) (helper_call_moved g)
    stmt_moved (is_var h) = is_var (local_moved h)
    stmt_moved (is_assign h g) = is_assign (place_moved h) (expr_moved g)
    stmt_moved (is_if h body other) = is_if (expr_moved h) (braced_moved body) (else_moved other)
    stmt_moved (is_while h body) = is_while (expr_moved h) (braced_moved body)
    stmt_moved (is_print h) = is_print (expr_moved h)
    stmt_moved (is_return h) = is_return (expr_moved h)
    stmt_moved (is_call_stmt h) = is_call_stmt (helper_call_moved h)

    stmts_moved : {s : Stmts} {ts rest : List Tok} → IsStmts s ts rest → IsStmts (m_stmts s) (moved ts) (moved rest)
    stmts_moved are_no_stmts = are_no_stmts
    stmts_moved (are_stmts h more) = are_stmts (stmt_moved h) (stmts_moved more)

    braced_moved : {s : Stmts} {close : Span} {ts rest : List Tok} → IsBraced s close ts rest →
        IsBraced (m_stmts s) (f close) (moved ts) (moved rest)
    braced_moved (is_braced h) = is_braced (stmts_moved h)

    else_moved : {o : Otherwise} {ts rest : List Tok} → IsElse o ts rest → IsElse (m_else o) (moved ts) (moved rest)
    else_moved is_no_else = is_no_else
    else_moved (is_else h) = is_else (braced_moved h)

  block_moved : {b : Block} {ts rest : List Tok} → IsBlock b ts rest → IsBlock (m_block b) (moved ts) (moved rest)
  block_moved (is_block h) = is_block (braced_moved h)

  -- ---- declarations

  index_moved : Moves IsIndex m_number
  index_moved x ts rest is_index = is_index

  protection_moved : Moves IsProtection m_protection
  protection_moved x ts rest (is_protection {ts = us} h) = is_protection (dotted_moved x.rest us _ h)

  value_moved : Moves (IsOptional (IsAfter sign.Equals IsConst)) (option_of m_const)
  value_moved = optional_moved (IsAfter sign.Equals IsConst) m_const (after_moved sign.Equals IsConst m_const const_moved)

  protected_moved : Moves (IsOptional IsProtection) (option_of m_protection)
  protected_moved = optional_moved IsProtection m_protection protection_moved

  variable_moved : {v : Variable} {ts rest : List Tok} → IsVariable v ts rest → IsVariable (m_variable v) (moved ts) (moved rest)
  variable_moved (is_variable {v} {ts1 = ts1} {ts2 = ts2} {ts3 = ts3} h p g) = is_variable (type_moved v.value_type ts1 _ h) (protected_moved v.protection ts2 ts3 p) (value_moved v.value ts3 _ g)

  array_moved : {a : Array} {ts rest : List Tok} → IsArray a ts rest → IsArray (m_array a) (moved ts) (moved rest)
  array_moved (is_array {a} {ts1 = ts1} {ts2 = ts2} {ts3 = ts3} h i p) = is_array (type_moved a.value_type ts1 _ h) (index_moved a.length ts2 ts3 i) (protected_moved a.protection ts3 _ p)

  final_moved : {x : Final} {ts rest : List Tok} → IsFinal x ts rest → IsFinal (m_final x) (moved ts) (moved rest)
  final_moved is_final = is_final

  field_moved : {x : Field} {ts rest : List Tok} → IsField x ts rest → IsField (m_field x) (moved ts) (moved rest)
  field_moved (is_field {f = x} {ts1 = ts1} {ts2 = ts2} h p) = is_field (type_moved x.value_type ts1 _ h) (protected_moved x.protection ts2 _ p)

  member_moved : Moves IsMember m_member
  member_moved x ts rest is_lock_member = is_lock_member
  member_moved x ts rest (is_final_member h) = is_final_member (final_moved h)
  member_moved x ts rest (is_field_member h) = is_field_member (field_moved h)

  struct_moved : {s : Struct} {ts rest : List Tok} → IsStruct s ts rest → IsStruct (m_struct s) (moved ts) (moved rest)
  struct_moved (is_struct {s} {ts = ts} h) = is_struct (many_moved IsMember m_member member_moved s.members ts _ h)

  pool_moved : {p : Pool} {ts rest : List Tok} → IsPool p ts rest → IsPool (m_pool p) (moved ts) (moved rest)
  pool_moved (is_pool {p} {ts = ts} h) = is_pool (index_moved p.length ts _ h)

  init_moved : {i : Init} {ts rest : List Tok} → IsInit i ts rest → IsInit (m_init i) (moved ts) (moved rest)
  init_moved (is_init {i} {ts1 = ts1} {ts2 = ts2} h g) = is_init (index_moved i.index ts1 _ h) (const_moved i.value ts2 _ g)

  param_moved : Moves IsParam m_param
  param_moved x ts rest (is_param h) = is_param (type_moved x.value_type ts _ h)

  result_moved : Moves (IsOptional (IsAfter sign.Colon IsType)) (option_of m_type)
  result_moved = optional_moved (IsAfter sign.Colon IsType) m_type (after_moved sign.Colon IsType m_type type_moved)

  class_moved : Moves IsClassName m_class
  class_moved x ts rest is_class_name = is_class_name

  whole_moved : Moves AreTakenWhole (map m_class)
  whole_moved [] ts rest none_taken = none_taken
  whole_moved (c ∷ cs) ts rest (taken {ts = us} {mid = mid} n more) = taken (class_moved c us mid n) (many_moved (IsAfter sign.Comma IsClassName) m_class (after_moved sign.Comma IsClassName m_class class_moved) cs mid _ more)

  section_moved : {s : Section} {ts rest : List Tok} → IsSection s ts rest → IsSection (m_section s) (moved ts) (moved rest)
  section_moved (is_section {s} {ts1 = ts1} {ts2 = ts2} {ts3 = ts3} {ts4 = ts4} h r cs b) = is_section (listed_moved IsParam m_param param_moved s.params ts1 _ h) (result_moved s.result ts2 ts3 r) (whole_moved s.listed ts3 ts4 cs) (block_moved b)

  call_moved : {c : Call} {ts rest : List Tok} → IsCall c ts rest → IsCall (m_call c) (moved ts) (moved rest)
  call_moved (is_call {c} {ts = ts} h) = is_call (listed_moved IsConst m_const const_moved c.arguments ts _ h)

  mutual
    item_moved : {i : Item} {ts rest : List Tok} → IsItem i ts rest → IsItem (m_item i) (moved ts) (moved rest)
    item_moved (is_call_item h) = is_call_item (call_moved h)
    item_moved (is_repeat h) = is_repeat (items_moved h)

    items_moved : {i : Items} {ts rest : List Tok} → IsItems i ts rest → IsItems (m_items i) (moved ts) (moved rest)
    items_moved are_no_items = are_no_items
    items_moved (are_items h more) = are_items (item_moved h) (items_moved more)

  thread_moved : {t : Thread} {ts rest : List Tok} → IsThread t ts rest → IsThread (m_thread t) (moved ts) (moved rest)
  thread_moved (is_thread h) = is_thread (items_moved h)

  decl_moved : Moves IsDecl m_decl
  decl_moved x ts rest is_lock = is_lock
  decl_moved x ts rest (is_struct_decl h) = is_struct_decl (struct_moved h)
  decl_moved x ts rest (is_global h) = is_global (variable_moved h)
  decl_moved x ts rest (is_array_decl h) = is_array_decl (array_moved h)
  decl_moved x ts rest (is_pool_decl h) = is_pool_decl (pool_moved h)
  decl_moved x ts rest (is_init_decl h) = is_init_decl (init_moved h)
  decl_moved x ts rest (is_atomic h) = is_atomic (section_moved h)
  decl_moved x ts rest (is_helper none h) = is_helper (ap (map m_class) none) (section_moved h)
  decl_moved x ts rest (is_thread_decl h) = is_thread_decl (thread_moved h)

  spells_moved : (ds : List Decl) (ts : List Tok) → Spells ds ts → Spells (map m_decl ds) (moved ts)
  spells_moved ds ts (spells h) = spells (many_moved IsDecl m_decl decl_moved ds ts _ h)

  -- ---- nesting

  nesting_moved : (n : ℕ) (ts : List Tok) → nesting n (moved ts) ≡ nesting n ts
  nesting_moved n [] = refl
  nesting_moved n (t ∷ ts) = nesting_moved (open_after n t.kind) ts

  -- where a moved token comes from
  record Parts (ts before : List Tok) (t : Tok) : Type 0 where
    pub front : List Tok
    pub token : Tok
    pub back : List Tok
    pub parts : ts ≡ front ++ token ∷ back
    pub fronts : moved front ≡ before
    pub same : moved_tok token ≡ t

  later_parts : {ts before : List Tok} {t : Tok} (u b : Tok) → moved_tok u ≡ b → Parts ts before t →
      Parts (u ∷ ts) (b ∷ before) t
  later_parts {before = before} u b same p = record {
    front = u ∷ p.front;
    token = p.token;
    back = p.back;
    parts = ap (λ (l : List Tok). u ∷ l) p.parts;
    fronts = ap (λ (l : List Tok). moved_tok u ∷ l) p.fronts ∙ ap (λ (b : Tok). b ∷ before) same;
    same = p.same;
  }

  parts_of : (ts before : List Tok) (t : Tok) (rest : List Tok) → moved ts ≡ before ++ t ∷ rest → Parts ts before t
  parts_of [] [] t rest e = absurd cc
  parts_of [] (b ∷ before) t rest e = absurd cc
  parts_of (u ∷ ts) [] t rest e = record { front = []; token = u; back = ts; parts = refl; fronts = refl; same = cc }
  parts_of (u ∷ ts) (b ∷ before) t rest e =
      let same : moved_tok u ≡ b = cc in
      let more : moved ts ≡ before ++ t ∷ rest = cc in
      later_parts u b same (parts_of ts before t rest more)

  shallow_moved : (ts : List Tok) → IsShallow ts → IsShallow (moved ts)
  shallow_moved ts h before rest t e opens =
      let p = parts_of ts before t rest e in
      let deep = h p.front p.back p.token p.parts (subst IsOpening (sym (ap (λ (t : Tok). t.kind) p.same)) opens) in
      subst (λ (n : ℕ). n < NESTING_LIMIT) (sym (nesting_moved 0 p.front) ∙ ap (nesting 0) p.fronts) deep

  pub tree_moved : (ds : List Decl) (ts : List Tok) → HasTree ts ds → HasTree (moved ts) (map m_decl ds)
  tree_moved ds ts h = (spells_moved ds ts h.0, shallow_moved ts h.1)

  -- ---- returns

  return_back : {s : Stmt} {at : ℕ} → IsReturn s at → (t : Stmt) → s ≡ m_stmt t → (b : ℕ) × IsReturn t b
  return_back returns.is_return (return_value at e) g = (at.start, returns.is_return)
  return_back returns.is_return t g = absurd cc

  mutual
    has_back : {ss : Stmts} {at : ℕ} → HasReturn ss at → (us : Stmts) → ss ≡ m_stmts us → (b : ℕ) × HasReturn us b
    has_back (this_returns {s} h) no_stmts g = absurd cc
    has_back (this_returns {s} h) (stmt t us) g = let e : s ≡ m_stmt t = cc in let r = return_back h t e in (r.0, this_returns {at = r.0} r.1)
    has_back (returns_inside {s} h) no_stmts g = absurd cc
    has_back (returns_inside {s} h) (stmt t us) g = let e : s ≡ m_stmt t = cc in let r = inside_back h t e in (r.0, returns_inside {at = r.0} r.1)
    has_back (later_returns {more = more} h) no_stmts g = absurd cc
    has_back (later_returns {more = more} h) (stmt t us) g = let e : more ≡ m_stmts us = cc in let r = has_back h us e in (r.0, later_returns {at = r.0} r.1)

    inside_back : {s : Stmt} {at : ℕ} → HasReturnInside s at → (t : Stmt) → s ≡ m_stmt t → (b : ℕ) × HasReturnInside t b
    inside_back (in_then {body = body} h) (if_then start x us close other) g = let e : body ≡ m_stmts us = cc in let r = has_back h us e in (r.0, in_then {at = r.0} r.1)
    inside_back (in_then h) t g = absurd cc
    inside_back (in_else {other = other} h) (if_then start x us close (else_do vs last)) g = let e : other ≡ m_stmts vs = cc in let r = has_back h vs e in (r.0, in_else {at = r.0} r.1)
    inside_back (in_else h) t g = absurd cc
    inside_back (in_while {body = body} h) (while start x us close) g = let e : body ≡ m_stmts us = cc in let r = has_back h us e in (r.0, in_while {at = r.0} r.1)
    inside_back (in_while h) t g = absurd cc

  stray_back : {ss : Stmts} {at : ℕ} → HasStrayReturn ss at → (us : Stmts) → ss ≡ m_stmts us → (b : ℕ) × HasStrayReturn us b
  stray_back (this_early {s} h) no_stmts g = absurd cc
  stray_back (this_early {s} h) (stmt t no_stmts) g = absurd cc
  stray_back (this_early {s} h) (stmt t (stmt u us)) g = let e : s ≡ m_stmt t = cc in let r = return_back h t e in (r.0, this_early {at = r.0} r.1)
  stray_back (stray_inside {s} h) no_stmts g = absurd cc
  stray_back (stray_inside {s} h) (stmt t us) g = let e : s ≡ m_stmt t = cc in let r = inside_back h t e in (r.0, stray_inside {at = r.0} r.1)
  stray_back (later_stray {more = more} h) no_stmts g = absurd cc
  stray_back (later_stray {more = more} h) (stmt t us) g = let e : more ≡ m_stmts us = cc in let r = stray_back h us e in (r.0, later_stray {at = r.0} r.1)

  ends_moved : {ss : Stmts} → EndsInReturn ss → EndsInReturn (m_stmts ss)
  ends_moved (last_returns returns.is_return) = last_returns returns.is_return
  ends_moved (ends_later h) = ends_later (ends_moved h)

  none_back : (o : Option ValueType) → option_of m_type o ≡ None → o ≡ None
  none_back None e = refl
  none_back (Some x) e = absurd cc

  some_back : (o : Option ValueType) (x : ValueType) → option_of m_type o ≡ Some x → (y : ValueType) × (o ≡ Some y)
  some_back None x e = absurd cc
  some_back (Some y) x e = (y, refl)

  section_back : {t : Section} {at : ℕ} → IsSectionFault t at → (s : Section) → t ≡ m_section s → (b : ℕ) × IsSectionFault s b
  section_back (no_result {s = t} e h) s g =
      let r = has_back h s.body.stmts (ap (λ (t : Section). t.body.stmts) g) in
      (r.0, no_result (none_back s.result (sym (ap (λ (t : Section). t.result) g) ∙ e)) r.1)
  section_back (stray {s = t} {t = x} e h) s g =
      let r = stray_back h s.body.stmts (ap (λ (t : Section). t.body.stmts) g) in
      let y = some_back s.result x (sym (ap (λ (t : Section). t.result) g) ∙ e) in
      (r.0, stray y.1 r.1)
  section_back (missing {s = t} {t = x} e h) s g =
      let y = some_back s.result x (sym (ap (λ (t : Section). t.result) g) ∙ e) in
      (s.body.close.start, missing y.1 (λ ends. h (subst (λ (t : Section). EndsInReturn t.body.stmts) (sym g) (ends_moved ends))))

  fault_back : {es : List Decl} {at : ℕ} → IsReturnFault es at → (ds : List Decl) → es ≡ map m_decl ds →
      (b : ℕ) × IsReturnFault ds b
  fault_back (this_section {s} h) (atomic t ∷ ds) g = let e : s ≡ m_section t = cc in let r = section_back h t e in (r.0, this_section {at = r.0} r.1)
  fault_back (this_section {s} h) ds g = absurd cc
  fault_back (this_helper {s} h) (helper t ∷ ds) g = let e : s ≡ m_section t = cc in let r = section_back h t e in (r.0, this_helper {at = r.0} r.1)
  fault_back (this_helper {s} h) ds g = absurd cc
  fault_back (later_section {ds = es} h) [] g = absurd cc
  fault_back (later_section {ds = es} h) (d ∷ ds) g = let e : es ≡ map m_decl ds = cc in let r = fault_back h ds e in (r.0, later_section {at = r.0} r.1)

  pub right_moved : (ds : List Decl) (ts : List Tok) → HasRightTree ts ds → HasRightTree (moved ts) (map m_decl ds)
  right_moved ds ts h = (tree_moved ds ts h.0, λ at fault. let b = fault_back fault ds refl in h.1 b.0 b.1)

-- ---- from the tokens of one text to those of another

-- the place of the other text's token, for that of this one's
abbrev pub to : List Tok → List Tok → Span → Span
to [] us s = s
to (t ∷ ts) [] s = s
to (t ∷ ts) (u ∷ us) s = if t.span.start == s.start then u.span else to ts us s

-- each token begins after this byte
abbrev Behind : ℕ → List Tok → Type 0
Behind n [] = Unit {0}
Behind n (t ∷ ts) = (n < t.span.start) × Behind n ts

-- each token begins after those before it
abbrev Rise : List Tok → Type 0
Rise [] = Unit {0}
Rise (t ∷ ts) = Behind t.span.start ts × Rise ts

skipped : (t u : Tok) (ts us rest : List Tok) → Behind t.span.start rest →
    moved (to (t ∷ ts) (u ∷ us)) rest ≡ moved (to ts us) rest
skipped t u ts us [] h = refl
skipped t u ts us (r ∷ rest) h =
    let other : (t.span.start == r.span.start) ≡ false = let lt = h.0 in grind (arith, nat_tests) in
    let same : to (t ∷ ts) (u ∷ us) r.span ≡ to ts us r.span = rw other refl in
    ap (λ (s : Span). record { kind = r.kind; span = s } ∷ moved (to (t ∷ ts) (u ∷ us)) rest) same
    ∙ ap (λ (l : List Tok). record { kind = r.kind; span = to ts us r.span } ∷ l) (skipped t u ts us rest h.1)

pub moved_to : (ts us : List Tok) → Rise ts → map kind us ≡ map kind ts → moved (to ts us) ts ≡ us
moved_to [] [] h e = refl
moved_to [] (u ∷ us) h e = absurd cc
moved_to (t ∷ ts) [] h e = absurd cc
moved_to (t ∷ ts) (u ∷ us) h e =
    let first : u.kind ≡ t.kind = cc in
    let more : map kind us ≡ map kind ts = cc in
    let here : to (t ∷ ts) (u ∷ us) t.span ≡ u.span = let e : (t.span.start == t.span.start) ≡ true = grind (arith, nat_tests) in rw e refl in
    ap (λ (s : Span). record { kind = t.kind; span = s } ∷ moved (to (t ∷ ts) (u ∷ us)) ts) here
    ∙ ap (λ (k : Lexeme). record { kind = k; span = u.span } ∷ moved (to (t ∷ ts) (u ∷ us)) ts) (sym first)
    ∙ ap (λ (l : List Tok). u ∷ l) (skipped t u ts us ts h.0 ∙ moved_to ts us h.1 more)

-- the tokens of a text rise
behind_on : (m n : ℕ) (ts : List Tok) → m ≤ n → Behind n ts → Behind m ts
behind_on m n [] le h = tt
behind_on m n (t ∷ ts) le h = (let lt = h.0 in omega arith, behind_on m n ts le h.1)

module _ (total : ℕ) where
  from_here : {text : List ℕ} {ts : List Tok} {ps : List Piece} → ArePieces total text ts ps → (n : ℕ) →
      n + length text < total + 1 → n < total - length text → Behind n ts
  from_here cut.at_end n le lt = (omega arith, tt)
  from_here (cut.blank w h) n le lt = from_here h n (omega arith) (omega arith)
  from_here (cut.line_feed h) n le lt = from_here h n (omega arith) (omega arith)
  from_here (cut.comment line {text} all ends h) n le lt = from_here h n (omega (arith, length-append line text)) (omega (arith, length-append line text))
  from_here (cut.token {bytes} {rest} nc unit longest small h) n le lt =
      (lt, from_here h n (omega (arith, length-append bytes rest)) (omega (arith, length-append bytes rest)))

  pub tokens_rise : {text : List ℕ} {ts : List Tok} {ps : List Piece} → ArePieces total text ts ps → length text ≤ total → Rise ts
  tokens_rise cut.at_end le = (tt, tt)
  tokens_rise (cut.blank w h) le = tokens_rise h (omega arith)
  tokens_rise (cut.line_feed h) le = tokens_rise h (omega arith)
  tokens_rise (cut.comment line {text} all ends h) le = tokens_rise h (omega (arith, length-append line text))
  tokens_rise (cut.token {bytes} {rest} nc unit longest small h) le =
      let b = unit_begins unit in (
        from_here h (total - length (bytes ++ rest)) (omega (arith, length-append bytes rest, ap length b.is)) (omega (arith, length-append bytes rest, ap length b.is)),
        tokens_rise h (omega (arith, length-append bytes rest)),
      )
