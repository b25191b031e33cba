-- The texts of trees.
use Rattle.std.specs.Prelude.{ℕ, zero, suc, List, [], ◌∷◌, ◌++◌, Option, Some, None, codes, nat_lt, ◌+◌, if◌then◌else◌}
use Rattle.std.specs.Fmt.{decimal}
use Rattle.source.specs.Texts.{sign_text}
use Rattle.syntax.specs.declared.tree.Operator.{Operator}
use Rattle.syntax.specs.declared.tree.Comparison.{Comparison}
use Rattle.syntax.specs.declared.tree.Prefix.{Prefix}
use Rattle.source.specs.declared.token.Number.{Number}
use Rattle.syntax.specs.Trees.{Ident, ValueType, int_type, ref_type, Const, int_const, negative, null_const}
use Rattle.syntax.specs.Trees.{member_const, Place, lone, element, path, Expr, int, null, place, paren, prefix, chain}
use Rattle.syntax.specs.Trees.{compare, Links, no_links, link, Local, Owner, HelperCall, CalledLocal, Stmt, let_local}
use Rattle.syntax.specs.Trees.{let_owned, let_call, var_local, assign, if_then, while, print, return_value, Stmts}
use Rattle.syntax.specs.Trees.{no_stmts, stmt, Otherwise, no_else, else_do, Protection, Variable, Array, Member}
use Rattle.syntax.specs.Trees.{lock_member, final_member, field_member, Struct, Pool, Init, Param, ClassName, Section}
use Rattle.syntax.specs.Trees.{Call, Item, call, repeat, Items, no_items, item, Thread, Decl, lock, struct, global}
use Rattle.syntax.specs.Trees.{array, pool, init, atomic, helper, thread}
use Rattle.syntax.specs.Grammar.{sign_of, prefix_sign, comparison_sign}

-- ---- lists, and parts that may be left out

-- the texts of items, one after another
abbrev pub many_text : {A : Type 0} → (A → List ℕ) → List A → List ℕ
many_text text [] = []
many_text text (x ∷ xs) = text x ++ many_text text xs

-- the text of an item, after a comma
abbrev pub after_comma : {A : Type 0} → (A → List ℕ) → A → List ℕ
after_comma text x = codes ", " ++ text x

-- the texts of items, with commas between them
abbrev pub listed_text : {A : Type 0} → (A → List ℕ) → List A → List ℕ
listed_text text [] = []
listed_text text (x ∷ xs) = text x ++ many_text (after_comma text) xs

abbrev pub optional_text : {A : Type 0} → (A → List ℕ) → Option A → List ℕ
optional_text text None = []
optional_text text (Some x) = text x

-- ---- names, types and constants

abbrev pub index_text : Number → List ℕ
index_text n = codes "[" ++ decimal n.value ++ codes "]"

abbrev pub type_text : ValueType → List ℕ
type_text int_type = codes "int"
type_text (ref_type target) = codes "ref " ++ target.text

abbrev pub const_text : Const → List ℕ
const_text (int_const n) = decimal n.value
const_text (negative at n) = codes "-" ++ decimal n.value
const_text (null_const at) = codes "null"
const_text (member_const x n) = x.text ++ index_text n

-- a name after a dot
abbrev pub field_text : Ident → List ℕ
field_text x = codes "." ++ x.text

-- ---- expressions

abbrev pub op_text : Operator → List ℕ
op_text op = 32 ∷ sign_text (sign_of op) ++ codes " "

abbrev pub comparison_text : Comparison → List ℕ
comparison_text c = 32 ∷ sign_text (comparison_sign c) ++ codes " "

abbrev pub prefix_text : Prefix → List ℕ
prefix_text op = sign_text (prefix_sign op)

abbrev mutual
  pub expr_text : Expr → List ℕ
  expr_text (int n) = decimal n.value
  expr_text (null at) = codes "null"
  expr_text (place p) = place_text p
  expr_text (paren at e) = codes "(" ++ expr_text e ++ codes ")"
  expr_text (prefix op at e) = prefix_text op ++ expr_text e
  expr_text (chain k e links) = expr_text e ++ links_text links
  expr_text (compare left c right) = expr_text left ++ comparison_text c ++ expr_text right

  pub place_text : Place → List ℕ
  place_text (lone x) = x.text
  place_text (element x e) = x.text ++ codes "[" ++ expr_text e ++ codes "]"
  place_text (path x fields) = x.text ++ many_text field_text fields

  pub links_text : Links → List ℕ
  links_text no_links = []
  links_text (link op e more) = op_text op ++ expr_text e ++ links_text more

-- ---- statements

abbrev pub indent : ℕ → List ℕ
indent zero = []
indent (suc n) = codes "    " ++ indent n

-- the depth of lines in braces, given that of the line with the braces; it has an upper bound
abbrev pub deeper : ℕ → ℕ
deeper d = if nat_lt d 64 then d + 1 else d

-- lines in braces, after a line at this depth
abbrev pub braced : ℕ → List ℕ → List ℕ
braced d lines = codes " {" ++ lines ++ codes "\n" ++ indent d ++ codes "}"

-- a `let` or `var` after its first word, up to the end of the value
abbrev pub local_text : Local → List ℕ
local_text l = l.name.text ++ codes ": " ++ type_text l.value_type ++ codes " = " ++ expr_text l.value

abbrev pub owner_text : Owner → List ℕ
owner_text o = codes " where " ++ o.field.text ++ codes " == " ++ o.local.text

abbrev pub helper_call_text : HelperCall → List ℕ
helper_call_text c = c.helper.text ++ codes "(" ++ listed_text expr_text c.arguments ++ codes ")"

abbrev pub called_text : CalledLocal → List ℕ
called_text l = l.name.text ++ codes ": " ++ type_text l.value_type ++ codes " = call " ++ helper_call_text l.call

abbrev mutual
  -- the text of a statement whose lines are at this depth
  pub stmt_text : ℕ → Stmt → List ℕ
  stmt_text d (let_local l) = codes "let " ++ local_text l ++ codes ";"
  stmt_text d (let_owned l o) = codes "let " ++ local_text l ++ owner_text o ++ codes ";"
  stmt_text d (let_call l) = codes "let " ++ called_text l ++ codes ";"
  stmt_text d (var_local l) = codes "var " ++ local_text l ++ codes ";"
  stmt_text d (assign p e) = place_text p ++ codes " = " ++ expr_text e ++ codes ";"
  stmt_text d (if_then at e body close other) = codes "if (" ++ expr_text e ++ codes ")" ++ braced d (stmts_text (deeper d) body) ++ else_text d other
  stmt_text d (while at e body close) = codes "while (" ++ expr_text e ++ codes ")" ++ braced d (stmts_text (deeper d) body)
  stmt_text d (print at e) = codes "print " ++ expr_text e ++ codes ";"
  stmt_text d (return_value at e) = codes "return " ++ expr_text e ++ codes ";"
  stmt_text d (call at c) = codes "call " ++ helper_call_text c ++ codes ";"

  -- the text of statements, each on a line of its own
  pub stmts_text : ℕ → Stmts → List ℕ
  stmts_text d no_stmts = []
  stmts_text d (stmt s more) = codes "\n" ++ indent d ++ stmt_text d s ++ stmts_text d more

  pub else_text : ℕ → Otherwise → List ℕ
  else_text d no_else = []
  else_text d (else_do body close) = codes " else" ++ braced d (stmts_text (deeper d) body)

-- ---- declarations

abbrev pub protection_text : Protection → List ℕ
protection_text p = codes " protected_by(" ++ p.first.text ++ many_text field_text p.rest ++ codes ")"

abbrev pub value_text : Const → List ℕ
value_text c = codes " = " ++ const_text c

abbrev pub result_text : ValueType → List ℕ
result_text t = codes ": " ++ type_text t

-- a member, on a line of its own
abbrev pub member_text : Member → List ℕ
member_text (lock_member x) = codes "\n    lock " ++ x.text ++ codes ";"
member_text (final_member f) = codes "\n    final ref " ++ f.target.text ++ codes " " ++ f.name.text ++ codes ";"
member_text (field_member f) = codes "\n    " ++ type_text f.value_type ++ codes " " ++ f.name.text ++ optional_text protection_text f.protection ++ codes ";"

abbrev pub param_text : Param → List ℕ
param_text p = type_text p.value_type ++ codes " " ++ p.name.text

abbrev pub call_text : Call → List ℕ
call_text c = c.section.text ++ codes "(" ++ listed_text const_text c.arguments ++ codes ");"

abbrev mutual
  -- the text of an item whose lines are at this depth
  pub item_text : ℕ → Item → List ℕ
  item_text d (call c) = call_text c
  item_text d (repeat n is) = codes "repeat " ++ decimal n.value ++ braced d (items_text (deeper d) is)

  pub items_text : ℕ → Items → List ℕ
  items_text d no_items = []
  items_text d (item i more) = codes "\n" ++ indent d ++ item_text d i ++ items_text d more

abbrev pub thread_text : Thread → List ℕ
thread_text t = codes "thread " ++ t.name.text ++ codes " {" ++ items_text 1 t.items ++ codes "\n}\n"

abbrev pub struct_text : Struct → List ℕ
struct_text s = codes "struct " ++ s.name.text ++ codes " {" ++ many_text member_text s.members ++ codes "\n}\n"

abbrev pub variable_text : Variable → List ℕ
variable_text v = codes "global " ++ type_text v.value_type ++ codes " " ++ v.name.text ++ optional_text protection_text v.protection ++ optional_text value_text v.value ++ codes ";\n"

abbrev pub array_text : Array → List ℕ
array_text a = codes "global " ++ type_text a.value_type ++ codes " " ++ a.name.text ++ index_text a.length ++ optional_text protection_text a.protection ++ codes ";\n"

abbrev pub pool_text : Pool → List ℕ
pool_text p = codes "pool " ++ p.target.text ++ codes " " ++ p.name.text ++ index_text p.length ++ codes ";\n"

abbrev pub init_text : Init → List ℕ
init_text i = codes "init " ++ i.pool.text ++ index_text i.index ++ codes "." ++ i.field.text ++ codes " = " ++ const_text i.value ++ codes ";\n"

abbrev pub class_name_text : ClassName → List ℕ
class_name_text c = c.structure.text ++ codes "." ++ c.lock.text

-- the lock classes that a section takes whole, if there are any
abbrev pub whole_text : List ClassName → List ℕ
whole_text [] = []
whole_text (c ∷ cs) = codes " lock(" ++ listed_text class_name_text (c ∷ cs) ++ codes ")"

-- a section or a helper, with this word before its name
abbrev pub section_text : List ℕ → Section → List ℕ
section_text word s =
    word ++ s.name.text ++ codes "(" ++ listed_text param_text s.params ++ codes ")"
    ++ optional_text result_text s.result ++ whole_text s.listed ++ codes " {" ++ stmts_text 1 s.body.stmts ++ codes "\n}\n"

abbrev pub decl_text : Decl → List ℕ
decl_text (lock x) = codes "lock " ++ x.text ++ codes ";\n"
decl_text (struct s) = struct_text s
decl_text (global v) = variable_text v
decl_text (array a) = array_text a
decl_text (pool p) = pool_text p
decl_text (init i) = init_text i
decl_text (atomic s) = section_text (codes "atomic ") s
decl_text (helper s) = section_text (codes "call ") s
decl_text (thread t) = thread_text t

abbrev pub tree_text : List Decl → List ℕ
tree_text ds = many_text decl_text ds
