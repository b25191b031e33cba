-- What the names of a program are looked up as.
use Rattle.std.specs.Prelude.{◌≡◌, List, [], Some}
use Rattle.resolution.specs.declared.wanted.Want.{Want}
use Rattle.resolution.specs.Where.{Has, Within, HasCall, HasLock}
use Rattle.source.specs.declared.span.Span.{Span}
use Rattle.source.specs.declared.token.Number.{Number}
use Rattle.syntax.specs.Trees.{Ident, ValueType, ref_type, Const, member_const, Place, lone, element, path, Expr}
use Rattle.syntax.specs.Trees.{place, Local, Owner, HelperCall, CalledLocal, Stmt, let_local, let_owned, let_call}
use Rattle.syntax.specs.Trees.{var_local, assign, if_then, while, print, return_value, Stmts, Otherwise, Protection}
use Rattle.syntax.specs.Trees.{Final, Field, final_member, field_member, Struct, Variable, Array, Pool, Init, Param}
use Rattle.syntax.specs.Trees.{ClassName, Section, Call, Decl, struct, global, array, pool, init}
use Rattle.syntax.specs.Trees as tree
use Rattle.explanation_names.specs.declared.sought.NameKind.{NameKind}
use Rattle.explanation_names.specs.declared.sought.NameKind.TheVariants as kind
use Rattle.explanation_names.specs.Locals.{LocalInScope, HasBody, HasStmt, declared_by}

-- the use of a name: it is looked up as a thing of a kind, with these locals in scope; or as a member of a struct, by
-- the names after a local's, by the field that an `init` gives, by those of an annotation in a struct, by the one after
-- `where` at a local of this type, or by the lock's name of a listed lock class
pub data Use : Type 0 where
  of_kind : NameKind → List LocalInScope → (name : Ident) → Use
  by_dots : List LocalInScope → (local : Ident) → (fields : List Ident) → Use
  by_init : (pool field : Ident) → Use
  by_annotation : (structure : Ident) → Protection → Use
  by_owner : ValueType → (field : Ident) → Use
  by_class : (structure lock : Ident) → Use

-- a call of a helper
pub data HasHelperCall (decls : List Decl) : List LocalInScope → HelperCall → Type 0 where
  by_let : {xs : List LocalInScope} {l : CalledLocal} → HasStmt decls xs (let_call l) → HasHelperCall decls xs l.call
  by_itself : {xs : List LocalInScope} {start : Span} {c : HelperCall} →
      HasStmt decls xs (tree.call start c) → HasHelperCall decls xs c

-- an expression that is not a part of another
pub data HasExpr (decls : List Decl) : List LocalInScope → Expr → Type 0 where
  of_let : {xs : List LocalInScope} {l : Local} → HasStmt decls xs (let_local l) → HasExpr decls xs l.value
  of_owned : {xs : List LocalInScope} {l : Local} {o : Owner} → HasStmt decls xs (let_owned l o) →
      HasExpr decls xs l.value
  of_var : {xs : List LocalInScope} {l : Local} → HasStmt decls xs (var_local l) → HasExpr decls xs l.value
  of_assign : {xs : List LocalInScope} {p : Place} {e : Expr} → HasStmt decls xs (assign p e) → HasExpr decls xs e
  of_index : {xs : List LocalInScope} {x : Ident} {i e : Expr} → HasStmt decls xs (assign (element x i) e) →
      HasExpr decls xs i
  of_if : {xs : List LocalInScope} {start close : Span} {e : Expr} {body : Stmts} {other : Otherwise} →
      HasStmt decls xs (if_then start e body close other) → HasExpr decls xs e
  of_while : {xs : List LocalInScope} {start close : Span} {e : Expr} {body : Stmts} →
      HasStmt decls xs (while start e body close) → HasExpr decls xs e
  of_print : {xs : List LocalInScope} {start : Span} {e : Expr} → HasStmt decls xs (print start e) → HasExpr decls xs e
  of_return : {xs : List LocalInScope} {start : Span} {e : Expr} → HasStmt decls xs (return_value start e) →
      HasExpr decls xs e
  of_argument : {xs : List LocalInScope} {c : HelperCall} {e : Expr} →
      HasHelperCall decls xs c → Has c.arguments e → HasExpr decls xs e

-- a place that is read or written
pub data HasPlace (decls : List Decl) : List LocalInScope → Place → Type 0 where
  is_read : {xs : List LocalInScope} {w v : Want} {e : Expr} {p : Place} →
      HasExpr decls xs e → Within w e v (place p) → HasPlace decls xs p
  is_written : {xs : List LocalInScope} {p : Place} {e : Expr} → HasStmt decls xs (assign p e) → HasPlace decls xs p

-- a type; the struct's name of a listed lock class counts as one
pub data HasType (decls : List Decl) : List LocalInScope → ValueType → Type 0 where
  of_global : {v : Variable} → Has decls (global v) → HasType decls [] v.value_type
  of_array : {a : Array} → Has decls (array a) → HasType decls [] a.value_type
  of_pool : {p : Pool} → Has decls (pool p) → HasType decls [] (ref_type p.target)
  of_final : {s : Struct} {f : Final} →
      Has decls (struct s) → Has s.members (final_member f) → HasType decls [] (ref_type f.target)
  of_field : {s : Struct} {f : Field} →
      Has decls (struct s) → Has s.members (field_member f) → HasType decls [] f.value_type
  of_parameter : {s : Section} {p : Param} → HasBody decls s → Has s.params p → HasType decls [] p.value_type
  of_result : {s : Section} {t : ValueType} → HasBody decls s → s.result ≡ Some t → HasType decls [] t
  of_listed : {s : Section} {c : ClassName} → HasBody decls s → Has s.listed c → HasType decls [] (ref_type c.structure)
  of_local : {xs : List LocalInScope} {s : Stmt} {l : LocalInScope} →
      HasStmt decls xs s → Has (declared_by s) l → HasType decls xs l.value_type

-- a constant
pub data HasConst (decls : List Decl) : Const → Type 0 where
  opening : {v : Variable} {c : Const} → Has decls (global v) → v.value ≡ Some c → HasConst decls c
  initial : {i : Init} → Has decls (init i) → HasConst decls i.value
  argument : {c : Call} {x : Const} → HasCall decls c → Has c.arguments x → HasConst decls x

-- the annotation of a field of a struct
pub data Guards (decls : List Decl) : Struct → Protection → Type 0 where
  guards : {s : Struct} {f : Field} {p : Protection} →
      Has decls (struct s) → Has s.members (field_member f) → f.protection ≡ Some p → Guards decls s p

-- the uses of names in the program
pub data Uses (decls : List Decl) : Use → Type 0 where
  -- a name alone is that of a global or a local. A name before an index is that of an array or a pool, one before a dot
  -- that of a local, and one after the dot that of a member
  a_value : {xs : List LocalInScope} {x : Ident} → HasPlace decls xs (lone x) → Uses decls (of_kind kind.Value xs x)
  an_element : {xs : List LocalInScope} {x : Ident} {e : Expr} →
      HasPlace decls xs (element x e) → Uses decls (of_kind kind.Indexed xs x)
  a_base : {xs : List LocalInScope} {x : Ident} {fs : List Ident} →
      HasPlace decls xs (path x fs) → Uses decls (of_kind kind.Local xs x)
  a_way : {xs : List LocalInScope} {x : Ident} {fs : List Ident} → HasPlace decls xs (path x fs) →
      Uses decls (by_dots xs x fs)
  -- after `where` are a final reference, and a local
  an_owner : {xs : List LocalInScope} {l : Local} {o : Owner} →
      HasStmt decls xs (let_owned l o) → Uses decls (by_owner l.value_type o.field)
  an_owner_local : {xs : List LocalInScope} {l : Local} {o : Owner} →
      HasStmt decls xs (let_owned l o) → Uses decls (of_kind kind.Local xs o.local)
  -- a type names a struct
  a_struct : {xs : List LocalInScope} {x : Ident} → HasType decls xs (ref_type x) →
      Uses decls (of_kind kind.Struct xs x)
  -- a listed lock class names a member of its struct
  a_listed_lock : {s : Section} {c : ClassName} →
      HasBody decls s → Has s.listed c → Uses decls (by_class c.structure c.lock)
  -- calls name a helper, or a section
  a_helper : {xs : List LocalInScope} {c : HelperCall} →
      HasHelperCall decls xs c → Uses decls (of_kind kind.Helper xs c.helper)
  a_section : {c : Call} → HasCall decls c → Uses decls (of_kind kind.Section [] c.section)
  -- a constant names a pool; an `init` names a pool and a member
  a_pool : {p : Ident} {n : Number} → HasConst decls (member_const p n) → Uses decls (of_kind kind.Pool [] p)
  a_pool_given : {i : Init} → Has decls (init i) → Uses decls (of_kind kind.Pool [] i.pool)
  a_field_given : {i : Init} → Has decls (init i) → Uses decls (by_init i.pool i.field)
  -- an annotation names a lock by its first name; in a struct, a member by each name
  a_lock : {p : Protection} → HasLock decls p → Uses decls (of_kind kind.Lock [] p.first)
  a_guard : {s : Struct} {p : Protection} → Guards decls s p → Uses decls (of_kind kind.Lock [] p.first)
  a_guard_way : {s : Struct} {p : Protection} → Guards decls s p → Uses decls (by_annotation s.name p)
