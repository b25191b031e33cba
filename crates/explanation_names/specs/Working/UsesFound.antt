-- The uses of names that the code finds, one after another. Nobody has to believe this file.
use Rattle.std.specs.List.{flat_map}
use Rattle.std.specs.Prelude.{List, [], ◌∷◌, ◌++◌, map, Option, Some, None}
use Rattle.syntax.specs.Trees.{Ident, ValueType, int_type, ref_type, Const, int_const, negative, null_const}
use Rattle.syntax.specs.Trees.{member_const, Expr, int, null, place, paren, prefix, chain, compare, Place, lone}
use Rattle.syntax.specs.Trees.{element, path, Links, no_links, link, HelperCall, Local, Stmt, let_local, let_owned}
use Rattle.syntax.specs.Trees.{let_call, var_local, assign, if_then, while, print, return_value, Stmts, no_stmts}
use Rattle.syntax.specs.Trees.{stmt, Otherwise, no_else, else_do, Protection, Member, lock_member, final_member}
use Rattle.syntax.specs.Trees.{field_member, Param, ClassName, Section, Call, Item, call, repeat, Items, no_items}
use Rattle.syntax.specs.Trees.{item, Decl, lock, struct, global, array, pool, init, atomic, helper, thread}
use Rattle.syntax.specs.Trees as tree
use Rattle.explanation_names.specs.declared.sought.NameKind.TheVariants as kind
use Rattle.explanation_names.specs.Locals.{LocalInScope, declared_by, param_in_scope}
use Rattle.explanation_names.specs.Sought.{Use, of_kind, by_dots, by_init, by_annotation, by_owner, by_class}

module _ (xs : List LocalInScope) where
  abbrev mutual
    pub uses_in : Expr → List Use
    uses_in (int n) = []
    uses_in (null s) = []
    uses_in (place p) = uses_at p
    uses_in (paren s e) = uses_in e
    uses_in (prefix o s e) = uses_in e
    uses_in (chain level e links) = uses_in e ++ uses_behind links
    uses_in (compare a c b) = uses_in a ++ uses_in b

    pub uses_at : Place → List Use
    uses_at (lone x) = of_kind kind.Value xs x ∷ []
    uses_at (element x e) = of_kind kind.Indexed xs x ∷ uses_in e
    uses_at (path x fs) = of_kind kind.Local xs x ∷ by_dots xs x fs ∷ []

    pub uses_behind : Links → List Use
    uses_behind no_links = []
    uses_behind (link o e rest) = uses_in e ++ uses_behind rest

  abbrev pub uses_of_type : ValueType → List Use
  uses_of_type int_type = []
  uses_of_type (ref_type x) = of_kind kind.Struct xs x ∷ []

  abbrev pub uses_of_call : HelperCall → List Use
  uses_of_call c = of_kind kind.Helper xs c.helper ∷ flat_map uses_in c.arguments

  abbrev pub uses_of_local : Local → List Use
  uses_of_local l = uses_of_type l.value_type ++ uses_in l.value

  -- the uses of names in a statement, but not in its blocks
  abbrev pub uses_by : Stmt → List Use
  uses_by (let_local l) = uses_of_local l
  uses_by (let_owned l o) = uses_of_local l ++ (by_owner l.value_type o.field ∷ of_kind kind.Local xs o.local ∷ [])
  uses_by (let_call l) = uses_of_type l.value_type ++ uses_of_call l.call
  uses_by (var_local l) = uses_of_local l
  uses_by (assign p e) = uses_at p ++ uses_in e
  uses_by (if_then start e body close other) = uses_in e
  uses_by (while start e body close) = uses_in e
  uses_by (print start e) = uses_in e
  uses_by (return_value start e) = uses_in e
  uses_by (tree.call start c) = uses_of_call c

abbrev mutual
  pub uses_in_blocks : List LocalInScope → Stmt → List Use
  uses_in_blocks xs (let_local l) = []
  uses_in_blocks xs (let_owned l o) = []
  uses_in_blocks xs (let_call l) = []
  uses_in_blocks xs (var_local l) = []
  uses_in_blocks xs (assign p e) = []
  uses_in_blocks xs (if_then start e body close other) = uses_in_stmts xs body ++ uses_in_else xs other
  uses_in_blocks xs (while start e body close) = uses_in_stmts xs body
  uses_in_blocks xs (print start e) = []
  uses_in_blocks xs (return_value start e) = []
  uses_in_blocks xs (tree.call start c) = []

  pub uses_in_else : List LocalInScope → Otherwise → List Use
  uses_in_else xs no_else = []
  uses_in_else xs (else_do body close) = uses_in_stmts xs body

  -- the uses of names in statements, before which these locals are in scope
  pub uses_in_stmts : List LocalInScope → Stmts → List Use
  uses_in_stmts xs no_stmts = []
  uses_in_stmts xs (stmt s rest) = (uses_by xs s ++ uses_in_blocks xs s) ++ uses_in_stmts (xs ++ declared_by s) rest

-- the locals that statements declare
abbrev pub all_declared : Stmts → List LocalInScope
all_declared no_stmts = []
all_declared (stmt s rest) = declared_by s ++ all_declared rest

-- the uses in the body of a section
abbrev pub uses_of_body : Section → List Use
uses_of_body s = uses_in_stmts (map param_in_scope s.params) s.body.stmts

module _ (xs : List LocalInScope) where
  abbrev pub uses_of_const : Const → List Use
  uses_of_const (int_const n) = []
  uses_of_const (negative sign n) = []
  uses_of_const (null_const s) = []
  uses_of_const (member_const p n) = of_kind kind.Pool xs p ∷ []

  abbrev pub uses_of_value : Option Const → List Use
  uses_of_value (Some c) = uses_of_const c
  uses_of_value None = []

  abbrev pub uses_of_result : Option ValueType → List Use
  uses_of_result (Some t) = uses_of_type xs t
  uses_of_result None = []

  abbrev pub uses_of_section_call : Call → List Use
  uses_of_section_call c = of_kind kind.Section xs c.section ∷ flat_map uses_of_const c.arguments

  abbrev mutual
    pub uses_of_item : Item → List Use
    uses_of_item (call c) = uses_of_section_call c
    uses_of_item (repeat n is) = uses_of_items is

    pub uses_of_items : Items → List Use
    uses_of_items no_items = []
    uses_of_items (item i rest) = uses_of_item i ++ uses_of_items rest

  abbrev pub uses_of_annotation : Option Protection → List Use
  uses_of_annotation (Some p) = of_kind kind.Lock xs p.first ∷ []
  uses_of_annotation None = []

  -- the uses of names in the annotation of a field of the struct of this name
  abbrev pub uses_of_guard : Ident → Option Protection → List Use
  uses_of_guard s (Some p) = of_kind kind.Lock xs p.first ∷ by_annotation s p ∷ []
  uses_of_guard s None = []

  abbrev pub uses_of_member : Ident → Member → List Use
  uses_of_member s (lock_member x) = []
  uses_of_member s (final_member f) = of_kind kind.Struct xs f.target ∷ []
  uses_of_member s (field_member f) = uses_of_type xs f.value_type ++ uses_of_guard s f.protection

  abbrev pub uses_of_param : Param → List Use
  uses_of_param p = uses_of_type xs p.value_type

  abbrev pub uses_of_class : ClassName → List Use
  uses_of_class c = of_kind kind.Struct xs c.structure ∷ by_class c.structure c.lock ∷ []

  abbrev pub uses_of_section : Section → List Use
  uses_of_section s =
      ((uses_of_body s ++ flat_map uses_of_param s.params) ++ uses_of_result s.result) ++ flat_map uses_of_class s.listed

  abbrev pub uses_of_decl : Decl → List Use
  uses_of_decl (lock x) = []
  uses_of_decl (struct s) = flat_map (uses_of_member s.name) s.members
  uses_of_decl (global v) = (uses_of_type xs v.value_type ++ uses_of_annotation v.protection) ++ uses_of_value v.value
  uses_of_decl (array a) = uses_of_type xs a.value_type ++ uses_of_annotation a.protection
  uses_of_decl (pool p) = of_kind kind.Struct xs p.target ∷ []
  uses_of_decl (init i) = (of_kind kind.Pool xs i.pool ∷ by_init i.pool i.field ∷ []) ++ uses_of_const i.value
  uses_of_decl (atomic s) = uses_of_section s
  uses_of_decl (helper s) = uses_of_section s
  uses_of_decl (thread t) = uses_of_items t.items
