-- The uses of names that are found are those of the program.
use Rattle.std.proofs.Common.{◌≡◌, List, [], ◌∷◌, ◌++◌, Option, Some, None, map, refl, sym, subst}
use Rattle.std.specs.List.{flat_map}
use Rattle.core_lang.specs.declared.value.ValueType.TheVariants.{Integer}
use Rattle.resolution.specs.declared.wanted.Want.{Want}
use Rattle.resolution.specs.declared.wanted.Want.TheVariants.{Anything, Value}
use Rattle.resolution.specs.Where.{Has, first, further, Within, itself, in_parentheses, in_prefix, in_first, in_operand}
use Rattle.resolution.specs.Where.{in_index, HasLink, this_link, later_link, HasCall, in_thread, InItems, this_call}
use Rattle.resolution.specs.Where.{in_repeat, later_call, HasLock, of_variable, of_elements, operand_want, prefix_want}
use Rattle.resolution.specs.Where.{side_want}
use Rattle.resolution.specs.Where as where_
use Rattle.syntax.specs.declared.tree.Operator.{Operator}
use Rattle.syntax.specs.Trees.{ValueType, int_type, ref_type, Const, int_const, negative, null_const, member_const}
use Rattle.syntax.specs.Trees.{Expr, int, null, place, paren, prefix, chain, compare, Place, lone, element, path, Links}
use Rattle.syntax.specs.Trees.{no_links, link, HelperCall, Stmt, let_local, let_owned, let_call, var_local, assign}
use Rattle.syntax.specs.Trees.{if_then, while, print, return_value, Stmts, no_stmts, stmt, no_else, else_do, Protection}
use Rattle.syntax.specs.Trees.{Member, lock_member, final_member, field_member, Struct, Variable, Init, ClassName}
use Rattle.syntax.specs.Trees.{Section, Call, Item, call, repeat, Items, no_items, item, Decl, lock, struct, global, array, pool, init}
use Rattle.syntax.specs.Trees.{atomic, helper, thread}
use Rattle.syntax.specs.Trees as tree
use Rattle.explanation_names.specs.declared.sought.NameKind.TheVariants as kind
use Rattle.explanation_names.specs.Locals.{LocalInScope, declared_by, param_in_scope, Stands, here, later, in_then}
use Rattle.explanation_names.specs.Locals.{in_else, in_while, HasBody, of_section, of_helper, HasStmt, in_body}
use Rattle.explanation_names.specs.Sought.{Use, of_kind, by_dots, by_init, by_owner, by_class, Uses, a_value, an_element, a_base}
use Rattle.explanation_names.specs.Sought.{a_listed_lock, a_way, an_owner, an_owner_local, a_struct, a_helper, a_section, a_pool}
use Rattle.explanation_names.specs.Sought.{a_pool_given, a_field_given, a_lock, a_guard, a_guard_way, HasExpr, of_let}
use Rattle.explanation_names.specs.Sought.{of_owned, of_var, of_assign, of_index, of_if, of_while, of_print, of_return}
use Rattle.explanation_names.specs.Sought.{of_argument, HasHelperCall, by_let, by_itself, HasPlace, is_read, is_written}
use Rattle.explanation_names.specs.Sought.{HasType, of_global, of_array, of_pool, of_final, of_field, of_parameter}
use Rattle.explanation_names.specs.Sought.{of_result, of_listed, of_local, HasConst, opening, initial, argument, Guards, guards}
use Rattle.explanation_names.specs.Working.UsesFound.{uses_in, uses_at, uses_behind, uses_of_type, uses_of_call}
use Rattle.explanation_names.specs.Working.UsesFound.{uses_of_local, uses_by, uses_in_blocks, uses_in_else}
use Rattle.explanation_names.specs.Working.UsesFound.{uses_in_stmts, uses_of_body, uses_of_const, uses_of_value}
use Rattle.explanation_names.specs.Working.UsesFound.{uses_of_result, uses_of_section_call, uses_of_item, uses_of_items}
use Rattle.explanation_names.specs.Working.UsesFound.{uses_of_annotation, uses_of_guard, uses_of_member, uses_of_param}
use Rattle.explanation_names.specs.Working.UsesFound.{uses_of_class, uses_of_section, uses_of_decl}
use Rattle.explanation_names.proofs.Lists as l

-- ---- in expressions

-- the uses in a place itself
abbrev own : List LocalInScope → Place → List Use
own xs (lone x) = of_kind kind.Value xs x ∷ []
own xs (element x e) = of_kind kind.Indexed xs x ∷ []
own xs (path x fs) = of_kind kind.Local xs x ∷ by_dots xs x fs ∷ []

module _ (xs : List LocalInScope) {u : Use} where
  link_found : {links : Links} {o : Operator} {f : Expr} → HasLink links o f → Has (uses_in xs f) u →
      Has (uses_behind xs links) u
  link_found (this_link {e = e} {rest = rest}) h = l.in_left (uses_in xs e) (uses_behind xs rest) h
  link_found (later_link {e = e} {rest = rest} has) h = l.in_right (uses_in xs e) (uses_behind xs rest) (link_found has h)

  within_found : {w v : Want} {e x : Expr} → Within w e v x → Has (uses_in xs x) u → Has (uses_in xs e) u
  within_found itself h = h
  within_found (in_parentheses k) h = within_found k h
  within_found (in_prefix k) h = within_found k h
  within_found (in_first {e = e} {links = links} k) h = l.in_left (uses_in xs e) (uses_behind xs links) (within_found k h)
  within_found (in_operand {e = e} {links = links} has k) h = l.in_right (uses_in xs e) (uses_behind xs links) (link_found has (within_found k h))
  within_found (where_.in_left {a = a} {b = b} k) h = l.in_left (uses_in xs a) (uses_in xs b) (within_found k h)
  within_found (where_.in_right {a = a} {b = b} k) h = l.in_right (uses_in xs a) (uses_in xs b) (within_found k h)
  within_found (in_index k) h = further (within_found k h)

  module _ (P : Type 0) where
    mutual
      from_expr : (w : Want) (e : Expr) → ((v : Want) (p : Place) → Within w e v (place p) → Has (own xs p) u → P) →
          Has (uses_in xs e) u → P
      from_expr w (int n) up h = elim h [ ]
      from_expr w (null s) up h = elim h [ ]
      from_expr w (place (lone x)) up h = up w (lone x) itself h
      from_expr w (place (element x e)) up h =
          l.either (own xs (element x e)) (uses_in xs e) (up w (element x e) itself)
          (from_expr (Value Integer) e (λ v p k. up v p (in_index k))) h
      from_expr w (place (path x fs)) up h = up w (path x fs) itself h
      from_expr w (paren s e) up h = from_expr Anything e (λ v p k. up v p (in_parentheses k)) h
      from_expr w (prefix o s e) up h = from_expr (prefix_want o) e (λ v p k. up v p (in_prefix k)) h
      from_expr w (chain level e links) up h =
          l.either (uses_in xs e) (uses_behind xs links)
          (from_expr (operand_want level) e (λ v p k. up v p (in_first k)))
          (from_links (operand_want level) links (λ o f v p has k. up v p (in_operand has k))) h
      from_expr w (compare a c b) up h =
          l.either (uses_in xs a) (uses_in xs b)
          (from_expr (side_want c) a (λ v p k. up v p (where_.in_left k)))
          (from_expr (side_want c) b (λ v p k. up v p (where_.in_right k))) h

      from_links : (w : Want) (links : Links) →
          ((o : Operator) (f : Expr) (v : Want) (p : Place) → HasLink links o f → Within w f v (place p) →
          Has (own xs p) u → P) →
          Has (uses_behind xs links) u → P
      from_links w no_links up h = elim h [ ]
      from_links w (link o e rest) up h =
          l.either (uses_in xs e) (uses_behind xs rest)
          (from_expr w e (λ v p k. up o e v p this_link k))
          (from_links w rest (λ q f v p has. up q f v p (later_link has))) h

-- ---- in statements

module _ {u : Use} where
  stands_found : {xs ys : List LocalInScope} {ss : Stmts} {t : Stmt} → Stands xs ss ys t → Has (uses_by ys t) u →
      Has (uses_in_stmts xs ss) u
  stands_found (here {xs = xs} {s = s} {rest = rest}) h =
      l.in_left (uses_by xs s ++ uses_in_blocks xs s) (uses_in_stmts (xs ++ declared_by s) rest) (l.in_left (uses_by xs s) (uses_in_blocks xs s) h)
  stands_found (later {xs = xs} {s = s} {rest = rest} stands) h =
      l.in_right (uses_by xs s ++ uses_in_blocks xs s) (uses_in_stmts (xs ++ declared_by s) rest) (stands_found stands h)
  stands_found (in_then {xs = xs} {start = start} {close = close} {e = e} {body = body} {rest = rest} {other = other} stands) h =
      let s = if_then start e body close other in
      l.in_left (uses_by xs s ++ uses_in_blocks xs s) (uses_in_stmts (xs ++ declared_by s) rest)
      (l.in_right (uses_by xs s) (uses_in_blocks xs s) (l.in_left (uses_in_stmts xs body) (uses_in_else xs other) (stands_found stands h)))
  stands_found (in_else {xs = xs} {start = start} {close = close} {end = end} {e = e} {body = body} {other = other} {rest = rest} stands) h =
      let s = if_then start e body close (else_do other end) in
      l.in_left (uses_by xs s ++ uses_in_blocks xs s) (uses_in_stmts (xs ++ declared_by s) rest)
      (l.in_right (uses_by xs s) (uses_in_blocks xs s) (l.in_right (uses_in_stmts xs body) (uses_in_stmts xs other) (stands_found stands h)))
  stands_found (in_while {xs = xs} {start = start} {close = close} {e = e} {body = body} {rest = rest} stands) h =
      let s = while start e body close in
      l.in_left (uses_by xs s ++ uses_in_blocks xs s) (uses_in_stmts (xs ++ declared_by s) rest)
      (l.in_right (uses_by xs s) (uses_in_blocks xs s) (stands_found stands h))

  module _ (P : Type 0) where
    mutual
      from_blocks : (xs : List LocalInScope) (s : Stmt) (rest : Stmts) →
          ((ys : List LocalInScope) (t : Stmt) → Stands xs (stmt s rest) ys t → Has (uses_by ys t) u → P) → Has (uses_in_blocks xs s) u → P
      from_blocks xs (let_local k) rest up h = elim h [ ]
      from_blocks xs (let_owned k o) rest up h = elim h [ ]
      from_blocks xs (let_call k) rest up h = elim h [ ]
      from_blocks xs (var_local k) rest up h = elim h [ ]
      from_blocks xs (assign p e) rest up h = elim h [ ]
      from_blocks xs (if_then start e body close no_else) rest up h =
          l.either (uses_in_stmts xs body) [] (from_stmts xs body (λ ys t a. up ys t (in_then a))) (λ k. elim k [ ]) h
      from_blocks xs (if_then start e body close (else_do other end)) rest up h =
          l.either (uses_in_stmts xs body) (uses_in_stmts xs other)
          (from_stmts xs body (λ ys t a. up ys t (in_then a)))
          (from_stmts xs other (λ ys t a. up ys t (in_else a))) h
      from_blocks xs (while start e body close) rest up h = from_stmts xs body (λ ys t a. up ys t (in_while a)) h
      from_blocks xs (print start e) rest up h = elim h [ ]
      from_blocks xs (return_value start e) rest up h = elim h [ ]
      from_blocks xs (tree.call start c) rest up h = elim h [ ]

      from_stmts : (xs : List LocalInScope) (ss : Stmts) →
          ((ys : List LocalInScope) (t : Stmt) → Stands xs ss ys t → Has (uses_by ys t) u → P) → Has (uses_in_stmts xs ss) u → P
      from_stmts xs no_stmts up h = elim h [ ]
      from_stmts xs (stmt s rest) up h =
          l.either (uses_by xs s ++ uses_in_blocks xs s) (uses_in_stmts (xs ++ declared_by s) rest)
          (l.either (uses_by xs s) (uses_in_blocks xs s) (up xs s here) (from_blocks xs s rest up))
          (from_stmts (xs ++ declared_by s) rest (λ ys t a. up ys t (later a))) h

  -- the type of the local that a statement declares
  declared_found : (xs : List LocalInScope) (s : Stmt) {x : LocalInScope} → Has (declared_by s) x →
      Has (uses_of_type xs x.value_type) u → Has (uses_by xs s) u
  declared_found xs (let_local k) first h = l.in_left (uses_of_type xs k.value_type) (uses_in xs k.value) h
  declared_found xs (let_owned k o) first h =
      l.in_left (uses_of_local xs k) (by_owner k.value_type o.field ∷ of_kind kind.Local xs o.local ∷ [])
      (l.in_left (uses_of_type xs k.value_type) (uses_in xs k.value) h)
  declared_found xs (let_call k) first h = l.in_left (uses_of_type xs k.value_type) (uses_of_call xs k.call) h
  declared_found xs (var_local k) first h = l.in_left (uses_of_type xs k.value_type) (uses_in xs k.value) h
  declared_found xs (let_local k) (further has) h = elim has [ ]
  declared_found xs (let_owned k o) (further has) h = elim has [ ]
  declared_found xs (let_call k) (further has) h = elim has [ ]
  declared_found xs (var_local k) (further has) h = elim has [ ]
  declared_found xs (assign p e) has h = elim has [ ]
  declared_found xs (if_then start e body close other) has h = elim has [ ]
  declared_found xs (while start e body close) has h = elim has [ ]
  declared_found xs (print start e) has h = elim has [ ]
  declared_found xs (return_value start e) has h = elim has [ ]
  declared_found xs (tree.call start c) has h = elim has [ ]

-- ---- each use is found

abbrev IsFound : List Decl → Use → Type 0
IsFound decls u = Has (flat_map (uses_of_decl []) decls) u

module _ (decls : List Decl) {u : Use} where
  decl_found : {d : Decl} → Has decls d → Has (uses_of_decl [] d) u → IsFound decls u
  decl_found has h = l.flat_in (uses_of_decl []) decls has h

  section_found : {s : Section} → HasBody decls s → Has (uses_of_section [] s) u → IsFound decls u
  section_found (of_section has) h = decl_found has h
  section_found (of_helper has) h = decl_found has h

  before_listed : {s : Section} → HasBody decls s →
      Has ((uses_of_body s ++ flat_map (uses_of_param []) s.params) ++ uses_of_result [] s.result) u → IsFound decls u
  before_listed {s = s} body h =
      section_found body (l.in_left ((uses_of_body s ++ flat_map (uses_of_param []) s.params) ++ uses_of_result [] s.result) (flat_map (uses_of_class []) s.listed) h)

  class_found : {s : Section} {c : ClassName} → HasBody decls s → Has s.listed c → Has (uses_of_class [] c) u →
      IsFound decls u
  class_found {s = s} body has h =
      section_found body (l.in_right ((uses_of_body s ++ flat_map (uses_of_param []) s.params) ++ uses_of_result [] s.result) (flat_map (uses_of_class []) s.listed) (l.flat_in (uses_of_class []) s.listed has h))

  before_result : {s : Section} → HasBody decls s → Has (uses_of_body s ++ flat_map (uses_of_param []) s.params) u →
      IsFound decls u
  before_result {s = s} body h = before_listed body (l.in_left (uses_of_body s ++ flat_map (uses_of_param []) s.params) (uses_of_result [] s.result) h)

  stmt_found : {xs : List LocalInScope} {t : Stmt} → HasStmt decls xs t → Has (uses_by xs t) u → IsFound decls u
  stmt_found (in_body {s = s} body stands) h =
      before_result body (l.in_left (uses_of_body s) (flat_map (uses_of_param []) s.params) (stands_found stands h))

  call_found : {xs : List LocalInScope} {c : HelperCall} → HasHelperCall decls xs c → Has (uses_of_call xs c) u →
      IsFound decls u
  call_found {xs = xs} (by_let {l = k} has) h = stmt_found has (l.in_right (uses_of_type xs k.value_type) (uses_of_call xs k.call) h)
  call_found (by_itself has) h = stmt_found has h

  expr_found : {xs : List LocalInScope} {e : Expr} → HasExpr decls xs e → Has (uses_in xs e) u → IsFound decls u
  expr_found {xs = xs} (of_let {l = k} has) h = stmt_found has (l.in_right (uses_of_type xs k.value_type) (uses_in xs k.value) h)
  expr_found {xs = xs} (of_owned {l = k} {o = o} has) h =
      stmt_found has (l.in_left (uses_of_local xs k) (by_owner k.value_type o.field ∷ of_kind kind.Local xs o.local ∷ [])
      (l.in_right (uses_of_type xs k.value_type) (uses_in xs k.value) h))
  expr_found {xs = xs} (of_var {l = k} has) h = stmt_found has (l.in_right (uses_of_type xs k.value_type) (uses_in xs k.value) h)
  expr_found {xs = xs} (of_assign {p = p} {e = e} has) h = stmt_found has (l.in_right (uses_at xs p) (uses_in xs e) h)
  expr_found {xs = xs} (of_index {x = x} {i = i} {e = e} has) h = stmt_found has (l.in_left (uses_at xs (element x i)) (uses_in xs e) (further h))
  expr_found (of_if has) h = stmt_found has h
  expr_found (of_while has) h = stmt_found has h
  expr_found (of_print has) h = stmt_found has h
  expr_found (of_return has) h = stmt_found has h
  expr_found {xs = xs} (of_argument {c = c} called has) h = call_found called (further (l.flat_in (uses_in xs) c.arguments has h))

  place_found : {xs : List LocalInScope} {p : Place} → HasPlace decls xs p → Has (uses_at xs p) u → IsFound decls u
  place_found {xs = xs} (is_read has k) h = expr_found has (within_found xs k h)
  place_found {xs = xs} (is_written {p = p} {e = e} has) h = stmt_found has (l.in_left (uses_at xs p) (uses_in xs e) h)

  member_found : {s : Struct} {m : Member} → Has decls (struct s) → Has s.members m →
      Has (uses_of_member [] s.name m) u → IsFound decls u
  member_found {s = s} has member h = decl_found has (l.flat_in (uses_of_member [] s.name) s.members member h)

  type_found : {xs : List LocalInScope} {t : ValueType} → HasType decls xs t → Has (uses_of_type xs t) u →
      IsFound decls u
  type_found (of_global {v = v} has) h =
      decl_found has (l.in_left (uses_of_type [] v.value_type ++ uses_of_annotation [] v.protection) (uses_of_value [] v.value)
      (l.in_left (uses_of_type [] v.value_type) (uses_of_annotation [] v.protection) h))
  type_found (of_array {a = a} has) h = decl_found has (l.in_left (uses_of_type [] a.value_type) (uses_of_annotation [] a.protection) h)
  type_found (of_pool has) h = decl_found has h
  type_found (of_final has member) h = member_found has member h
  type_found (of_field {s = s} {f = f} has member) h =
      member_found has member (l.in_left (uses_of_type [] f.value_type) (uses_of_guard [] s.name f.protection) h)
  type_found (of_parameter {s = s} body has) h =
      before_result body (l.in_right (uses_of_body s) (flat_map (uses_of_param []) s.params) (l.flat_in (uses_of_param []) s.params has h))
  type_found (of_result {s = s} body is) h =
      before_listed body (l.in_right (uses_of_body s ++ flat_map (uses_of_param []) s.params) (uses_of_result [] s.result)
      (subst (λ (o : Option ValueType). Has (uses_of_result [] o) u) (sym is) h))
  type_found (of_listed {c = c} body has) h = class_found body has (l.in_left (uses_of_type [] (ref_type c.structure)) (by_class c.structure c.lock ∷ []) h)
  type_found {xs = xs} (of_local {s = s} has declares) h = stmt_found has (declared_found xs s declares h)

  items_found : {is : Items} {c : Call} → InItems is c → Has (uses_of_section_call [] c) u → Has (uses_of_items [] is) u
  items_found (this_call {c = c} {rest = rest}) h = l.in_left (uses_of_section_call [] c) (uses_of_items [] rest) h
  items_found (in_repeat {is = is} {rest = rest} k) h = l.in_left (uses_of_items [] is) (uses_of_items [] rest) (items_found k h)
  items_found (later_call {i = i} {rest = rest} k) h = l.in_right (uses_of_item [] i) (uses_of_items [] rest) (items_found k h)

  section_call_found : {c : Call} → HasCall decls c → Has (uses_of_section_call [] c) u → IsFound decls u
  section_call_found (in_thread has k) h = decl_found has (items_found k h)

  const_found : {c : Const} → HasConst decls c → Has (uses_of_const [] c) u → IsFound decls u
  const_found (opening {v = v} has is) h =
      decl_found has (l.in_right (uses_of_type [] v.value_type ++ uses_of_annotation [] v.protection) (uses_of_value [] v.value)
      (subst (λ (o : Option Const). Has (uses_of_value [] o) u) (sym is) h))
  const_found (initial {i = i} has) h = decl_found has (l.in_right (of_kind kind.Pool [] i.pool ∷ by_init i.pool i.field ∷ []) (uses_of_const [] i.value) h)
  const_found (argument {c = c} called has) h = section_call_found called (further (l.flat_in (uses_of_const []) c.arguments has h))

  lock_found : {p : Protection} → HasLock decls p → Has (uses_of_annotation [] (Some p)) u → IsFound decls u
  lock_found (of_variable {v = v} has is) h =
      decl_found has (l.in_left (uses_of_type [] v.value_type ++ uses_of_annotation [] v.protection) (uses_of_value [] v.value)
      (l.in_right (uses_of_type [] v.value_type) (uses_of_annotation [] v.protection)
      (subst (λ (o : Option Protection). Has (uses_of_annotation [] o) u) (sym is) h)))
  lock_found (of_elements {a = a} has is) h =
      decl_found has (l.in_right (uses_of_type [] a.value_type) (uses_of_annotation [] a.protection)
      (subst (λ (o : Option Protection). Has (uses_of_annotation [] o) u) (sym is) h))

  guard_found : {s : Struct} {p : Protection} → Guards decls s p → Has (uses_of_guard [] s.name (Some p)) u →
      IsFound decls u
  guard_found (guards {s = s} {f = f} has member is) h =
      member_found has member (l.in_right (uses_of_type [] f.value_type) (uses_of_guard [] s.name f.protection)
      (subst (λ (o : Option Protection). Has (uses_of_guard [] s.name o) u) (sym is) h))

pub is_found : (decls : List Decl) {u : Use} → Uses decls u → Has (flat_map (uses_of_decl []) decls) u
is_found decls (a_value has) = place_found decls has first
is_found decls (an_element has) = place_found decls has first
is_found decls (a_base has) = place_found decls has first
is_found decls (a_way has) = place_found decls has (further first)
is_found decls (an_owner {xs = xs} {l = k} {o = o} has) =
    stmt_found decls has (l.in_right (uses_of_local xs k) (by_owner k.value_type o.field ∷ of_kind kind.Local xs o.local ∷ []) first)
is_found decls (an_owner_local {xs = xs} {l = k} {o = o} has) =
    stmt_found decls has (l.in_right (uses_of_local xs k) (by_owner k.value_type o.field ∷ of_kind kind.Local xs o.local ∷ []) (further first))
is_found decls (a_struct has) = type_found decls has first
is_found decls (a_listed_lock body has) = class_found decls body has (further first)
is_found decls (a_helper has) = call_found decls has first
is_found decls (a_section has) = section_call_found decls has first
is_found decls (a_pool has) = const_found decls has first
is_found decls (a_pool_given has) = decl_found decls has first
is_found decls (a_field_given has) = decl_found decls has (further first)
is_found decls (a_lock has) = lock_found decls has first
is_found decls (a_guard has) = guard_found decls has first
is_found decls (a_guard_way has) = guard_found decls has (further first)

-- ---- each name that is found is in use

module _ (decls : List Decl) where
  own_used : {xs : List LocalInScope} {u : Use} (p : Place) → HasPlace decls xs p → Has (own xs p) u → Uses decls u
  own_used (lone x) has first = a_value has
  own_used (lone x) has (further h) = elim h [ ]
  own_used (element x e) has first = an_element has
  own_used (element x e) has (further h) = elim h [ ]
  own_used (path x fs) has first = a_base has
  own_used (path x fs) has (further first) = a_way has
  own_used (path x fs) has (further (further h)) = elim h [ ]

  read_used : {xs : List LocalInScope} {u : Use} {e : Expr} → HasExpr decls xs e → Has (uses_in xs e) u → Uses decls u
  read_used {xs = xs} {u = u} {e = e} has h = from_expr xs (Uses decls u) Anything e (λ v p k. own_used p (is_read has k)) h

  written_used : {xs : List LocalInScope} {u : Use} (p : Place) {e : Expr} → HasStmt decls xs (assign p e) →
      Has (uses_at xs p) u → Uses decls u
  written_used (lone x) has h = own_used (lone x) (is_written has) h
  written_used {xs = xs} (element x i) has h =
      l.either (own xs (element x i)) (uses_in xs i) (own_used (element x i) (is_written has)) (read_used (of_index has)) h
  written_used (path x fs) has h = own_used (path x fs) (is_written has) h

  type_used : {xs : List LocalInScope} {u : Use} (t : ValueType) → HasType decls xs t → Has (uses_of_type xs t) u →
      Uses decls u
  type_used int_type has h = elim h [ ]
  type_used (ref_type x) has first = a_struct has
  type_used (ref_type x) has (further h) = elim h [ ]

  call_used : {xs : List LocalInScope} {u : Use} {c : HelperCall} → HasHelperCall decls xs c →
      Has (uses_of_call xs c) u → Uses decls u
  call_used has first = a_helper has
  call_used {xs = xs} {c = c} has (further h) = l.flat_from (uses_in xs) c.arguments (λ e one. read_used (of_argument has one)) h

  local_used : {xs : List LocalInScope} {u : Use} (k : tree.Local) → HasType decls xs k.value_type →
      HasExpr decls xs k.value → Has (uses_of_local xs k) u → Uses decls u
  local_used {xs = xs} k one other h = l.either (uses_of_type xs k.value_type) (uses_in xs k.value) (type_used k.value_type one) (read_used other) h

  owner_used : {xs : List LocalInScope} {u : Use} {k : tree.Local} {o : tree.Owner} → HasStmt decls xs (let_owned k o) →
      Has (by_owner k.value_type o.field ∷ of_kind kind.Local xs o.local ∷ []) u → Uses decls u
  owner_used has first = an_owner has
  owner_used has (further first) = an_owner_local has
  owner_used has (further (further h)) = elim h [ ]

  stmt_used : {xs : List LocalInScope} {u : Use} (s : Stmt) → HasStmt decls xs s → Has (uses_by xs s) u → Uses decls u
  stmt_used (let_local k) has h = local_used k (of_local has first) (of_let has) h
  stmt_used {xs = xs} (let_owned k o) has h =
      l.either (uses_of_local xs k) (by_owner k.value_type o.field ∷ of_kind kind.Local xs o.local ∷ [])
      (local_used k (of_local has first) (of_owned has)) (owner_used has) h
  stmt_used {xs = xs} (let_call k) has h =
      l.either (uses_of_type xs k.value_type) (uses_of_call xs k.call) (type_used k.value_type (of_local has first)) (call_used (by_let has)) h
  stmt_used (var_local k) has h = local_used k (of_local has first) (of_var has) h
  stmt_used {xs = xs} (assign p e) has h = l.either (uses_at xs p) (uses_in xs e) (written_used p has) (read_used (of_assign has)) h
  stmt_used (if_then start e body close other) has h = read_used (of_if has) h
  stmt_used (while start e body close) has h = read_used (of_while has) h
  stmt_used (print start e) has h = read_used (of_print has) h
  stmt_used (return_value start e) has h = read_used (of_return has) h
  stmt_used (tree.call start c) has h = call_used (by_itself has) h

  const_used : {u : Use} (c : Const) → HasConst decls c → Has (uses_of_const [] c) u → Uses decls u
  const_used (int_const n) has h = elim h [ ]
  const_used (negative sign n) has h = elim h [ ]
  const_used (null_const s) has h = elim h [ ]
  const_used (member_const p n) has first = a_pool has
  const_used (member_const p n) has (further h) = elim h [ ]

  value_used : {u : Use} {v : Variable} → Has decls (global v) → (o : Option Const) → v.value ≡ o →
      Has (uses_of_value [] o) u → Uses decls u
  value_used has (Some c) is h = const_used c (opening has is) h
  value_used has None is h = elim h [ ]

  section_call_used : {u : Use} {c : Call} → HasCall decls c → Has (uses_of_section_call [] c) u → Uses decls u
  section_call_used has first = a_section has
  section_call_used {c = c} has (further h) = l.flat_from (uses_of_const []) c.arguments (λ x one. const_used x (argument has one)) h

  in_front : (i : Item) (rest : Items) (c : Call) → InItems (item i no_items) c → InItems (item i rest) c
  in_front i rest c this_call = this_call
  in_front i rest c (in_repeat k) = in_repeat k
  in_front i rest c (later_call k) = elim k [ ]

  mutual
    item_used : {u : Use} (i : Item) → ((c : Call) → InItems (item i no_items) c → HasCall decls c) →
        Has (uses_of_item [] i) u → Uses decls u
    item_used (call c) up h = section_call_used (up c this_call) h
    item_used (repeat n is) up h = items_used is (λ c k. up c (in_repeat k)) h

    items_used : {u : Use} (is : Items) → ((c : Call) → InItems is c → HasCall decls c) →
        Has (uses_of_items [] is) u → Uses decls u
    items_used no_items up h = elim h [ ]
    items_used (item i rest) up h =
        l.either (uses_of_item [] i) (uses_of_items [] rest) (item_used i (λ c k. up c (in_front i rest c k))) (items_used rest (λ c k. up c (later_call k))) h

  annotation_used : {u : Use} (o : Option Protection) → ((p : Protection) → o ≡ Some p → HasLock decls p) →
      Has (uses_of_annotation [] o) u → Uses decls u
  annotation_used (Some p) up first = a_lock (up p refl)
  annotation_used (Some p) up (further h) = elim h [ ]
  annotation_used None up h = elim h [ ]

  guard_used : {u : Use} {s : Struct} (o : Option Protection) → ((p : Protection) → o ≡ Some p → Guards decls s p) →
      Has (uses_of_guard [] s.name o) u → Uses decls u
  guard_used (Some p) up first = a_guard (up p refl)
  guard_used (Some p) up (further first) = a_guard_way (up p refl)
  guard_used (Some p) up (further (further h)) = elim h [ ]
  guard_used None up h = elim h [ ]

  member_used : {u : Use} {s : Struct} → Has decls (struct s) → (m : Member) → Has s.members m →
      Has (uses_of_member [] s.name m) u → Uses decls u
  member_used has (lock_member x) one h = elim h [ ]
  member_used has (final_member f) one h = type_used (ref_type f.target) (of_final has one) h
  member_used {s = s} has (field_member f) one h =
      l.either (uses_of_type [] f.value_type) (uses_of_guard [] s.name f.protection)
      (type_used f.value_type (of_field has one))
      (guard_used f.protection (λ p is. guards has one is)) h

  result_used : {u : Use} {s : Section} → HasBody decls s → (o : Option ValueType) → s.result ≡ o →
      Has (uses_of_result [] o) u → Uses decls u
  result_used body (Some t) is h = type_used t (of_result body is) h
  result_used body None is h = elim h [ ]

  class_used : {u : Use} {s : Section} → HasBody decls s → (c : ClassName) → Has s.listed c →
      Has (uses_of_class [] c) u → Uses decls u
  class_used body c has first = a_struct (of_listed body has)
  class_used body c has (further first) = a_listed_lock body has
  class_used body c has (further (further h)) = elim h [ ]

  section_used : {u : Use} (s : Section) → HasBody decls s → Has (uses_of_section [] s) u → Uses decls u
  section_used {u = u} s body h =
      l.either ((uses_of_body s ++ flat_map (uses_of_param []) s.params) ++ uses_of_result [] s.result) (flat_map (uses_of_class []) s.listed)
      (l.either (uses_of_body s ++ flat_map (uses_of_param []) s.params) (uses_of_result [] s.result)
      (l.either (uses_of_body s) (flat_map (uses_of_param []) s.params)
      (from_stmts (Uses decls u) (map param_in_scope s.params) s.body.stmts (λ ys t stands. stmt_used t (in_body body stands)))
      (l.flat_from (uses_of_param []) s.params (λ p has. type_used p.value_type (of_parameter body has))))
      (result_used body s.result refl))
      (l.flat_from (uses_of_class []) s.listed (class_used body)) h

  init_used : {u : Use} {i : Init} → Has decls (init i) →
      Has (of_kind kind.Pool [] i.pool ∷ by_init i.pool i.field ∷ []) u → Uses decls u
  init_used has first = a_pool_given has
  init_used has (further first) = a_field_given has
  init_used has (further (further h)) = elim h [ ]

  decl_used : {u : Use} (d : Decl) → Has decls d → Has (uses_of_decl [] d) u → Uses decls u
  decl_used (lock x) has h = elim h [ ]
  decl_used (struct s) has h = l.flat_from (uses_of_member [] s.name) s.members (member_used has) h
  decl_used (global v) has h =
      l.either (uses_of_type [] v.value_type ++ uses_of_annotation [] v.protection) (uses_of_value [] v.value)
      (l.either (uses_of_type [] v.value_type) (uses_of_annotation [] v.protection)
      (type_used v.value_type (of_global has)) (annotation_used v.protection (λ p is. of_variable has is)))
      (value_used has v.value refl) h
  decl_used (array a) has h =
      l.either (uses_of_type [] a.value_type) (uses_of_annotation [] a.protection)
      (type_used a.value_type (of_array has)) (annotation_used a.protection (λ p is. of_elements has is)) h
  decl_used (pool p) has h = type_used (ref_type p.target) (of_pool has) h
  decl_used (init i) has h =
      l.either (of_kind kind.Pool [] i.pool ∷ by_init i.pool i.field ∷ []) (uses_of_const [] i.value)
      (init_used has) (const_used i.value (initial has)) h
  decl_used (atomic s) has h = section_used s (of_section has) h
  decl_used (helper s) has h = section_used s (of_helper has) h
  decl_used (thread t) has h = items_used t.items (λ c k. in_thread has k) h

  pub is_used : {u : Use} → Has (flat_map (uses_of_decl []) decls) u → Uses decls u
  is_used h = l.flat_from (uses_of_decl []) decls decl_used h
