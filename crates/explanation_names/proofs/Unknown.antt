-- Each unknown name is looked up in some use.
use Rattle.std.proofs.Common.{◌≡◌, ℕ, zero, suc, List, [], ◌∷◌, ◌++◌, Option, Some, map, refl, sym, subst}
use Rattle.std.specs.Prelude.{slice_get}
use Rattle.resolution.specs.declared.wanted.Want.{Want}
use Rattle.resolution.specs.declared.body_limits.BodyLimits.{BodyLimits}
use Rattle.resolution.specs.Faults as fault
use Rattle.resolution.specs.Faults.{IsUnknown, Reaches, Walks, NamesGlobal}
use Rattle.resolution.specs.Where as there
use Rattle.resolution.specs.Where.{Has, first, further}
use Rattle.resolution.specs.Scopes.{Scope}
use Rattle.resolution.specs.Statements.{first_name}
use Rattle.resolution.specs.Annotations.{AnnotationCursor}
use Rattle.syntax.specs.Trees.{Ident, ValueType, Const, Place, lone, element, path, Expr, HelperCall, Stmt, Stmts}
use Rattle.syntax.specs.Trees.{Struct, Member, Protection, Section, Decl}
use Rattle.explanation_names.specs.Working.Laws.{IsSoughtAt, seekers}
use Rattle.explanation_names.specs.Locals.{LocalInScope, Stands, here, later, in_then, in_else, in_while, declared_by}
use Rattle.explanation_names.specs.Locals.{param_in_scope, HasBody, of_section, of_helper, HasStmt, in_body}
use Rattle.explanation_names.specs.Sought.{Use, Uses, a_value, an_element, a_base, a_way, an_owner, an_owner_local}
use Rattle.explanation_names.specs.Sought.{a_struct, a_listed_lock, a_helper, a_section, a_pool, a_pool_given, a_field_given, a_lock}
use Rattle.explanation_names.specs.Sought.{a_guard, a_guard_way, HasExpr, of_let, of_owned, of_var, of_assign}
use Rattle.explanation_names.specs.Sought.{of_index, of_if, of_while, of_print, of_return, of_argument, HasHelperCall}
use Rattle.explanation_names.specs.Sought.{by_let, by_itself, HasPlace, is_read, is_written, HasType, of_global}
use Rattle.explanation_names.specs.Sought.{of_array, of_pool, of_final, of_field, of_parameter, of_result, of_listed}
use Rattle.explanation_names.specs.Sought.{of_local, HasConst, opening, initial, argument, Guards, guards}
use Rattle.explanation_names.proofs.Lists as l

has_at : {A : Type 0} (xs : List A) (k : ℕ) {x : A} → slice_get xs k ≡ Some x → Has xs x
has_at [] k is = absurd cc
has_at {A = A} (y ∷ xs) zero {x = x} is = let e : y ≡ x = cc in subst (λ (z : A). Has (y ∷ xs) z) e first
has_at (y ∷ xs) (suc k) is = further (has_at xs k is)

-- the locals in scope somewhere, which have the property
record Scoped (P : List LocalInScope → Type 0) : Type 0 where
  locals : List LocalInScope
  holds : P locals

to_stands : {sc last : Scope} {ss : Stmts} {t : Stmt} → there.Among sc ss last t → (xs : List LocalInScope) →
    Scoped (λ ys. Stands xs ss ys t)
to_stands there.here xs = record { locals = xs; holds = here }
to_stands (there.later {s = s} a) xs = let b = to_stands a (xs ++ declared_by s) in record { locals = b.locals; holds = later b.holds }
to_stands (there.in_then a) xs = let b = to_stands a xs in record { locals = b.locals; holds = in_then b.holds }
to_stands (there.in_else a) xs = let b = to_stands a xs in record { locals = b.locals; holds = in_else b.holds }
to_stands (there.in_while a) xs = let b = to_stands a xs in record { locals = b.locals; holds = in_while b.holds }

passed : {ds : List Decl} {o : Option (ℕ × Section)} {es : List Expr} {w : Want} {e : Expr} →
    there.IsArgument ds o es w e → Has es e
passed (there.for_parameter k {es = es} long taken given) = has_at es k given
passed (there.for_nothing has) = has

module _ (decls : List Decl) where
  body : {limits : BodyLimits} {x : Section} → there.HasBody decls limits x → HasBody decls x
  body (there.of_section has) = of_section has
  body (there.of_helper has) = of_helper has

  stmt : {sc : Scope} {s : Stmt} → there.HasStmt decls sc s → Scoped (λ xs. HasStmt decls xs s)
  stmt (there.in_body {x = x} b a) =
      let c = to_stands a (map param_in_scope x.params) in record { locals = c.locals; holds = in_body (body b) c.holds }

  helper_call : {sc : Scope} {c : HelperCall} → there.HasHelperCall decls sc c → Scoped (λ xs. HasHelperCall decls xs c)
  helper_call (there.by_let has) = let s = stmt has in record { locals = s.locals; holds = by_let s.holds }
  helper_call (there.by_itself has) = let s = stmt has in record { locals = s.locals; holds = by_itself s.holds }

  asked : {xs : List LocalInScope} {sc : Scope} {s : Stmt} {w : Want} {e : Expr} → there.Asks sc s w e →
      HasStmt decls xs s → HasExpr decls xs e
  asked there.of_let has = of_let has
  asked there.of_owned has = of_owned has
  asked (there.of_let_call is) has = of_argument (by_let has) (passed is)
  asked there.of_var has = of_var has
  asked (there.of_assign left) has = of_assign has
  asked (there.of_unassignable never) has = of_assign has
  asked there.of_index has = of_index has
  asked there.of_if has = of_if has
  asked there.of_while has = of_while has
  asked there.of_print has = of_print has
  asked there.of_return has = of_return has
  asked (there.of_call_alone is) has = of_argument (by_itself has) (passed is)

  place : {sc : Scope} {p : Place} → there.HasPlace decls sc p → Scoped (λ xs. HasPlace decls xs p)
  place (there.is_read (there.in_stmt has asks within)) =
      let s = stmt has in record { locals = s.locals; holds = is_read (asked asks s.holds) within }
  place (there.is_written has) = let s = stmt has in record { locals = s.locals; holds = is_written s.holds }

  type : {sc : Scope} {t : ValueType} → there.HasType decls sc t → Scoped (λ xs. HasType decls xs t)
  type (there.of_global has) = record { locals = []; holds = of_global has }
  type (there.of_array has) = record { locals = []; holds = of_array has }
  type (there.of_pool has) = record { locals = []; holds = of_pool has }
  type (there.of_final has member) = record { locals = []; holds = of_final has member }
  type (there.of_field has member) = record { locals = []; holds = of_field has member }
  type (there.of_parameter b has) = record { locals = []; holds = of_parameter (body b) has }
  type (there.of_result b is) = record { locals = []; holds = of_result (body b) is }
  type (there.of_listed b has) = record { locals = []; holds = of_listed (body b) has }
  type (there.of_a_let has) = let s = stmt has in record { locals = s.locals; holds = of_local s.holds first }
  type (there.of_an_owned_let has) = let s = stmt has in record { locals = s.locals; holds = of_local s.holds first }
  type (there.of_a_called_let has) = let s = stmt has in record { locals = s.locals; holds = of_local s.holds first }
  type (there.of_a_var has) = let s = stmt has in record { locals = s.locals; holds = of_local s.holds first }

  constant : {w : Want} {c : Const} → there.HasConst decls w c → HasConst decls c
  constant (there.opening has is) = opening has is
  constant (there.initial has) = initial has
  constant (there.argument {c = c} k called target long taken given) = argument called (has_at c.arguments k given)

  -- ---- annotations

  record GuardOf (p : Protection) : Type 0 where
    structure : Struct
    guarded : Guards decls structure p

  guard : {i : ℕ} {ms : List Member} {p : Protection} → there.Annotates decls i ms p → GuardOf p
  guard (there.annotates {i = i} {s = s} at_place member is) = record { structure = s; guarded = guards (has_at decls i at_place) member is }

  reached : {start last : AnnotationCursor} {y x : Ident} {ys xs : List Ident} → Reaches decls start y ys last x xs →
      Has (y ∷ ys) x
  reached fault.stays = first
  reached (fault.goes_on is reaches) = further (reached reaches)

  -- ---- each unknown name

  by_one : {u : Use} {n : Ident} → Uses decls u → Has (seekers u) n → IsSoughtAt decls n.span.start
  by_one {u = u} {n = n} used listed = record { meant = u; used = used; name = n; listed = listed; begins = refl }

  by_place : {sc : Scope} (p : Place) → there.HasPlace decls sc p → IsSoughtAt decls (first_name p).span.start
  by_place (lone x) has = by_one (a_value (place has).holds) first
  by_place (element x e) has = by_one (an_element (place has).holds) first
  by_place (path x fs) has = by_one (a_base (place has).holds) first

  among : (before behind : List Ident) (f : Ident) → Has (before ++ f ∷ behind) f
  among before behind f = l.in_right before (f ∷ behind) first

  owner_field : {ms : List Member} {f : Ident} → there.NamesOwner decls ms f → IsSoughtAt decls f.span.start
  owner_field (there.names_owner has typed is) = by_one (an_owner (stmt has).holds) first

  class_lock : {ms : List Member} {x : Ident} → there.ListsLock decls ms x → IsSoughtAt decls x.span.start
  class_lock (there.lists_lock b has is) = by_one (a_listed_lock (body b) has) first

  lock_named : {p : Protection} → NamesGlobal decls p → IsSoughtAt decls p.first.span.start
  lock_named (fault.of_global has) = by_one (a_lock has) first
  lock_named (fault.no_member annotates none) = by_one (a_guard (guard annotates).guarded) first

  member_passed : {p : Protection} {start : AnnotationCursor} {y : Ident} {ys : List Ident} →
      Walks decls p start y ys → IsSoughtAt decls y.span.start
  member_passed (fault.walks annotates own reaches) = by_one (a_guard_way (guard annotates).guarded) (reached reaches)

  pub sought_at : (at : ℕ) → IsUnknown decls at → IsSoughtAt decls at
  sought_at at (fault.in_place {p = p} has none) = by_place p has
  sought_at at (fault.in_type has none) = by_one (a_struct (type has).holds) first
  sought_at at (fault.in_call has none) = by_one (a_section has) first
  sought_at at (fault.in_helper_call has none) = by_one (a_helper (helper_call has).holds) first
  sought_at at (fault.in_const has none) = by_one (a_pool (constant has)) first
  sought_at at (fault.in_init has none) = by_one (a_pool_given has) first
  sought_at at (fault.no_field_initialised has ms none) = by_one (a_field_given has) first
  sought_at at (fault.no_field {fs = fs} before behind f steps k has is walk struct none) =
      by_one (a_way (place has).holds) (subst (λ (xs : List Ident). Has xs f) (sym is) (among before behind f))
  sought_at at (fault.no_final names none) = owner_field names
  sought_at at (fault.no_member_listed lists none) = class_lock lists
  sought_at at (fault.no_owner has none) = by_one (an_owner_local (stmt has).holds) first
  sought_at at (fault.no_lock names none) = lock_named names
  sought_at at (fault.no_field_passed walk none) = member_passed walk
