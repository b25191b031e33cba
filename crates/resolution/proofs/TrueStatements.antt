-- Each fault that is listed for a statement or a section is a fault of the program.
use Rattle.std.proofs.Common.{◌≡◌, ℕ, suc, ◌+◌, ◌≤◌, List, [], ◌∷◌, ◌++◌, length, Option, Some, None, Bool, true, false}
use Rattle.std.proofs.Common.{refl, sym, ap, ◌∙◌, subst, if◌then◌else◌, append_assoc, arith}
use Rattle.std.specs.Prelude.{nat_le, not, is_some, ◌==◌, slice_get}
use Rattle.std.proofs.lemmas.Bool.{eqb-true}
use Rattle.std.proofs.lemmas.Bool.Decides.{nat_tests}
use Rattle.source.specs.declared.span.Span.{Span}
use Rattle.source.specs.declared.fault.Code.TheVariants.{DeclaredTwice, UnknownName, WrongType, WrongArgumentCount}
use Rattle.source.specs.declared.fault.Code.TheVariants.{NotAssignable, LimitExceeded, LockAsValue}
use Rattle.syntax.specs.Trees as tree
use Rattle.syntax.specs.Trees.{Ident, ValueType, ref_type, Place, lone, element, path, Expr, Owner, HelperCall, CalledLocal, Stmt}
use Rattle.syntax.specs.Trees.{let_local, let_owned, let_call, var_local, assign, if_then, while, print, return_value}
use Rattle.syntax.specs.Trees.{call, Stmts, no_stmts, stmt, Otherwise, no_else, else_do, Member, lock_member}
use Rattle.syntax.specs.Trees.{final_member, field_member, Struct, Param, ClassName, Section, Decl, lock, struct, global, array}
use Rattle.syntax.specs.Trees.{pool, init, atomic, helper, thread}
use Rattle.core_lang.specs.declared.value.ValueType as core_type
use Rattle.core_lang.specs.declared.value.ValueType.TheVariants.{Integer, Reference}
use Rattle.core_lang.specs.declared.tree.LocalKind.TheVariants as kind
use Rattle.resolution.specs.declared.finding.Finding.{Finding}
use Rattle.resolution.specs.declared.wanted.Sort.TheVariants as sort
use Rattle.resolution.specs.declared.why.Role.TheVariants as role
use Rattle.resolution.specs.declared.wanted.Want.{Want}
use Rattle.resolution.specs.declared.wanted.Want.TheVariants.{Anything, Condition, Value}
use Rattle.resolution.specs.declared.body_limits.BodyLimits.{BodyLimits}
use Rattle.resolution.specs.Scopes.{Scope, Local, outside, Meaning, a_local, a_decl, nothing, meaning, helper_meant}
use Rattle.resolution.specs.Scopes.{the_decl, the_struct, the_member, the_local, has_type, member_has_type, type_of}
use Rattle.resolution.specs.Scopes.{place_of, same_class, result_of, bound, entered, left}
use Rattle.resolution.specs.Expressions.{fits_type, want, Walk, reached, at_lock, lost, walk_from}
use Rattle.resolution.specs.declared.owner_field.OwnerField.{OwnerField}
use Rattle.resolution.specs.Working.TypedOwners.{owner_field}
use Rattle.resolution.specs.Statements.{is_var, after, after_else, after_all}
use Rattle.resolution.specs.Working.TypedStatements.{last_field, target_of, wanted_by}
use Rattle.resolution.specs.Constants.{want_of}
use Rattle.resolution.specs.Statements.{ahead_of, entry}
use Rattle.resolution.specs.Where as site
use Rattle.resolution.specs.Where.{Has, first, further, Among, here, later, in_then, in_else, in_while, IsArgument}
use Rattle.resolution.specs.Where.{for_parameter, for_nothing, Asks, of_let, of_owned, of_let_call, of_var, of_index}
use Rattle.resolution.specs.Where.{of_while, of_print, of_return, of_call_alone, HasBody, HasStmt, in_body}
use Rattle.resolution.specs.Where.{HasHelperCall, by_let, by_itself, in_stmt, is_written, Binds, parameter, a_let}
use Rattle.resolution.specs.Where.{an_owned_let, a_called_let, a_var, HasType, of_parameter, of_result, of_a_let}
use Rattle.resolution.specs.Where.{of_an_owned_let, of_a_called_let, of_a_var, NamesOwner, names_owner}
use Rattle.resolution.specs.Where.{of_listed, ListsLock, lists_lock}
use Rattle.resolution.specs.Faults as fault
use Rattle.resolution.specs.Faults.{IsNoValue, IsNoHelper, declared_twice, unknown, for_type, for_count}
use Rattle.resolution.specs.Faults.{for_target, over_limit, lock_as_value}
use Rattle.resolution.proofs.OwnerRules.{asks_right, ends_with_none, final_types}
use Rattle.resolution.specs.Working.FaultLists as list
use Rattle.resolution.specs.Working.FaultLists.{one_if, misnamed, no_elements, path_faults, wanted_faults, type_faults}
use Rattle.resolution.specs.Working.FaultLists.{taken, local_faults, no_target, no_array, final_faults, target_faults}
use Rattle.resolution.specs.Working.FaultLists.{binding_faults, no_final_in, owner_field_faults, other_type}
use Rattle.resolution.specs.Working.FaultLists.{owner_faults, values_faults, each_value_faults, passed_values_faults}
use Rattle.resolution.specs.Working.FaultLists.{helper_call_faults, other_result, given_back_faults, called_faults}
use Rattle.resolution.specs.Working.FaultLists.{stmt_faults, else_faults, stmts_faults, param_faults, result_faults}
use Rattle.resolution.specs.Working.FaultLists.{again, no_lock_in, listed_faults, section_faults}
use Rattle.resolution.specs.Theory.Leasts.{IsOneOf}
use Rattle.resolution.proofs.Members.{IsTrue_of, both, of_reason, of_reason_if, of_one, of_if}
use Rattle.resolution.proofs.TrueExpressions.{misfit_if, true_type, true_elements, true_path, true_wanted, none_is}
use Rattle.resolution.proofs.Tests.{le_of}
use Rattle.resolution.specs.Theory.Blocks.{after_decls, entered_decls}

-- ---- locals

true_taken : (decls : List Decl) (sc : Scope) (x : Ident) → Binds decls sc x →
    (l : Option (ℕ × Local)) (d : Option (ℕ × Decl)) → the_local sc.locals x.text ≡ l → the_decl decls x.text ≡ d →
    (f : Finding) → IsOneOf f (taken x.span.start l d) → IsTrue_of decls f
true_taken decls sc x h None None p q f i = absurd i
true_taken decls sc x h None (Some d) p q f i = of_one decls DeclaredTwice tt x.span.start f (declared_twice (fault.top_level h q)) i
true_taken decls sc x h (Some l) d p q f i = of_one decls DeclaredTwice tt x.span.start f (declared_twice (fault.two_locals h p)) i

true_local : (sc : Scope) (x : Ident) → Binds sc.decls sc x → (f : Finding) → IsOneOf f (local_faults sc x) →
    IsTrue_of sc.decls f
true_local sc x h f i =
    both f (taken x.span.start (the_local sc.locals x.text) (the_decl sc.decls x.text)) (one_if (nat_le sc.limits.locals (length sc.locals)) LimitExceeded x.span.start)
    (true_taken sc.decls sc x h (the_local sc.locals x.text) (the_decl sc.decls x.text) refl refl f)
    (of_if sc.decls (nat_le sc.limits.locals (length sc.locals)) LimitExceeded tt x.span.start f (λ e. over_limit (fault.too_many_locals h (le_of sc.limits.locals (length sc.locals) e)))) i

-- ---- left sides

true_asked : (sc : Scope) (s : Stmt) (w : Want) (e : Expr) → HasStmt sc.decls sc s → Asks sc s w e → (f : Finding) →
    IsOneOf f (wanted_faults sc w e) → IsTrue_of sc.decls f
true_asked sc s w e h asks f i = true_wanted sc w e (λ v x within. in_stmt h asks within) f i

fixed_if : (sc : Scope) (x : Ident) (e : Expr) (n : ℕ) (l : Local) → HasStmt sc.decls sc (assign (lone x) e) →
    meaning sc x.text ≡ a_local n l → (b : Bool) → is_var l.kind ≡ b → (f : Finding) →
    IsOneOf f (if b then [] else misnamed sc.decls NotAssignable role.Target x.span.start (a_local n l)) → IsTrue_of sc.decls f
fixed_if sc x e n l h is true v f i = absurd i
fixed_if sc x e n l h is false v f i = of_reason_if sc.decls (has_type sc.decls (a_local n l)) NotAssignable x.span.start f (λ t. for_target (fault.to_fixed h is v t)) i

true_no_target : (sc : Scope) (x : Ident) (e : Expr) (k : ℕ) (d : Decl) → HasStmt sc.decls sc (assign (lone x) e) →
    meaning sc x.text ≡ a_decl k d → IsNoValue d → (f : Finding) →
    IsOneOf f (misnamed sc.decls NotAssignable role.Target x.span.start (a_decl k d)) → IsTrue_of sc.decls f
true_no_target sc x e k d h is not_so f i = of_reason_if sc.decls (has_type sc.decls (a_decl k d)) NotAssignable x.span.start f (λ t. for_target (fault.to_decl h is not_so t)) i

true_target_name : (sc : Scope) (x : Ident) (e : Expr) → HasStmt sc.decls sc (assign (lone x) e) → (m : Meaning) →
    meaning sc x.text ≡ m → (f : Finding) → IsOneOf f (no_target sc.decls x.span.start m) → IsTrue_of sc.decls f
true_target_name sc x e h (a_local n l) is f i = fixed_if sc x e n l h is (is_var l.kind) refl f i
true_target_name sc x e h (a_decl n (global v)) is f i = absurd i
true_target_name sc x e h (a_decl n (lock y)) is f i = of_one sc.decls LockAsValue tt x.span.start f (lock_as_value (fault.global_lock (is_written h) is)) i
true_target_name sc x e h (a_decl n (struct s)) is f i = true_no_target sc x e n (struct s) h is tt f i
true_target_name sc x e h (a_decl n (array a)) is f i = true_no_target sc x e n (array a) h is tt f i
true_target_name sc x e h (a_decl n (pool p)) is f i = true_no_target sc x e n (pool p) h is tt f i
true_target_name sc x e h (a_decl n (init j)) is f i = true_no_target sc x e n (init j) h is tt f i
true_target_name sc x e h (a_decl n (atomic s)) is f i = true_no_target sc x e n (atomic s) h is tt f i
true_target_name sc x e h (a_decl n (helper s)) is f i = true_no_target sc x e n (helper s) h is tt f i
true_target_name sc x e h (a_decl n (thread t)) is f i = true_no_target sc x e n (thread t) h is tt f i
true_target_name sc x e h nothing is f i = of_one sc.decls UnknownName tt x.span.start f (unknown (fault.in_place (is_written h) is)) i

true_array : (sc : Scope) (x : Ident) (j e : Expr) → HasStmt sc.decls sc (assign (element x j) e) → (m : Meaning) →
    meaning sc x.text ≡ m → (f : Finding) → IsOneOf f (no_array sc.decls x.span.start m) → IsTrue_of sc.decls f
true_array sc x j e h (a_decl n (pool p)) is f i = of_reason_if sc.decls (has_type sc.decls (a_decl n (pool p))) NotAssignable x.span.start f (λ t. for_target (fault.to_member h is t)) i
true_array sc x j e h (a_decl n (lock y)) is f i = absurd i
true_array sc x j e h (a_decl n (struct s)) is f i = absurd i
true_array sc x j e h (a_decl n (global v)) is f i = absurd i
true_array sc x j e h (a_decl n (array a)) is f i = absurd i
true_array sc x j e h (a_decl n (init k)) is f i = absurd i
true_array sc x j e h (a_decl n (atomic s)) is f i = absurd i
true_array sc x j e h (a_decl n (helper s)) is f i = absurd i
true_array sc x j e h (a_decl n (thread t)) is f i = absurd i
true_array sc x j e h (a_local n l) is f i = absurd i
true_array sc x j e h nothing is f i = absurd i

true_final : (sc : Scope) (x : Ident) (fs : List Ident) (e : Expr) → HasStmt sc.decls sc (assign (path x fs) e) →
    (w : Walk) → walk_from sc.decls (meaning sc x.text) fs ≡ w → (f : Finding) →
    IsOneOf f (final_faults x.span.start w) → IsTrue_of sc.decls f
true_final sc x fs e h (reached steps t) is f i = of_reason_if sc.decls (not (is_some (last_field steps))) NotAssignable x.span.start f (λ b. for_target (fault.to_final steps t h is (λ base k n. ends_with_none steps base k n (none_is (last_field steps) b)))) i
true_final sc x fs e h at_lock is f i = absurd i
true_final sc x fs e h lost is f i = absurd i

true_target : (sc : Scope) (p : Place) (e : Expr) → HasStmt sc.decls sc (assign p e) → (f : Finding) →
    IsOneOf f (target_faults sc p) → IsTrue_of sc.decls f
true_target sc (lone x) e h f i = true_target_name sc x e h (meaning sc x.text) refl f i
true_target sc (element x j) e h f i =
    both f (no_elements sc.decls x.span.start (meaning sc x.text) ++ no_array sc.decls x.span.start (meaning sc x.text)) (wanted_faults sc (Value Integer) j)
    (both f (no_elements sc.decls x.span.start (meaning sc x.text)) (no_array sc.decls x.span.start (meaning sc x.text))
    (true_elements sc x j (is_written h) (meaning sc x.text) refl f)
    (true_array sc x j e h (meaning sc x.text) refl f))
    (true_asked sc (assign (element x j) e) (Value Integer) j h of_index f) i
true_target sc (path x fs) e h f i =
    both f (path_faults sc.decls x.span.start (meaning sc x.text) fs) (final_faults x.span.start (walk_from sc.decls (meaning sc x.text) fs))
    (true_path sc x fs (is_written h) (meaning sc x.text) refl f)
    (true_final sc x fs e h (walk_from sc.decls (meaning sc x.text) fs) refl f) i

-- ---- what follows `where`

true_no_final : (decls : List Decl) (ms : List Member) (y : Ident) → NamesOwner decls ms y →
    (m : Option (ℕ × Member)) → the_member ms y.text ≡ m → (f : Finding) →
    IsOneOf f (list.no_final decls y.span.start m) → IsTrue_of decls f
true_no_final decls ms y h None is f i = of_one decls UnknownName tt y.span.start f (unknown (fault.no_final h is)) i
true_no_final decls ms y h (Some (n, lock_member x)) is f i = of_one decls LockAsValue tt y.span.start f (lock_as_value (fault.lock_as_owner h is)) i
true_no_final decls ms y h (Some (n, final_member x)) is f i = absurd i
true_no_final decls ms y h (Some (n, field_member x)) is f i = of_reason_if decls (member_has_type decls (field_member x)) WrongType y.span.start f (λ t. for_type (fault.not_final h is t)) i

module _ (sc : Scope) (l : tree.Local) (o : Owner) (h : HasStmt sc.decls sc (let_owned l o)) where
  true_owner_struct : (k : ℕ) → type_of sc l.value_type ≡ Some (Reference k) → (s : Option Struct) →
      the_struct sc.decls k ≡ s → (f : Finding) → IsOneOf f (no_final_in sc.decls s o.field) → IsTrue_of sc.decls f
  true_owner_struct k t None is f i = absurd i
  true_owner_struct k t (Some s) is f i = true_no_final sc.decls s.members o.field (names_owner h t is) (the_member s.members o.field.text) refl f i

  true_owner_field : (t : Option core_type.ValueType) → type_of sc l.value_type ≡ t → (f : Finding) →
      IsOneOf f (owner_field_faults sc.decls t o.field) → IsTrue_of sc.decls f
  true_owner_field None is f i = absurd i
  true_owner_field (Some Integer) is f i = of_reason sc.decls WrongType o.field.span.start f (for_type (fault.number_owned h is)) i
  true_owner_field (Some (Reference k)) is f i = true_owner_struct k is (the_struct sc.decls k) refl f i

  true_other : (n : ℕ) (b : Local) → meaning sc o.local.text ≡ a_local n b → (g : Option OwnerField) →
      owner_field sc.decls (type_of sc l.value_type) o.field ≡ g → (t : Option core_type.ValueType) →
      b.value_type ≡ t →
      (f : Finding) → IsOneOf f (other_type o.local.span.start g t) → IsTrue_of sc.decls f
  true_other n b is None of t at f i = absurd i
  true_other n b is (Some g) of None at f i = absurd i
  true_other n b is (Some g) of (Some t) at f i = misfit_if sc.decls o.local.span.start (fits_type g.value_type (sort.Of t)) (λ e. let final = final_types sc.decls (type_of sc l.value_type) o.field g of in fault.other_owner h final.1 final.2 is at e) f i

  true_no_owner : (m : Meaning) → meaning sc o.local.text ≡ m → (f : Finding) →
      IsOneOf f (list.no_owner sc.decls o.local.span.start (owner_field sc.decls (type_of sc l.value_type) o.field) m) → IsTrue_of sc.decls f
  true_no_owner (a_local n b) is f i = true_other n b is (owner_field sc.decls (type_of sc l.value_type) o.field) refl b.value_type refl f i
  true_no_owner (a_decl n d) is f i = of_reason_if sc.decls (has_type sc.decls (a_decl n d)) WrongType o.local.span.start f (λ t. for_type (fault.owner_no_local h is t)) i
  true_no_owner nothing is f i = of_one sc.decls UnknownName tt o.local.span.start f (unknown (fault.no_owner h is)) i

  true_owner : (f : Finding) → IsOneOf f (owner_faults sc (type_of sc l.value_type) o) → IsTrue_of sc.decls f
  true_owner f i =
      both f (owner_field_faults sc.decls (type_of sc l.value_type) o.field) (list.no_owner sc.decls o.local.span.start (owner_field sc.decls (type_of sc l.value_type) o.field) (meaning sc o.local.text))
      (true_owner_field (type_of sc l.value_type) refl f)
      (true_no_owner (meaning sc o.local.text) refl f) i

-- ---- calls of helpers

unlike_count : (n k : ℕ) → not (n == k) ≡ true → n ≡ k → ⊥
unlike_count n k e same = let t : not (n == n) ≡ true = ap (λ (j : ℕ). not (n == j)) same ∙ e in absurd (grind (arith, nat_tests))

module _ (sc : Scope) (c : HelperCall) (h : HasHelperCall sc.decls sc c) where
  true_unfit_helper : (m : Meaning) → meaning sc c.helper.text ≡ m → IsNoHelper m → (f : Finding) →
      IsOneOf f (misnamed sc.decls WrongType role.Helper c.helper.span.start m) → IsTrue_of sc.decls f
  true_unfit_helper m is not_so f i =
      of_reason_if sc.decls (has_type sc.decls m) WrongType c.helper.span.start f (λ t. for_type (fault.no_helper h is not_so t)) i

  true_no_helper : (m : Meaning) → meaning sc c.helper.text ≡ m → (f : Finding) →
      IsOneOf f (list.no_helper sc.decls c.helper.span.start (length c.arguments) m) → IsTrue_of sc.decls f
  true_no_helper (a_local n l) is f i = true_unfit_helper (a_local n l) is tt f i
  true_no_helper (a_decl n (helper s)) is f i =
      of_reason_if sc.decls (not (length c.arguments == length s.params)) WrongArgumentCount c.helper.span.start f
      (λ e. for_count (fault.wrong_helper_count h (ap helper_meant is) (unlike_count (length c.arguments) (length s.params) e))) i
  true_no_helper (a_decl n (lock x)) is f i = true_unfit_helper (a_decl n (lock x)) is tt f i
  true_no_helper (a_decl n (struct x)) is f i = true_unfit_helper (a_decl n (struct x)) is tt f i
  true_no_helper (a_decl n (global x)) is f i = true_unfit_helper (a_decl n (global x)) is tt f i
  true_no_helper (a_decl n (array x)) is f i = true_unfit_helper (a_decl n (array x)) is tt f i
  true_no_helper (a_decl n (pool x)) is f i = true_unfit_helper (a_decl n (pool x)) is tt f i
  true_no_helper (a_decl n (init x)) is f i = true_unfit_helper (a_decl n (init x)) is tt f i
  true_no_helper (a_decl n (atomic x)) is f i = true_unfit_helper (a_decl n (atomic x)) is tt f i
  true_no_helper (a_decl n (thread x)) is f i = true_unfit_helper (a_decl n (thread x)) is tt f i
  true_no_helper nothing is f i = of_one sc.decls UnknownName tt c.helper.span.start f (unknown (fault.in_helper_call h is)) i

-- arguments of a call in a statement, of which each is asked for
module _ (sc : Scope) (s : Stmt) (h : HasStmt sc.decls sc s) where
  true_values : (ps : List Param) (es : List Expr) →
      ((k : ℕ) (p : Param) (e : Expr) → slice_get ps k ≡ Some p → slice_get es k ≡ Some e →
      Asks sc s (want_of sc.decls p) e) →
      (f : Finding) → IsOneOf f (values_faults sc ps es) → IsTrue_of sc.decls f
  true_values [] es asks f i = absurd i
  true_values (p ∷ ps) [] asks f i = absurd i
  true_values (p ∷ ps) (e ∷ es) asks f i =
      both f (wanted_faults sc (want_of sc.decls p) e) (values_faults sc ps es)
      (true_asked sc s (want_of sc.decls p) e h (asks 0 p e refl refl) f)
      (true_values ps es (λ k q x a b. asks (suc k) q x a b) f) i

  true_each : (es : List Expr) → ((e : Expr) → Has es e → Asks sc s Anything e) → (f : Finding) →
      IsOneOf f (each_value_faults sc es) → IsTrue_of sc.decls f
  true_each [] asks f i = absurd i
  true_each (e ∷ es) asks f i =
      both f (wanted_faults sc Anything e) (each_value_faults sc es)
      (true_asked sc s Anything e h (asks e first) f)
      (true_each es (λ x b. asks x (further b)) f) i

  values_if : (ps : List Param) (es : List Expr) (b : Bool) → (length es == length ps) ≡ b →
      ((k : ℕ) (p : Param) (e : Expr) → length es ≡ length ps → slice_get ps k ≡ Some p → slice_get es k ≡ Some e →
      Asks sc s (want_of sc.decls p) e) →
      (f : Finding) → IsOneOf f (if b then values_faults sc ps es else []) → IsTrue_of sc.decls f
  values_if ps es true e asks f i = true_values ps es (λ k p x a b. asks k p x (eqb-true (length es) (length ps) e) a b) f i
  values_if ps es false e asks f i = absurd i

  true_passed : (o : Option (ℕ × Section)) (es : List Expr) →
      ((w : Want) (e : Expr) → IsArgument sc.decls o es w e → Asks sc s w e) → (f : Finding) →
      IsOneOf f (passed_values_faults sc o es) → IsTrue_of sc.decls f
  true_passed (Some (n, x)) es asks f i =
      values_if x.params es (length es == length x.params) refl (λ k p e len a b. asks (want_of sc.decls p) e (for_parameter k len a b)) f i
  true_passed None es asks f i = true_each es (λ e b. asks Anything e (for_nothing b)) f i

  true_helper_call : (c : HelperCall) → HasHelperCall sc.decls sc c →
      ((w : Want) (e : Expr) → IsArgument sc.decls (helper_meant (meaning sc c.helper.text)) c.arguments w e →
      Asks sc s w e) →
      (f : Finding) → IsOneOf f (helper_call_faults sc c) → IsTrue_of sc.decls f
  true_helper_call c calls asks f i =
      both f (list.no_helper sc.decls c.helper.span.start (length c.arguments) (meaning sc c.helper.text)) (passed_values_faults sc (helper_meant (meaning sc c.helper.text)) c.arguments)
      (true_no_helper sc c calls (meaning sc c.helper.text) refl f)
      (true_passed (helper_meant (meaning sc c.helper.text)) c.arguments asks f) i

-- the result of a helper, bound to a local
module _ (sc : Scope) (l : CalledLocal) (h : HasStmt sc.decls sc (let_call l)) (t : core_type.ValueType) (is : type_of sc l.value_type ≡ Some t) (n : ℕ) (s : Section)
    (meant : helper_meant (meaning sc l.call.helper.text) ≡ Some (n, s)) where
  true_other_result : (u : Option core_type.ValueType) → result_of sc.decls s ≡ u → (f : Finding) →
      IsOneOf f (other_result l.call.helper.span.start t u) → IsTrue_of sc.decls f
  true_other_result None at f i = absurd i
  true_other_result (Some u) at f i = misfit_if sc.decls l.call.helper.span.start (fits_type t (sort.Of u)) (λ e. fault.other_result h is meant at e) f i

  true_no_result : (r : Option ValueType) → s.result ≡ r → (f : Finding) →
      IsOneOf f (list.no_result l.call.helper.span.start t r (result_of sc.decls s)) → IsTrue_of sc.decls f
  true_no_result None at f i = of_reason sc.decls WrongType l.call.helper.span.start f (for_type (fault.no_result h is meant at)) i
  true_no_result (Some r) at f i = true_other_result (result_of sc.decls s) refl f i

true_given_back : (sc : Scope) (l : CalledLocal) → HasStmt sc.decls sc (let_call l) →
    (t : Option core_type.ValueType) → type_of sc l.value_type ≡ t → (o : Option (ℕ × Section)) →
    helper_meant (meaning sc l.call.helper.text) ≡ o →
    (f : Finding) → IsOneOf f (given_back_faults sc.decls l.call.helper.span.start t o) → IsTrue_of sc.decls f
true_given_back sc l h (Some t) is (Some (n, s)) meant f i = true_no_result sc l h t is n s meant s.result refl f i
true_given_back sc l h (Some t) is None meant f i = absurd i
true_given_back sc l h None is o meant f i = absurd i

true_called : (sc : Scope) (l : CalledLocal) → HasStmt sc.decls sc (let_call l) → (f : Finding) →
    IsOneOf f (called_faults sc l) → IsTrue_of sc.decls f
true_called sc l h f i =
    let a = local_faults sc l.name in
    let b = type_faults sc l.value_type in
    let d = given_back_faults sc.decls l.call.helper.span.start (type_of sc l.value_type) (helper_meant (meaning sc l.call.helper.text)) in
    both f (a ++ b ++ d) (helper_call_faults sc l.call)
    (both f (a ++ b) d
    (both f a b (true_local sc l.name (a_called_let h) f) (true_type sc.decls sc l.value_type (of_a_called_let h) f))
    (true_given_back sc l h (type_of sc l.value_type) refl (helper_meant (meaning sc l.call.helper.text)) refl f))
    (true_helper_call sc (let_call l) h l.call (by_let h) (λ w e p. of_let_call p) f) i

-- ---- statements

pub else_same : (sc : Scope) (o : Otherwise) → (after_else sc o).decls ≡ sc.decls
else_same sc no_else = refl
else_same sc (else_do body close) = refl

-- a claim on a scope over the program's declarations holds for one over equal declarations
pub moved : (decls : List Decl) (sc : Scope) (f : Finding) → sc.decls ≡ decls → IsTrue_of sc.decls f → IsTrue_of decls f
moved decls sc f e h = subst (λ (ds : List Decl). IsTrue_of ds f) e h

has_moved : (decls : List Decl) (sc : Scope) (s : Stmt) → sc.decls ≡ decls → HasStmt decls sc s → HasStmt sc.decls sc s
has_moved decls sc s e h = subst (λ (ds : List Decl). HasStmt ds sc s) (sym e) h

true_typed_local : (sc : Scope) (s : Stmt) (x : Ident) (t : ValueType) (e : Expr) → HasStmt sc.decls sc s →
    Binds sc.decls sc x → HasType sc.decls sc t → Asks sc s (want (type_of sc t)) e →
    (f : Finding) → IsOneOf f (local_faults sc x ++ type_faults sc t ++ wanted_faults sc (want (type_of sc t)) e) → IsTrue_of sc.decls f
true_typed_local sc s x t e h binds has asks f i =
    both f (local_faults sc x ++ type_faults sc t) (wanted_faults sc (want (type_of sc t)) e)
    (both f (local_faults sc x) (type_faults sc t) (true_local sc x binds f) (true_type sc.decls sc t has f))
    (true_asked sc s (want (type_of sc t)) e h asks f) i

-- a statement within the first of some statements is within them
widened : {sc sc' : Scope} {s r : Stmt} {rest : Stmts} → Among sc (stmt s no_stmts) sc' r → Among sc (stmt s rest) sc' r
widened here = here
widened (later a) = elim a [ ]
widened (in_then a) = in_then a
widened (in_else a) = in_else a
widened (in_while a) = in_while a

mutual
  true_stmt : (decls : List Decl) (sc : Scope) (s : Stmt) → HasStmt decls sc s → sc.decls ≡ decls →
      ((sc' : Scope) (r : Stmt) → Among sc (stmt s no_stmts) sc' r → HasStmt decls sc' r) → (f : Finding) →
      IsOneOf f (stmt_faults sc s) → IsTrue_of decls f
  true_stmt decls sc (let_local l) h same up f i =
      let g = has_moved decls sc (let_local l) same h in
      moved decls sc f same (true_typed_local sc (let_local l) l.name l.value_type l.value g (a_let g) (of_a_let g) of_let f i)
  true_stmt decls sc (let_owned l o) h same up f i =
      let g = has_moved decls sc (let_owned l o) same h in
      moved decls sc f same
      (both f (binding_faults sc l) (owner_faults sc (type_of sc l.value_type) o)
      (true_typed_local sc (let_owned l o) l.name l.value_type l.value g (an_owned_let g) (of_an_owned_let g) of_owned f)
      (true_owner sc l o g f) i)
  true_stmt decls sc (let_call l) h same up f i = moved decls sc f same (true_called sc l (has_moved decls sc (let_call l) same h) f i)
  true_stmt decls sc (var_local l) h same up f i =
      let g = has_moved decls sc (var_local l) same h in
      moved decls sc f same (true_typed_local sc (var_local l) l.name l.value_type l.value g (a_var g) (of_a_var g) of_var f i)
  true_stmt decls sc (assign p e) h same up f i =
      let g = has_moved decls sc (assign p e) same h in
      moved decls sc f same (both f (target_faults sc p) (wanted_faults sc (wanted_by (target_of sc p)) e) (true_target sc p e g f) (true_asked sc (assign p e) (wanted_by (target_of sc p)) e g (asks_right sc p e) f) i)
  true_stmt decls sc (if_then start e body close other) h same up f i =
      both f (wanted_faults sc Condition e ++ stmts_faults sc body) (else_faults (left sc (after_all sc body)) other)
      (both f (wanted_faults sc Condition e) (stmts_faults sc body)
      (λ j. moved decls sc f same (true_asked sc (if_then start e body close other) Condition e (has_moved decls sc (if_then start e body close other) same h) site.of_if f j))
      (true_stmts decls sc body (λ sc' r a. up sc' r (in_then a)) same f))
      (true_else decls sc start e body close other same up f) i
  true_stmt decls sc (while start e body close) h same up f i =
      both f (wanted_faults sc Condition e) (stmts_faults sc body)
      (λ j. moved decls sc f same (true_asked sc (while start e body close) Condition e (has_moved decls sc (while start e body close) same h) of_while f j))
      (true_stmts decls sc body (λ sc' r a. up sc' r (in_while a)) same f) i
  true_stmt decls sc (print start e) h same up f i = moved decls sc f same (true_asked sc (print start e) (Value Integer) e (has_moved decls sc (print start e) same h) of_print f i)
  true_stmt decls sc (return_value start e) h same up f i = moved decls sc f same (true_asked sc (return_value start e) (want sc.result) e (has_moved decls sc (return_value start e) same h) of_return f i)
  true_stmt decls sc (call start c) h same up f i =
      let g = has_moved decls sc (call start c) same h in
      moved decls sc f same (true_helper_call sc (call start c) g c (by_itself g) (λ w e p. of_call_alone p) f i)

  true_else : (decls : List Decl) (sc : Scope) (start : Span) (e : Expr) (body : Stmts) (close : Span) (other : Otherwise) → sc.decls ≡ decls →
      ((sc' : Scope) (r : Stmt) → Among sc (stmt (if_then start e body close other) no_stmts) sc' r → HasStmt decls sc' r) → (f : Finding) → IsOneOf f (else_faults (left sc (after_all sc body)) other) → IsTrue_of decls f
  true_else decls sc start e body close no_else same up f i = absurd i
  true_else decls sc start e body close (else_do block end) same up f i = true_stmts decls (left sc (after_all sc body)) block (λ sc' r a. up sc' r (in_else a)) same f i

  true_stmts : (decls : List Decl) (sc : Scope) (ss : Stmts) →
      ((sc' : Scope) (s : Stmt) → Among sc ss sc' s → HasStmt decls sc' s) → sc.decls ≡ decls → (f : Finding) →
      IsOneOf f (stmts_faults sc ss) → IsTrue_of decls f
  true_stmts decls sc no_stmts up same f i = absurd i
  true_stmts decls sc (stmt s rest) up same f i =
      both f (stmt_faults sc s) (stmts_faults (after sc s) rest)
      (true_stmt decls sc s (up sc s here) same (λ sc' r a. up sc' r (widened a)) f)
      (true_stmts decls (after sc s) rest (λ sc' r a. up sc' r (later a)) (after_decls sc s ∙ same) f) i

-- ---- sections and helpers

pub entered_limits : (sc : Scope) (ps : List Param) → (entered sc ps).limits ≡ sc.limits
entered_limits sc [] = refl
entered_limits sc (p ∷ ps) = entered_limits (bound sc kind.Parameter p.name (type_of (outside sc.decls) p.value_type)) ps

pub entered_push : (sc : Scope) (before : List Param) (p : Param) →
    entered sc (before ++ p ∷ []) ≡ bound (entered sc before) kind.Parameter p.name (type_of (outside (entered sc before).decls) p.value_type)
entered_push sc [] p = refl
entered_push sc (b ∷ before) p = entered_push (bound sc kind.Parameter b.name (type_of (outside sc.decls) b.value_type)) before p

pub length_push : {A : Type 0} (xs : List A) (x : A) → length (xs ++ x ∷ []) ≡ length xs + 1
length_push [] x = refl
length_push (y ∷ xs) x = omega (arith, length_push xs x)

true_params : (decls : List Decl) (limits : BodyLimits) (s : Section) → HasBody decls limits s →
    (before ps : List Param) (n : ℕ) → n ≡ length before → s.params ≡ before ++ ps →
    ((p : Param) → Has ps p → Has s.params p) →
    (f : Finding) → IsOneOf f (param_faults (entered (ahead_of decls limits s) before) n ps) → IsTrue_of decls f
true_params decls limits s h before [] n len parts up f i = absurd i
true_params decls limits s h before (p ∷ ps) n len parts up f i =
    let sc : Scope = entered (ahead_of decls limits s) before in
    let same : sc.decls ≡ decls = entered_decls (ahead_of decls limits s) before in
    let allowed : sc.limits ≡ limits = entered_limits (ahead_of decls limits s) before in
    let a = local_faults sc p.name in
    let b = one_if (nat_le sc.limits.parameters n) LimitExceeded p.name.span.start in
    let c = type_faults (outside sc.decls) p.value_type in
    both f (a ++ b ++ c) (param_faults (bound sc kind.Parameter p.name (type_of (outside sc.decls) p.value_type)) (n + 1) ps)
    (both f (a ++ b) c
    (both f a b
    (λ j. moved decls sc f same (true_local sc p.name (subst (λ (ds : List Decl). Binds ds sc p.name) (sym same) (parameter p before ps h parts)) f j))
    (of_if decls (nat_le sc.limits.parameters n) LimitExceeded tt p.name.span.start f
    (λ e. over_limit (fault.too_many_parameters p before ps h parts (subst (λ (l : BodyLimits). l.parameters ≤ length before) allowed (let le = le_of sc.limits.parameters n e in omega (arith, le, len)))))))
    (λ j. true_type decls (outside decls) p.value_type (of_parameter h (up p first)) f (subst (λ (ds : List Decl). IsOneOf f (type_faults (outside ds) p.value_type)) same j)))
    (λ j. true_params decls limits s h (before ++ p ∷ []) ps (n + 1) (sym (length_push before p ∙ ap (λ (k : ℕ). k + 1) (sym len))) (parts ∙ sym (append_assoc before (p ∷ []) ps)) (λ q x. up q (further x)) f
    (subst (λ (to : Scope). IsOneOf f (param_faults to (n + 1) ps)) (sym (entered_push (ahead_of decls limits s) before p)) j)) i

true_result : (decls : List Decl) (limits : BodyLimits) (s : Section) → HasBody decls limits s →
    (o : Option ValueType) → s.result ≡ o → (f : Finding) → IsOneOf f (result_faults decls o) → IsTrue_of decls f
true_result decls limits s h None e f i = absurd i
true_result decls limits s h (Some t) e f i = true_type decls (outside decls) t (of_result h e) f i

-- the lock's name of a listed class
true_no_lock : (decls : List Decl) (ms : List Member) (y : Ident) → ListsLock decls ms y →
    (o : Option (ℕ × Member)) → the_member ms y.text ≡ o → (f : Finding) →
    IsOneOf f (list.no_lock decls y.span.start o) → IsTrue_of decls f
true_no_lock decls ms y h None is f i = of_one decls UnknownName tt y.span.start f (unknown (fault.no_member_listed h is)) i
true_no_lock decls ms y h (Some (n, lock_member x)) is f i = absurd i
true_no_lock decls ms y h (Some (n, final_member x)) is f i = of_reason_if decls (member_has_type decls (final_member x)) WrongType y.span.start f (λ t. for_type (fault.no_lock_listed h is (λ q. q) t)) i
true_no_lock decls ms y h (Some (n, field_member x)) is f i = of_reason_if decls (member_has_type decls (field_member x)) WrongType y.span.start f (λ t. for_type (fault.no_lock_listed h is (λ q. q) t)) i

module _ (decls : List Decl) (limits : BodyLimits) (s : Section) (h : HasBody decls limits s) where
  true_lock_in : (c : ClassName) → Has s.listed c → (o : Option (ℕ × Decl)) → the_decl decls c.structure.text ≡ o →
      (f : Finding) → IsOneOf f (no_lock_in decls o c.lock) → IsTrue_of decls f
  true_lock_in c b None is f i = absurd i
  true_lock_in c b (Some (n, struct r)) is f i = true_no_lock decls r.members c.lock (lists_lock h b is) (the_member r.members c.lock.text) refl f i
  true_lock_in c b (Some (n, lock x)) is f i = absurd i
  true_lock_in c b (Some (n, global v)) is f i = absurd i
  true_lock_in c b (Some (n, array a)) is f i = absurd i
  true_lock_in c b (Some (n, pool p)) is f i = absurd i
  true_lock_in c b (Some (n, init j)) is f i = absurd i
  true_lock_in c b (Some (n, atomic x)) is f i = absurd i
  true_lock_in c b (Some (n, helper x)) is f i = absurd i
  true_lock_in c b (Some (n, thread t)) is f i = absurd i

  true_class_again : (before rest : List ClassName) (c : ClassName) → s.listed ≡ before ++ c ∷ rest → (o : Option ℕ) →
      place_of same_class before c ≡ o → (f : Finding) → IsOneOf f (again c.structure.span.start o) → IsTrue_of decls f
  true_class_again before rest c parts None e f i = absurd i
  true_class_again before rest c parts (Some k) e f i = of_one decls DeclaredTwice tt c.structure.span.start f (declared_twice (fault.two_classes before rest c h parts e)) i

  true_listed : (before cs : List ClassName) → s.listed ≡ before ++ cs → ((c : ClassName) → Has cs c → Has s.listed c) →
      (f : Finding) → IsOneOf f (listed_faults decls before cs) → IsTrue_of decls f
  true_listed before [] parts up f i = absurd i
  true_listed before (c ∷ cs) parts up f i =
      let a = type_faults (outside decls) (ref_type c.structure) in
      let b = no_lock_in decls (the_decl decls c.structure.text) c.lock in
      let d = again c.structure.span.start (place_of same_class before c) in
      both f ((a ++ b) ++ d) (listed_faults decls (before ++ c ∷ []) cs)
      (both f (a ++ b) d
      (both f a b
      (true_type decls (outside decls) (ref_type c.structure) (of_listed h (up c first)) f)
      (true_lock_in c (up c first) (the_decl decls c.structure.text) refl f))
      (true_class_again before cs c parts (place_of same_class before c) refl f))
      (true_listed (before ++ c ∷ []) cs (parts ∙ sym (append_assoc before (c ∷ []) cs)) (λ x g. up x (further g)) f) i

pub true_section : (decls : List Decl) (limits : BodyLimits) (s : Section) → HasBody decls limits s → (f : Finding) →
    IsOneOf f (section_faults decls limits s) → IsTrue_of decls f
true_section decls limits s h f i =
    let a = result_faults decls s.result in
    let b = param_faults (ahead_of decls limits s) 0 s.params in
    let c = stmts_faults (entry decls limits s) s.body.stmts in
    both f (a ++ b ++ c) (listed_faults decls [] s.listed)
    (both f (a ++ b) c
    (both f a b
    (true_result decls limits s h s.result refl f)
    (true_params decls limits s h [] s.params 0 refl refl (λ p x. x) f))
    (true_stmts decls (entry decls limits s) s.body.stmts (λ sc x a. in_body h a) (entered_decls (ahead_of decls limits s) s.params) f))
    (true_listed decls limits s h [] s.listed refl (λ x g. g) f) i
