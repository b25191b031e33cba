-- Calls of helpers without a listed fault are resolved, and their results fit.
use Rattle.std.proofs.Common.{◌≡◌, ℕ, List, [], ◌∷◌, length, Option, Some, None, Bool, true, false, refl, ap, ◌∙◌}
use Rattle.std.proofs.Common.{subst, if◌then◌else◌, arith}
use Rattle.std.specs.Prelude.{not, is_some, ◌==◌}
use Rattle.std.proofs.lemmas.Bool.{eqb-true}
use Rattle.source.specs.declared.fault.Code.TheVariants.{UnknownName, WrongType, WrongArgumentCount}
use Rattle.syntax.specs.Trees.{ValueType, Expr, HelperCall, Param, Section, Decl, lock, struct, global, array, pool}
use Rattle.syntax.specs.Trees.{init, atomic, helper, thread}
use Rattle.core_lang.specs.declared.value.ValueType as core_type
use Rattle.resolution.specs.declared.wanted.Sort.TheVariants as sort
use Rattle.resolution.specs.Core as core
use Rattle.resolution.specs.Limits.{helper_limits}
use Rattle.resolution.specs.Scopes.{◌>>=◌, Scope, outside, Meaning, a_local, a_decl, nothing, meaning, helper_meant}
use Rattle.resolution.specs.Scopes.{number_at, type_of}
use Rattle.resolution.specs.Expressions.{want, fits_type}
use Rattle.resolution.specs.Working.TypedExpressions.{fitting, as_value, typed}
use Rattle.resolution.specs.Working.TypedOwners.{is_of}
use Rattle.resolution.specs.Constants.{want_of}
use Rattle.resolution.specs.Working.TypedConstants.{added}
use Rattle.resolution.specs.Working.TypedStatements.{typed_values, called, call_resolved, type_given, can_take}
use Rattle.resolution.specs.Where.{Has, HasBody, of_helper, of_parameter, of_result, first, further}
use Rattle.resolution.specs.Working.FaultLists as list
use Rattle.resolution.specs.declared.why.Why.TheVariants as why
use Rattle.resolution.specs.declared.why.Role.TheVariants as role
use Rattle.resolution.specs.Working.Findings.{told, found_if}
use Rattle.resolution.specs.Working.FaultLists.{misnamed, wanted_faults, values_faults, passed_values_faults}
use Rattle.resolution.specs.Working.FaultLists.{helper_call_faults, other_result, given_back_faults}
use Rattle.resolution.proofs.Parts.{same_count}
use Rattle.resolution.proofs.FaultlessExpressions.{NoneIn, none_left, none_right, not_one, not_found, Clean, Typing, known}
use Rattle.resolution.proofs.FaultlessExpressions.{Context, IsKnown, meaning_known, decl_typed, unfit_not, fit_if}
use Rattle.resolution.proofs.FaultlessResolvedExprs.{value_is}

-- ---- arguments

-- as many arguments, of which each has its form
abbrev Values : Option (List core.Expr) → Type 0
Values o = (xs : List core.Expr) × (o ≡ Some xs)

-- the types of these parameters are types of the program
abbrev ParametersTyped : List Decl → List Param → Type 0
ParametersTyped decls ps = (p : Param) → Has ps p → Typing decls (type_of (outside decls) p.value_type)

values_are : (sc : Scope) → Context sc → (ps : List Param) (es : List Expr) → ParametersTyped sc.decls ps →
    length es ≡ length ps → NoneIn (values_faults sc ps es) → Values (typed_values sc ps es)
values_are sc c [] [] typings len none = ([], refl)
values_are sc c [] (e ∷ es) typings len none = cc
values_are sc c (p ∷ ps) [] typings len none = cc
values_are sc c (p ∷ ps) (e ∷ es) typings len none =
    let t = typings p first in
    let w = want_of sc.decls p in
    let v = value_is sc c t.value_type e (subst (λ (o : Option core_type.ValueType). NoneIn (wanted_faults sc (want o) e)) t.is (none_left (wanted_faults sc w e) (values_faults sc ps es) none)) in
    let r = values_are sc c ps es (λ q h. typings q (further h)) (let z : length es ≡ length ps = omega (arith, len) in z) (none_right (wanted_faults sc w e) (values_faults sc ps es) none) in (
      v.0 ∷ r.0,
      ap (λ (o : Option core_type.ValueType). added (as_value (fitting (want o) (typed sc e))) (typed_values sc ps es)) t.is
          ∙ ap (λ (o : Option core.Expr). added o (typed_values sc ps es)) v.1 ∙ ap (added (Some v.0)) r.1,
    )

-- ---- the helper

-- a helper is meant
record HelperAt (decls : List Decl) (x : Meaning) (n : ℕ) : Type 0 where
  place : ℕ
  section : Section
  is : helper_meant x ≡ Some (place, section)
  there : HasBody decls helper_limits section
  as_many : n ≡ length section.params

counted_right : (p n k : ℕ) → NoneIn (found_if (not (n == k)) (told WrongArgumentCount p (why.Counted k n))) → n ≡ k
counted_right p n k none = eqb-true n k (true_if (n == k) (not_found (not (n == k)) (told WrongArgumentCount p (why.Counted k n)) none))
  where
    true_if : (b : Bool) → not b ≡ false → b ≡ true
    true_if true e = refl
    true_if false e = cc

-- a name that refers to something other than a helper has a fault
known_no_helper : {P : Type 0} (decls : List Decl) → Clean decls → (p n : ℕ) (d : Decl) → Has decls d →
    NoneIn (misnamed decls WrongType role.Helper p (a_decl n d)) → P
known_no_helper decls clean p n d h none = absurd (unfit_not decls WrongType p _ (a_decl n d) (decl_typed decls clean n d h) none)

helper_is : (decls : List Decl) → Clean decls → (p n : ℕ) (x : Meaning) → IsKnown decls x →
    NoneIn (list.no_helper decls p n x) → HelperAt decls x n
helper_is decls clean p n (a_local k l) t none = absurd (unfit_not decls WrongType p _ (a_local k l) (ap is_some t.is) none)
helper_is decls clean p n (a_decl k (helper s)) h none = record { place = k; section = s; is = refl; there = of_helper h; as_many = counted_right p n (length s.params) none }
helper_is decls clean p n (a_decl k (lock x)) h none = known_no_helper decls clean p k (lock x) h none
helper_is decls clean p n (a_decl k (struct x)) h none = known_no_helper decls clean p k (struct x) h none
helper_is decls clean p n (a_decl k (global x)) h none = known_no_helper decls clean p k (global x) h none
helper_is decls clean p n (a_decl k (array x)) h none = known_no_helper decls clean p k (array x) h none
helper_is decls clean p n (a_decl k (pool x)) h none = known_no_helper decls clean p k (pool x) h none
helper_is decls clean p n (a_decl k (init x)) h none = known_no_helper decls clean p k (init x) h none
helper_is decls clean p n (a_decl k (atomic x)) h none = known_no_helper decls clean p k (atomic x) h none
helper_is decls clean p n (a_decl k (thread x)) h none = known_no_helper decls clean p k (thread x) h none
helper_is decls clean p n nothing h none = absurd (not_one UnknownName p none)

passed_is : (sc : Scope) → Context sc → (s : Section) → HasBody sc.decls helper_limits s → (es : List Expr) →
    length es ≡ length s.params → (n : ℕ) → NoneIn (passed_values_faults sc (Some (n, s)) es) →
    Values (typed_values sc s.params es)
passed_is sc c s h es len n none =
    values_are sc c s.params es (λ p b. known sc.decls c.clean (outside sc.decls) p.value_type (of_parameter h b)) len
    (subst (λ (b : Bool). NoneIn (if b then values_faults sc s.params es else [])) (same_count (length es) (length s.params) len) none)

-- a call has its form
pub call_resolves : (sc : Scope) → Context sc → (d : HelperCall) (local : Option ℕ) →
    NoneIn (helper_call_faults sc d) → (x : core.Action) × (call_resolved sc d local ≡ Some x)
call_resolves sc c d local none =
    let x = meaning sc d.helper.text in
    let a = list.no_helper sc.decls d.helper.span.start (length d.arguments) x in
    let b = passed_values_faults sc (helper_meant x) d.arguments in
    let h = helper_is sc.decls c.clean d.helper.span.start (length d.arguments) x (meaning_known sc c d.helper.text) (none_left a b none) in
    let vs = passed_is sc c h.section h.there d.arguments h.as_many h.place (subst (λ (o : Option (ℕ × Section)). NoneIn (passed_values_faults sc o d.arguments)) h.is (none_right a b none)) in
    let number = number_at sc.decls h.place (helper h.section) in (
      core.call number vs.0 local,
      ap (λ (o : Option (ℕ × Section)). called sc o d.arguments local) h.is
          ∙ ap (λ (o : Option (List core.Expr)). ◌>>=◌ {B = core.Action} o (λ ws. Some (core.call number ws local))) vs.1,
    )

-- ---- its result

other_fits : (p : ℕ) (t : core_type.ValueType) (u : Option core_type.ValueType) (v : core_type.ValueType) →
    u ≡ Some v → NoneIn (other_result p t u) → is_of t u ≡ true
other_fits p t u v is none =
    ap (is_of t) is ∙ fit_if p (fits_type t (sort.Of v)) _ (subst (λ (o : Option core_type.ValueType). NoneIn (other_result p t o)) is none)

result_fits : (decls : List Decl) → Clean decls → (p : ℕ) (t : core_type.ValueType) (s : Section) →
    HasBody decls helper_limits s → (r : Option ValueType) → s.result ≡ r →
    NoneIn (list.no_result p t r (r >>= λ y. type_of (outside decls) y)) →
    is_of t (r >>= λ y. type_of (outside decls) y) ≡ true
result_fits decls clean p t s h None is none = absurd (not_one WrongType p none)
result_fits decls clean p t s h (Some y) is none =
    let u = known decls clean (outside decls) y (of_result h is) in
    other_fits p t (type_of (outside decls) y) u.value_type u.is none

-- a `let`'s type is that of what is given back
fits_given : (sc : Scope) → Context sc → (p : ℕ) (t : core_type.ValueType) (x : Meaning) → IsKnown sc.decls x →
    NoneIn (given_back_faults sc.decls p (Some t) (helper_meant x)) → (n : ℕ) →
    NoneIn (list.no_helper sc.decls p n x) →
    is_of t (type_given sc.decls (helper_meant x)) ≡ true
fits_given sc c p t x k none n named =
    let h = helper_is sc.decls c.clean p n x k named in
    ap (λ (o : Option (ℕ × Section)). is_of t (type_given sc.decls o)) h.is
    ∙ result_fits sc.decls c.clean p t h.section h.there h.section.result refl (subst (λ (o : Option (ℕ × Section)). NoneIn (given_back_faults sc.decls p (Some t) o)) h.is none)

pub given_back_fits : (sc : Scope) → Context sc → (d : HelperCall) (t : Option core_type.ValueType) →
    Typing sc.decls t →
    NoneIn (given_back_faults sc.decls d.helper.span.start t (helper_meant (meaning sc d.helper.text))) →
    NoneIn (helper_call_faults sc d) →
    can_take t (type_given sc.decls (helper_meant (meaning sc d.helper.text))) ≡ true
given_back_fits sc c d t k given none =
    let x = meaning sc d.helper.text in
    ap (λ (o : Option core_type.ValueType). can_take o (type_given sc.decls (helper_meant x))) k.is
    ∙ fits_given sc c d.helper.span.start k.value_type x (meaning_known sc c d.helper.text) (subst (λ (o : Option core_type.ValueType). NoneIn (given_back_faults sc.decls d.helper.span.start o (helper_meant x))) k.is given)
    (length d.arguments) (none_left (list.no_helper sc.decls d.helper.span.start (length d.arguments) x) (passed_values_faults sc (helper_meant x) d.arguments) none)
