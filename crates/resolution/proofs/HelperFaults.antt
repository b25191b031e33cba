-- Each fault of a call of a helper is listed.
use Rattle.std.proofs.Common.{◌≡◌, ℕ, List, [], Option, Some, None, Bool, true, false, length, refl, ap, ◌∙◌}
use Rattle.std.proofs.Common.{if◌then◌else◌, arith}
use Rattle.std.specs.Prelude.{not, ◌==◌}
use Rattle.std.proofs.lemmas.Bool.Decides.{nat_tests}
use Rattle.source.specs.declared.fault.Code.{Code}
use Rattle.source.specs.declared.fault.Code.TheVariants.{WrongType, WrongArgumentCount}
use Rattle.syntax.specs.Trees.{ValueType, HelperCall, CalledLocal, let_call, Section, Decl, lock, struct, global, array}
use Rattle.syntax.specs.Trees.{pool, init, atomic, helper, thread}
use Rattle.core_lang.specs.declared.value.ValueType as core_type
use Rattle.resolution.specs.declared.wanted.Sort.TheVariants as sort
use Rattle.resolution.specs.Scopes.{◌>>=◌, Scope, outside, Meaning, a_local, a_decl, nothing, meaning, helper_meant}
use Rattle.resolution.specs.Scopes.{has_type, type_of, result_of}
use Rattle.resolution.specs.Expressions.{fits_type}
use Rattle.resolution.specs.Where.{HasStmt, HasHelperCall}
use Rattle.resolution.specs.Faults.{IsNoHelper}
use Rattle.resolution.specs.Working.FaultLists as list
use Rattle.resolution.specs.declared.why.Why.{Why}
use Rattle.resolution.specs.declared.why.Why.TheVariants as why
use Rattle.resolution.specs.declared.why.Role.TheVariants as role
use Rattle.resolution.specs.Working.Findings.{told, found_if}
use Rattle.resolution.specs.Reasons.{stands_for}
use Rattle.resolution.specs.Working.FaultLists.{reasoned, unfit, passed_values_faults, given_back_faults}
use Rattle.resolution.specs.Working.FaultLists.{declaration_faults}
use Rattle.resolution.specs.Theory.Leasts.{IsAmong, among_left}
use Rattle.resolution.proofs.Members.{at}
use Rattle.resolution.proofs.Parts.{of_helper_call, of_given_back}

abbrev pub listed : List Decl → Code → ℕ → Type 0
listed decls c p = IsAmong (record { code = c; start = p }) (declaration_faults decls)

-- the noted fault, if the type has no fault
pub unfit_in : (decls : List Decl) (c : Code) (p : ℕ) {w : Why} (x : Meaning) → has_type decls x ≡ true →
    unfit decls (told c p w) x ≡ reasoned c p w
unfit_in decls c p {w = w} x e = ap (λ (b : Bool). found_if b (told c p w)) e

pub misfit_is : (p : ℕ) (b : Bool) {w : Why} → b ≡ false → (if b then [] else reasoned WrongType p w) ≡ reasoned WrongType p w
misfit_is p b {w = w} e = ap (λ (t : Bool). if t then [] else reasoned WrongType p w) e

pub other_count : (n k : ℕ) → (n ≡ k → ⊥) → (n == k) ≡ false
other_count n k e = decide (n == k) refl
  where
    decide : (b : Bool) → (n == k) ≡ b → b ≡ false
    decide true is = let s : n ≡ k = grind (arith, nat_tests) in absurd (e s)
    decide false is = refl

-- ---- calls of helpers

-- the listed faults at a helper's name
pub of_helper_name : (decls : List Decl) (sc : Scope) (c : HelperCall) → HasHelperCall decls sc c → (k : Code) {w : Why} →
    list.no_helper sc.decls c.helper.span.start (length c.arguments) (meaning sc c.helper.text) ≡ reasoned k c.helper.span.start w →
    listed decls k c.helper.span.start
of_helper_name decls sc c h k e =
    of_helper_call decls sc c h _ (among_left _ (list.no_helper sc.decls c.helper.span.start (length c.arguments) (meaning sc c.helper.text)) (passed_values_faults sc (helper_meant (meaning sc c.helper.text)) c.arguments) (at k c.helper.span.start _ e))

-- and those of its result
pub of_result : (decls : List Decl) (sc : Scope) (l : CalledLocal) → HasStmt decls sc (let_call l) →
    (t : core_type.ValueType) (n : ℕ) (s : Section) {w : Why} → type_of sc l.value_type ≡ Some t →
    helper_meant (meaning sc l.call.helper.text) ≡ Some (n, s) →
    list.no_result l.call.helper.span.start t s.result (result_of sc.decls s) ≡ reasoned WrongType l.call.helper.span.start w → listed decls WrongType l.call.helper.span.start
of_result decls sc l h t n s is meant e =
    of_given_back decls sc l h _ (at WrongType l.call.helper.span.start _
    (ap (λ (o : Option core_type.ValueType). given_back_faults sc.decls l.call.helper.span.start o (helper_meant (meaning sc l.call.helper.text))) is
    ∙ ap (given_back_faults sc.decls l.call.helper.span.start (Some t)) meant ∙ e))

pub no_helper_is : (decls : List Decl) (p n : ℕ) (x : Meaning) → IsNoHelper x → has_type decls x ≡ true →
    list.no_helper decls p n x ≡ reasoned WrongType p (why.Misnamed role.Helper (stands_for x))
no_helper_is decls p n (a_local k l) h e = unfit_in decls WrongType p (a_local k l) e
no_helper_is decls p n (a_decl k (helper s)) h e = absurd h
no_helper_is decls p n (a_decl k (lock y)) h e = refl
no_helper_is decls p n (a_decl k (struct s)) h e = refl
no_helper_is decls p n (a_decl k (global v)) h e = unfit_in decls WrongType p (a_decl k (global v)) e
no_helper_is decls p n (a_decl k (array a)) h e = unfit_in decls WrongType p (a_decl k (array a)) e
no_helper_is decls p n (a_decl k (pool q)) h e = unfit_in decls WrongType p (a_decl k (pool q)) e
no_helper_is decls p n (a_decl k (init j)) h e = refl
no_helper_is decls p n (a_decl k (atomic s)) h e = refl
no_helper_is decls p n (a_decl k (thread t)) h e = refl
no_helper_is decls p n nothing h e = absurd h

pub no_result_is : (decls : List Decl) (p : ℕ) (t u : core_type.ValueType) (r : Option ValueType) →
    (r >>= λ y. type_of (outside decls) y) ≡ Some u → fits_type t (sort.Of u) ≡ false →
    (w : Why) × (list.no_result p t r (r >>= λ y. type_of (outside decls) y) ≡ reasoned WrongType p w)
no_result_is decls p t u None e no_fit = cc
no_result_is decls p t u (Some y) e no_fit = (_, ap (list.other_result p t) e ∙ misfit_is p (fits_type t (sort.Of u)) no_fit)

-- the section of two that are the same
abbrev section_or : Section → Option (ℕ × Section) → Section
section_or r None = r
section_or r (Some q) = q.1

counted_if : (p n : ℕ) (r s : Section) → r ≡ s → (n ≡ length s.params → ⊥) →
    found_if (not (n == length r.params)) (told WrongArgumentCount p (why.Counted (length r.params) n))
    ≡ reasoned WrongArgumentCount p (why.Counted (length s.params) n)
counted_if p n r s same other =
    ap (λ (x : Section). found_if (not (n == length x.params)) (told WrongArgumentCount p (why.Counted (length x.params) n))) same
    ∙ ap (λ (b : Bool). found_if (not b) (told WrongArgumentCount p (why.Counted (length s.params) n))) (other_count n (length s.params) other)

pub counted_is : (decls : List Decl) (p n k : ℕ) (s : Section) (x : Meaning) → helper_meant x ≡ Some (k, s) →
    (n ≡ length s.params → ⊥) →
    list.no_helper decls p n x ≡ reasoned WrongArgumentCount p (why.Counted (length s.params) n)
counted_is decls p n k s (a_local j l) is other = cc
counted_is decls p n k s (a_decl j (helper r)) is other = counted_if p n r s (ap (section_or r) is) other
counted_is decls p n k s (a_decl j (lock y)) is other = cc
counted_is decls p n k s (a_decl j (struct y)) is other = cc
counted_is decls p n k s (a_decl j (global y)) is other = cc
counted_is decls p n k s (a_decl j (array y)) is other = cc
counted_is decls p n k s (a_decl j (pool y)) is other = cc
counted_is decls p n k s (a_decl j (init y)) is other = cc
counted_is decls p n k s (a_decl j (atomic y)) is other = cc
counted_is decls p n k s (a_decl j (thread y)) is other = cc
counted_is decls p n k s nothing is other = cc
