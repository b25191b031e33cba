-- The calls of a resolved program's threads.
use Rattle.std.proofs.Common.{◌≡◌, ℕ, zero, suc, List, [], ◌∷◌, ◌++◌, length, Option, Some, true, refl, sym, ap, ◌∙◌}
use Rattle.std.proofs.Common.{subst, append-nil, append_assoc}
use Rattle.std.specs.Prelude.{slice_get, take, map}
use Rattle.syntax.specs.Trees.{ValueType, Const, Param, Section, Items, Decl, atomic, helper, thread}
use Rattle.core_lang.specs.declared.value.Value.{Value}
use Rattle.core_lang.specs.declared.value.ValueType as core_type
use Rattle.core_lang.specs.declared.tree.LocalKind.TheVariants as kind
use Rattle.core_lang.specs.Theory.Items.{map_at}
use Rattle.resolution.specs.declared.body_limits.BodyLimits.{BodyLimits}
use Rattle.resolution.specs.Core as core
use Rattle.resolution.specs.Limits.{section_limits, helper_limits}
use Rattle.resolution.specs.Scopes as scope
use Rattle.resolution.specs.Scopes.{◌>>=◌, Scope, outside, bears, type_of, result_of, number_at, bound, entered}
use Rattle.resolution.specs.Expressions.{want}
use Rattle.resolution.specs.Statements.{after_all, ahead_of, entry}
use Rattle.resolution.specs.Constants.{Yields, want_of, AreArguments, no_constant, one_constant}
use Rattle.resolution.specs.Typing.{TypesLocals, TypesResult, no_result, one_result, TypesSection, types_section}
use Rattle.resolution.specs.Tables.{AreTables, AreCalls, no_call, one_call, repeated, copies}
use Rattle.resolution.proofs.Named.{named_is}
use Rattle.resolution.proofs.FaultlessExpressions.{Clean}
use Rattle.resolution.proofs.Typed.{types_of}
use Rattle.resolution.proofs.TypedCalls.{TypesAre, HasHelpers}
use Rattle.resolution.proofs.TypedStatements.{all_front, locals_got}
use Rattle.resolution.proofs.LaidLists.{Rows, only, no_row}
use Rattle.resolution.proofs.LaidWalk.{NewRows, lands, each_row}
use Rattle.resolution.proofs.LaidFacts.{numbered_row}
use Rattle.resolution.proofs.LaidObjects.{Holds, const_holds}

-- ---- arguments

-- a constant that a parameter is given
abbrev pub Argument : List Decl → ℕ → Param → Value → Type 0
Argument decls n p v = (c : Const) × Yields decls (want_of decls p) c v

arguments_got : (decls : List Decl) (n : ℕ) (ps : List Param) (cs : List Const) (vs : List Value) →
    AreArguments decls ps cs vs → Rows (Argument decls) n ps vs
arguments_got decls n ps cs vs no_constant = tt
arguments_got decls n ps cs vs (one_constant {c = c} {ps = qs} {cs = ds} {vs = us} h more) =
    ((c, h), arguments_got decls (suc n) qs ds us more)

-- ---- calls

-- what a call calls, by its declaration
pub record CallFact (decls : List Decl) (c : core.Call) : Type 0 where
  pub place : ℕ
  pub section : Section
  pub at : slice_get decls place ≡ Some (atomic section)
  pub number : number_at decls place (atomic section) ≡ c.section
  pub fit : Rows (Argument decls) 0 section.params c.arguments

abbrev AllCalls : List Decl → List core.Call → Type 0
AllCalls decls cs = (n : ℕ) (c : core.Call) → slice_get cs n ≡ Some c → CallFact decls c

both_calls : (decls : List Decl) (xs ys : List core.Call) → AllCalls decls xs → AllCalls decls ys →
    AllCalls decls (xs ++ ys)
both_calls decls [] ys h g n c e = g n c e
both_calls decls (x ∷ xs) ys h g zero c e = h 0 c e
both_calls decls (x ∷ xs) ys h g (suc n) c e = both_calls decls xs ys (λ k. h (suc k)) g n c e

no_calls : (decls : List Decl) → AllCalls decls []
no_calls decls n c e = cc

copied_calls : (decls : List Decl) (k : ℕ) (xs : List core.Call) → AllCalls decls xs → AllCalls decls (copies k xs)
copied_calls decls zero xs h = no_calls decls
copied_calls decls (suc k) xs h = both_calls decls xs (copies k xs) h (copied_calls decls k xs h)

one_fact : (decls : List Decl) (c : core.Call) → CallFact decls c → AllCalls decls (c ∷ [])
one_fact decls c h zero x e = let s : c ≡ x = cc in subst (CallFact decls) s h
one_fact decls c h (suc n) x e = cc

calls_are : (decls : List Decl) (is : Items) (cs : List core.Call) → AreCalls decls is cs → AllCalls decls cs
calls_are decls is cs no_call = no_calls decls
calls_are decls is cs (one_call {c = c} {i = i} {s = s} {vs = vs} {is = rest} {cs = ds} at e more) =
    let y : core.Call = record { section = number_at decls i (atomic s); arguments = vs } in
    let fact : CallFact decls y = record {
      place = i;
      section = s;
      at = (named_is bears decls c.section.text i (atomic s) at).here;
      number = refl;
      fit = arguments_got decls 0 s.params c.arguments vs e;
    } in
    both_calls decls (y ∷ []) ds (one_fact decls y fact) (calls_are decls rest ds more)
calls_are decls is cs (repeated {n = n} {js = js} {is = rest} {bs = bs} {cs = ds} first more) =
    both_calls decls (copies n.value bs) ds (copied_calls decls n.value bs (calls_are decls js bs first))
    (calls_are decls rest ds more)

-- ---- threads

threads_new : (decls : List Decl) (whole : core.Program) →
    NewRows decls whole (λ p. p.threads) (λ n t. AllCalls decls t.calls)
threads_new decls whole before (thread x) p st k t e =
    let n = st.news in
    only (λ m y. AllCalls decls y.calls) 0 (record { name = x.name.text; calls = n.0 })
    (calls_are decls x.items n.0 n.1)
    k t e
threads_new decls whole before d p st k t e = no_row k t e

pub threads_of : (decls : List Decl) → Clean decls → (whole : core.Program) → AreTables decls whole →
    (n : ℕ) (t : core.Thread) → slice_get whole.threads n ≡ Some t → (k : ℕ) (c : core.Call) →
    slice_get t.calls k ≡ Some c → CallFact decls c
threads_of decls clean whole is =
    each_row decls clean whole is (λ p. p.threads) (λ p a. refl) refl (λ n t. AllCalls decls t.calls)
    (threads_new decls whole)

-- ---- the parameters of a section or a helper

-- a parameter is a local of its type
abbrev parameter_of : List Decl → Param → scope.Local
parameter_of decls p = record {
  name = p.name.text;
  kind = kind.Parameter;
  value_type = type_of (outside decls) p.value_type;
  is_visible = true;
}

-- after parameters stand the locals ahead of them, and theirs
entered_locals : (sc : Scope) (ps : List Param) →
    (entered sc ps).locals ≡ sc.locals ++ map (parameter_of sc.decls) ps
entered_locals sc [] = sym (append-nil sc.locals)
entered_locals sc (p ∷ ps) =
    let x = parameter_of sc.decls p in
    entered_locals (bound sc kind.Parameter p.name x.value_type) ps
    ∙ append_assoc sc.locals (x ∷ []) (map (parameter_of sc.decls) ps)

pub record Sectioned (decls : List Decl) (limits : BodyLimits) (s : Section) (x : core.Section) : Type 0 where
  pub locals : TypesLocals (after_all (entry decls limits s) s.body.stmts).locals x.locals
  pub parameters : x.parameters ≡ length s.params
  pub result : x.result_type ≡ result_of decls s

result_typed : (decls : List Decl) (t : Option ValueType) (r : Option core.Return) (u : Option core_type.ValueType) →
    TypesResult decls t r u → u ≡ (t >>= λ v. type_of (outside decls) v)
result_typed decls t r u no_result = refl
result_typed decls t r u (one_result e) = sym e

pub sectioned : (decls : List Decl) (limits : BodyLimits) (s : Section) (x : core.Section) →
    TypesSection decls limits s x → Sectioned decls limits s x
sectioned decls limits s x (types_section {r = r} {t = t} body result listed locals) =
    record { locals = locals; parameters = refl; result = result_typed decls s.result r t result }

-- a parameter's local
pub parameter_local : (decls : List Decl) (limits : BodyLimits) (s : Section) (x : core.Section) →
    TypesSection decls limits s x → (n : ℕ) (p : Param) → slice_get s.params n ≡ Some p →
    (y : core.Local) × (slice_get x.locals n ≡ Some y) × (type_of (outside decls) p.value_type ≡ Some y.value_type)
parameter_local decls limits s x e n p at =
    let l = parameter_of decls p in
    let here : slice_get (entry decls limits s).locals n ≡ Some l =
    ap (λ (ls : List scope.Local). slice_get ls n) (entered_locals (ahead_of decls limits s) s.params)
    ∙ map_at (parameter_of decls) s.params n p at in
    let g = locals_got (sectioned decls limits s x e).locals n l
    (all_front (entry decls limits s) s.body.stmts n l here) in
    (g.0, g.1, g.3)

-- ---- a section, by its declaration

pub section_at : (decls : List Decl) → Clean decls → (whole : core.Program) → AreTables decls whole →
    (i : ℕ) (s : Section) → slice_get decls i ≡ Some (atomic s) →
    (x : core.Section) × (slice_get whole.sections (number_at decls i (atomic s)) ≡ Some x) ×
    TypesSection decls section_limits s x
section_at decls clean whole is i s at =
    let l = lands decls clean whole is i (atomic s) at in
    let x = l.step.news.0 in
    (x, numbered_row (λ z. z.sections) (λ z a. refl) l x refl (l.step.counts.sections s), l.step.news.1)

-- the same of a helper
pub helper_at : (decls : List Decl) → Clean decls → (whole : core.Program) → AreTables decls whole →
    (i : ℕ) (s : Section) → slice_get decls i ≡ Some (helper s) →
    (x : core.Section) × (slice_get whole.helpers (number_at decls i (helper s)) ≡ Some x) ×
    TypesSection decls helper_limits s x
helper_at decls clean whole is i s at =
    let l = lands decls clean whole is i (helper s) at in
    let x = l.step.news.0 in
    (x, numbered_row (λ z. z.helpers) (λ z a. refl) l x refl (l.step.counts.helpers s), l.step.news.1)

-- the types of the first locals are those of the parameters
types_are : (decls : List Decl) (ps : List Param) (ls : List core.Local) →
    ((k : ℕ) (p : Param) → slice_get ps k ≡ Some p →
    (y : core.Local) × (slice_get ls k ≡ Some y) × (type_of (outside decls) p.value_type ≡ Some y.value_type)) →
    TypesAre decls ps (types_of (take (length ps) ls))
types_are decls [] ls up = tt
types_are decls (p ∷ ps) [] up = let r = up 0 p refl in let e = r.1 in cc
types_are decls (p ∷ ps) (l ∷ ls) up =
    let r = up 0 p refl in
    let same : l ≡ r.0 = (let e = r.1 in cc) in
    (r.2 ∙ ap (λ (y : core.Local). Some y.value_type) (sym same), types_are decls ps ls (λ k q e. up (suc k) q e))

-- each helper is at its number
pub has_helpers : (decls : List Decl) → Clean decls → (whole : core.Program) → AreTables decls whole →
    HasHelpers decls whole
has_helpers decls clean whole is i s at =
    let x = helper_at decls clean whole is i s at in
    let made = sectioned decls helper_limits s x.0 x.2 in
    record {
      section = x.0;
      there = x.1;
      parameters = subst (λ (n : ℕ). TypesAre decls s.params (types_of (take n x.0.locals))) (sym made.parameters) (types_are decls s.params x.0.locals (λ k p e. parameter_local decls helper_limits s x.0 x.2 k p e));
      result = made.result;
    }

-- an argument has its parameter's type
pub argument_holds : (decls : List Decl) → Clean decls → (whole : core.Program) → AreTables decls whole →
    (n : ℕ) (p : Param) (v : Value) (t : core_type.ValueType) → Argument decls n p v →
    type_of (outside decls) p.value_type ≡ Some t → Holds whole t v
argument_holds decls clean whole is n p v t a e =
    const_holds decls clean whole is t a.0 v
    (subst (λ (o : Option core_type.ValueType). Yields decls (want o) a.0 v) e a.1)
