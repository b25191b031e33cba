-- Resolved sections are well typed and well scoped.
use Rattle.std.proofs.Common.{◌≡◌, ◌≢◌, ℕ, zero, suc, ◌+◌, ◌<◌, ◌≤◌, List, [], ◌∷◌, ◌++◌, length, Option, Some, None}
use Rattle.std.proofs.Common.{true, refl, sym, ap, ◌∙◌, subst, arith}
use Rattle.std.specs.Prelude.{slice_get, option_map}
use Rattle.std.specs.List.{Contains}
use Rattle.std.proofs.lemmas.Option.{slice_get_within}
use Rattle.syntax.specs.Trees.{Stmt, let_local, let_owned, let_call, var_local, assign, if_then, while, print}
use Rattle.syntax.specs.Trees.{return_value, call, Stmts, no_stmts, stmt, Otherwise, no_else, else_do, Param, Section}
use Rattle.syntax.specs.Trees.{Decl}
use Rattle.core_lang.specs.declared.value.ValueType as core_type
use Rattle.core_lang.specs.declared.tree.LocalKind.TheVariants as kind
use Rattle.core_lang.specs.declared.tree.Local as the_local
use Rattle.core_lang.specs.declared.tree.Section as the_section
use Rattle.core_lang.specs.declared.typed.Typed.{Typed}
use Rattle.core_lang.specs.Typing.{local_types, IsWellTypedSection}
use Rattle.core_lang.specs.Scopes.{numbers_from, scope_after_all, IsWellScoped}
use Rattle.core_lang.specs.Theory.Items.{map_at, get_some}
use Rattle.resolution.specs.declared.body_limits.BodyLimits.{BodyLimits}
use Rattle.resolution.specs.Core as core
use Rattle.resolution.specs.CoreViews.{core_expr, core_stmts, core_return, core_local, core_locals as locals_view}
use Rattle.resolution.specs.CoreViews.{core_section, core_of}
use Rattle.resolution.specs.Scopes as scopes
use Rattle.resolution.specs.Scopes.{Scope, outside, type_of, bound, hidden, hidden_from, left, entered}
use Rattle.resolution.specs.Statements.{after, after_else, after_all, ahead_of, entry}
use Rattle.resolution.specs.Working.TypedSections.{typed_section}
use Rattle.resolution.proofs.Typed.{types_of, AllAct, Returns, body_typed, result_typed}
use Rattle.resolution.proofs.TypedResolvedExprs.{Sound}
use Rattle.resolution.proofs.TypedCalls.{HasHelpers}
use Rattle.resolution.proofs.TypedStatements.{all_front, locals_got, section_typed}
use Rattle.resolution.proofs.Scoped.{Names, StmtsName, behind_all, all_binding, all_assigning, body_scoped, body_behind}
use Rattle.resolution.proofs.Scoped.{body_binding, body_assigning, result_scoped}
use Rattle.resolution.proofs.ScopedStatements.{IsVarAt, Become, ReturnDone, numbers_cover, body_done}
use Rattle.resolution.specs.Typing.{TypesBody, TypesLocals, no_local, one_local, TypesSection, types_section}
use Rattle.resolution.proofs.StatementRules.{types_the_section}

-- ---- well typed

types_same : (ls : List the_local.Local) → types_of (locals_view ls) ≡ local_types ls
types_same [] = refl
types_same (l ∷ ls) = ap (λ (ts : List core_type.ValueType). l.value_type ∷ ts) (types_same ls)

pub section_well_typed : (decls : List Decl) (program : Typed) → Sound decls (core_of program) →
    HasHelpers decls (core_of program) → (limits : BodyLimits) (s : Section) (x : the_section.Section) →
    typed_section decls limits s ≡ Some (core_section x) → IsWellTypedSection program x
section_well_typed decls program sound helpers limits s x e =
    let ok = section_typed decls (core_of program) sound helpers limits s (core_section x) e in
    let same = types_same x.locals.items in
    record {
      body = body_typed program (local_types x.locals.items) x.body.items
          (subst (λ (ts : List core_type.ValueType). AllAct (core_of program) ts (core_stmts x.body.items)) same
          ok.body);
      result = result_typed program (local_types x.locals.items) x.result_type x.result
          (subst (λ (ts : List core_type.ValueType). Returns (core_of program) ts x.result_type
          (option_map core_return x.result)) same ok.result);
    }

-- ---- the kinds of locals

-- no local from this index on is a parameter
abbrev NoneFrom : ℕ → List scopes.Local → Type 0
NoneFrom n ls = (k : ℕ) (l : scopes.Local) → slice_get ls k ≡ Some l → n ≤ k → l.kind ≢ kind.Parameter

none_push : (n : ℕ) (ls : List scopes.Local) (x : scopes.Local) → x.kind ≢ kind.Parameter → NoneFrom n ls →
    NoneFrom n (ls ++ x ∷ [])
none_push n [] x o h zero l e le = let s : x ≡ l = cc in λ p. o (ap (λ (y : scopes.Local). y.kind) s ∙ p)
none_push n [] x o h (suc k) l e le = cc
none_push n (y ∷ ls) x o h zero l e le = h 0 l e le
none_push zero (y ∷ ls) x o h (suc k) l e le =
    none_push zero ls x o (λ j m g i. h (suc j) m g (omega arith)) k l e (omega arith)
none_push (suc n) (y ∷ ls) x o h (suc k) l e le =
    none_push n ls x o (λ j m g i. h (suc j) m g (omega (arith, i))) k l e (omega (arith, le))

none_hidden : (n j : ℕ) (ls : List scopes.Local) → NoneFrom n ls → NoneFrom n (hidden_from j ls)
none_hidden n j [] h k l e le = cc
none_hidden n zero (x ∷ ls) h zero l e le = let s : hidden x ≡ l =
    cc in λ p. h 0 x refl le (ap (λ (y : scopes.Local). y.kind) s ∙ p)
none_hidden zero zero (x ∷ ls) h (suc k) l e le =
    none_hidden zero zero ls (λ j m g i. h (suc j) m g (omega arith)) k l e (omega arith)
none_hidden (suc n) zero (x ∷ ls) h (suc k) l e le =
    none_hidden n zero ls (λ j m g i. h (suc j) m g (omega (arith, i))) k l e (omega (arith, le))
none_hidden n (suc j) (x ∷ ls) h zero l e le = h 0 l e le
none_hidden zero (suc j) (x ∷ ls) h (suc k) l e le =
    none_hidden zero j ls (λ i m g q. h (suc i) m g (omega arith)) k l e (omega arith)
none_hidden (suc n) (suc j) (x ∷ ls) h (suc k) l e le =
    none_hidden n j ls (λ i m g q. h (suc i) m g (omega (arith, q))) k l e (omega (arith, le))

let_is : kind.Let ≢ kind.Parameter
let_is e = cc

var_is : kind.Var ≢ kind.Parameter
var_is e = cc

mutual
  none_after : (n : ℕ) (sc : Scope) (s : Stmt) → NoneFrom n sc.locals → NoneFrom n (after sc s).locals
  none_after n sc (let_local l) h =
      none_push n sc.locals
      (record { name = l.name.text; kind = kind.Let; value_type = type_of sc l.value_type; is_visible = true }) let_is h
  none_after n sc (let_owned l o) h =
      none_push n sc.locals
      (record { name = l.name.text; kind = kind.Let; value_type = type_of sc l.value_type; is_visible = true }) let_is h
  none_after n sc (let_call l) h =
      none_push n sc.locals
      (record { name = l.name.text; kind = kind.Let; value_type = type_of sc l.value_type; is_visible = true }) let_is h
  none_after n sc (var_local l) h =
      none_push n sc.locals
      (record { name = l.name.text; kind = kind.Var; value_type = type_of sc l.value_type; is_visible = true }) var_is h
  none_after n sc (assign q e) h = h
  none_after n sc (if_then start e body close other) h =
      none_else n (left sc (after_all sc body)) other
      (none_hidden n (length sc.locals) (after_all sc body).locals (none_all n sc body h))
  none_after n sc (while start e body close) h =
      none_hidden n (length sc.locals) (after_all sc body).locals (none_all n sc body h)
  none_after n sc (print start e) h = h
  none_after n sc (return_value start e) h = h
  none_after n sc (call start c) h = h

  none_else : (n : ℕ) (sc : Scope) (o : Otherwise) → NoneFrom n sc.locals → NoneFrom n (after_else sc o).locals
  none_else n sc no_else h = h
  none_else n sc (else_do body close) h =
      none_hidden n (length sc.locals) (after_all sc body).locals (none_all n sc body h)

  none_all : (n : ℕ) (sc : Scope) (ss : Stmts) → NoneFrom n sc.locals → NoneFrom n (after_all sc ss).locals
  none_all n sc no_stmts h = h
  none_all n sc (stmt s rest) h = none_all n (after sc s) rest (none_after n sc s h)

-- all of them are parameters
abbrev AllParameters : List scopes.Local → Type 0
AllParameters ls = (k : ℕ) (l : scopes.Local) → slice_get ls k ≡ Some l → l.kind ≡ kind.Parameter

parameters_push : (ls : List scopes.Local) (x : scopes.Local) → x.kind ≡ kind.Parameter → AllParameters ls →
    AllParameters (ls ++ x ∷ [])
parameters_push [] x o h zero l e = let s : x ≡ l = cc in sym (ap (λ (y : scopes.Local). y.kind) s) ∙ o
parameters_push [] x o h (suc k) l e = cc
parameters_push (y ∷ ls) x o h zero l e = h 0 l e
parameters_push (y ∷ ls) x o h (suc k) l e = parameters_push ls x o (λ j m g. h (suc j) m g) k l e

parameters_entered : (sc : Scope) (ps : List Param) → AllParameters sc.locals → AllParameters (entered sc ps).locals
parameters_entered sc [] h = h
parameters_entered sc (p ∷ ps) h =
    parameters_entered (bound sc kind.Parameter p.name (type_of (outside sc.decls) p.value_type)) ps
    (parameters_push sc.locals
    (record {
      name = p.name.text;
      kind = kind.Parameter;
      value_type =
          type_of (outside sc.decls) p.value_type;
      is_visible = true;
    }) refl h)

push_length : {A : Type 0} (xs : List A) (y : A) → length (xs ++ y ∷ []) ≡ length xs + 1
push_length [] y = refl
push_length (x ∷ xs) y = let r = push_length xs y in omega (arith, r)

pub entered_length : (sc : Scope) (ps : List Param) → length (entered sc ps).locals ≡ length sc.locals + length ps
entered_length sc [] = omega arith
entered_length sc (p ∷ ps) =
    let x : scopes.Local =
    record {
      name = p.name.text;
      kind = kind.Parameter;
      value_type =
          type_of (outside sc.decls) p.value_type;
      is_visible = true;
    } in
    let r = entered_length (bound sc kind.Parameter p.name (type_of (outside sc.decls) p.value_type)) ps in
    let l = push_length sc.locals x in
    omega (arith, r, l)

-- ---- well scoped

pub locals_length : {ls : List scopes.Local} {xs : List core.Local} → TypesLocals ls xs → length xs ≡ length ls
locals_length no_local = refl
locals_length (one_local is k) = ap suc (locals_length k)

-- a section whose locals are named in scope, bound once and kept by kind
pub record ScopedOk (x : core.Section) : Type 0 where
  pub bound : numbers_from 0 x.parameters ++ all_binding x.body ≡ numbers_from 0 (length x.locals)
  pub kinds : (k : ℕ) (l : core.Local) → slice_get x.locals k ≡ Some l →
      (k < x.parameters → l.kind ≡ kind.Parameter) × (x.parameters ≤ k → l.kind ≢ kind.Parameter)
  pub assigned : (k : ℕ) → Contains (all_assigning x.body) k → IsVarAt x.locals k
  pub body : StmtsName (numbers_from 0 x.parameters) x.body
  pub result : (r : core.Return) → x.result ≡ Some r → Names (behind_all (numbers_from 0 x.parameters) x.body) r.value

module _ (decls : List Decl) (limits : BodyLimits) (s : Section) (xs : List core.Local)
    (are : TypesLocals (after_all (entry decls limits s) s.body.stmts).locals xs) where
  abbrev sc : Scope
  sc = entry decls limits s

  abbrev ends : List scopes.Local
  ends = (after_all (entry decls limits s) s.body.stmts).locals

  params : length sc.locals ≡ length s.params
  params = let r = entered_length (ahead_of decls limits s) s.params in omega (arith, r)

  becomes : Become ends xs
  becomes n l e = let r = locals_got are n l e in (r.0, r.1, r.2)

  kinds_are : (k : ℕ) (x : core.Local) → slice_get xs k ≡ Some x →
      (k < length s.params → x.kind ≡ kind.Parameter) × (length s.params ≤ k → x.kind ≢ kind.Parameter)
  kinds_are k x e =
      let len = locals_length are in
      let lt = slice_get_within xs k x e in
      let at = get_some ends k (let z : k < length ends = omega (arith, len, lt) in z) in
      let r = locals_got are k at.0 at.1 in
      let same : Some r.0 ≡ Some x = sym r.1 ∙ e in
      let kd : x.kind ≡ at.0.kind = (let q : r.0 ≡ x = cc in sym (ap (λ (y : core.Local). y.kind) q) ∙ r.2) in (
        (λ less. kd ∙ first_kind k at.0 at.1 less),
        (λ le p. none_all (length s.params) sc s.body.stmts none_yet k at.0 at.1 le (sym kd ∙ p)),
      )
    where
      none_yet : NoneFrom (length s.params) sc.locals
      none_yet j l g le = let lt = slice_get_within sc.locals j l g in let q = params in absurd (omega (arith, lt, q, le))

      first_kind : (k : ℕ) (l : scopes.Local) → slice_get ends k ≡ Some l → k < length s.params →
          l.kind ≡ kind.Parameter
      first_kind k l e less =
          let q = params in
          let at = get_some sc.locals k (let z : k < length sc.locals = omega (arith, q, less) in z) in
          let h = all_front sc s.body.stmts k at.0 at.1 in
          let same : Some at.0 ≡ Some l = sym h ∙ e in
          let o : at.0 ≡ l = cc in
          sym (ap (λ (y : scopes.Local). y.kind) o)
          ∙ parameters_entered (ahead_of decls limits s) s.params (λ j m g. cc) k at.0 at.1

  scoped_put : {block : core.Stmts} {r : Option core.Return} (t : Option core_type.ValueType) (classes : List ℕ) →
      TypesBody sc s.body.stmts block r →
      ScopedOk (record {
        name = s.name.text;
        parameters = length s.params;
        locals = xs;
        result_type = t;
        listed = classes;
        body =
            block;
        result = r;
      })
  scoped_put {block = block} {r = r} t classes b =
      let h = body_done xs b (numbers_from 0 (length sc.locals)) (numbers_cover sc.locals) becomes in
      let len = locals_length are in
      record {
        bound = ap (λ (n : ℕ). numbers_from 0 n ++ all_binding block) (sym params) ∙ h.0.bound
            ∙ ap (numbers_from 0) (sym len);
        kinds = kinds_are;
        assigned = h.0.assigned;
        body = subst (λ (n : ℕ). StmtsName (numbers_from 0 n) block) params h.0.named;
        result = λ q e. given r q e h.1;
      }
    where
      given : (o : Option core.Return) (q : core.Return) → o ≡ Some q →
          ReturnDone xs (behind_all (numbers_from 0 (length sc.locals)) block) o →
          Names (behind_all (numbers_from 0 (length s.params)) block) q.value
      given None q e g = cc
      given (Some w) q e g = let same : w ≡ q =
          cc in subst (λ (n : ℕ). Names (behind_all (numbers_from 0 n) block) q.value) params
          (subst (λ (y : core.Return). Names (behind_all (numbers_from 0 (length sc.locals)) block) y.value) same g)

section_scoped : {decls : List Decl} {limits : BodyLimits} {s : Section} {x : core.Section} →
    TypesSection decls limits s x →
    ScopedOk x
section_scoped {decls = decls} {limits = limits} {s = s} (types_section {locals = locals} {t = t} {classes = classes} b q l ls) =
    scoped_put decls limits s locals ls t classes b

view_length : (ls : List the_local.Local) → length (locals_view ls) ≡ length ls
view_length [] = refl
view_length (l ∷ ls) = ap suc (view_length ls)

var_at : (ls : List the_local.Local) (k : ℕ) (l : the_local.Local) → IsVarAt (locals_view ls) k →
    slice_get ls k ≡ Some l → l.kind ≡ kind.Var
var_at ls k l h e =
    let g = map_at core_local ls k l e in
    let same : Some h.0 ≡ Some (core_local l) = sym h.1 ∙ g in
    let q : h.0 ≡ core_local l = cc in
    sym (ap (λ (y : core.Local). y.kind) q) ∙ h.2

pub section_well_scoped : (decls : List Decl) (limits : BodyLimits) (s : Section) (x : the_section.Section) →
    typed_section decls limits s ≡ Some (core_section x) → IsWellScoped x
section_well_scoped decls limits s x e =
    let ok = section_scoped (types_the_section decls limits s (core_section x) e) in
    record {
      bound = ap (λ (l : List ℕ). numbers_from 0 x.parameters ++ l) (sym (body_binding x.body.items)) ∙ ok.bound
          ∙ ap (numbers_from 0) (view_length x.locals.items);
      kinds = λ k l at. ok.kinds k (core_local l) (map_at core_local x.locals.items k l at);
      assigned = λ k l c at. var_at x.locals.items k l
          (ok.assigned k (subst (λ (q : List ℕ). Contains q k) (sym (body_assigning x.body.items)) c)) at;
      body = body_scoped (numbers_from 0 x.parameters) x.body.items ok.body;
      result = result_scoped (scope_after_all (numbers_from 0 x.parameters) x.body.items) x.result
          (λ r is. subst (λ (w : List ℕ). Names w (core_expr r.value))
          (body_behind (numbers_from 0 x.parameters) x.body.items)
          (ok.result (core_return r) (ap (option_map core_return) is)));
    }
