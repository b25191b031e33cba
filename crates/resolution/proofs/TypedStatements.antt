-- Resolved statements and sections are well typed.
use Rattle.std.proofs.Common.{◌≡◌, ℕ, zero, suc, List, [], ◌∷◌, ◌++◌, length, Option, Some, None, true, refl, sym, ap}
use Rattle.std.proofs.Common.{◌∙◌, subst}
use Rattle.std.specs.Prelude.{slice_get, ⊤}
use Rattle.syntax.specs.Trees.{Ident, ValueType, Place, Stmt, let_local, let_owned, let_call, var_local, assign}
use Rattle.syntax.specs.Trees.{if_then, while, print, return_value, call, Stmts, no_stmts, stmt, Otherwise, no_else}
use Rattle.syntax.specs.Trees.{else_do, Section, Decl, global, array}
use Rattle.core_lang.specs.declared.value.ValueType as core_type
use Rattle.core_lang.specs.declared.value.ValueType.TheVariants.{Integer, Reference}
use Rattle.core_lang.specs.declared.tree.LocalKind.{LocalKind}
use Rattle.core_lang.specs.declared.tree.LocalKind.TheVariants as kind
use Rattle.core_lang.specs.declared.tree.FieldStep.{FieldStep}
use Rattle.core_lang.specs.declared.tree.FieldStep.TheVariants as step
use Rattle.core_lang.specs.Theory.Items.{still_at, map_at}
use Rattle.resolution.specs.declared.body_limits.BodyLimits.{BodyLimits}
use Rattle.resolution.specs.Core as core
use Rattle.resolution.specs.Scopes as scope
use Rattle.resolution.specs.Scopes.{◌>>=◌, Scope, outside, type_of, bound, hidden, hidden_from, left}
use Rattle.resolution.specs.Statements.{after, after_else, after_all, ahead_of}
use Rattle.resolution.proofs.FaultlessSections.{entered_result}
use Rattle.resolution.proofs.Typed.{types_of, field_in, Leads, Is, Taken, Acts, AllAct, Returns}
use Rattle.resolution.specs.Theory.Facts.{after_result}
use Rattle.resolution.specs.Typing.{Assigns, assigns_local, assigns_global, assigns_element, assigns_field, TypesStmt}
use Rattle.resolution.specs.Typing.{types_let, types_owned, types_let_call, types_var, types_assign, types_if}
use Rattle.resolution.specs.Typing.{types_if_else, types_while, types_print, types_call_alone, TypesBody, types_none}
use Rattle.resolution.specs.Typing.{types_return, types_next, TypesLocals, no_local, one_local, TypesResult, no_result}
use Rattle.resolution.specs.Typing.{one_result, TypesSection, types_section}
use Rattle.resolution.specs.Working.TypedSections.{typed_section}
use Rattle.resolution.proofs.StatementRules.{types_the_section}
use Rattle.resolution.proofs.TypedResolvedExprs.{Sound, Have, local_meant, decl_there, path_leads, expr_good}
use Rattle.resolution.proofs.TypedResolvedExprs.{value_good, wanted_good}
use Rattle.resolution.proofs.TypedOwners.{owner_good}
use Rattle.resolution.proofs.TypedCalls.{HasHelpers, call_good}
use Rattle.resolution.specs.Theory.Blocks.{after_decls, entered_decls}

-- ---- locals stay

-- each local of the first list is one of the second, seen or not
abbrev pub Kept : List scope.Local → List scope.Local → Type 0
Kept a b = (n : ℕ) (l : scope.Local) → slice_get a n ≡ Some l →
    (k : scope.Local) × (slice_get b n ≡ Some k) × (k.value_type ≡ l.value_type) × (k.kind ≡ l.kind)

pub kept_push : (a : List scope.Local) (x : scope.Local) → Kept a (a ++ x ∷ [])
kept_push a x n l e = (l, still_at a (x ∷ []) n l e, refl, refl)

pub kept_hidden : (k : ℕ) (a : List scope.Local) → Kept a (hidden_from k a)
kept_hidden k [] n l e = cc
kept_hidden zero (x ∷ xs) zero l e = let s : x ≡ l =
    cc in (hidden x, refl, ap (λ (y : scope.Local). y.value_type) s, ap (λ (y : scope.Local). y.kind) s)
kept_hidden zero (x ∷ xs) (suc n) l e = kept_hidden zero xs n l e
kept_hidden (suc k) (x ∷ xs) zero l e = (l, e, refl, refl)
kept_hidden (suc k) (x ∷ xs) (suc n) l e = kept_hidden k xs n l e

-- the second list begins with the first one
abbrev pub Front : List scope.Local → List scope.Local → Type 0
Front a b = (n : ℕ) (l : scope.Local) → slice_get a n ≡ Some l → slice_get b n ≡ Some l

pub front_left : (a b : List scope.Local) → Front a b → Front a (hidden_from (length a) b)
front_left [] b f n l e = cc
front_left (x ∷ a) [] f n l e = let h : slice_get [] n ≡ Some l = f n l e in cc
front_left (x ∷ a) (y ∷ b) f zero l e = f 0 l e
front_left (x ∷ a) (y ∷ b) f (suc n) l e = front_left a b (λ j k h. f (suc j) k h) n l e

mutual
  pub after_front : (sc : Scope) (s : Stmt) → Front sc.locals (after sc s).locals
  after_front sc (let_local l) n k e =
      still_at sc.locals
      (record { name = l.name.text; kind = kind.Let; value_type = type_of sc l.value_type; is_visible = true } ∷ []) n
      k e
  after_front sc (let_owned l o) n k e =
      still_at sc.locals
      (record { name = l.name.text; kind = kind.Let; value_type = type_of sc l.value_type; is_visible = true } ∷ []) n
      k e
  after_front sc (let_call l) n k e =
      still_at sc.locals
      (record { name = l.name.text; kind = kind.Let; value_type = type_of sc l.value_type; is_visible = true } ∷ []) n
      k e
  after_front sc (var_local l) n k e =
      still_at sc.locals
      (record { name = l.name.text; kind = kind.Var; value_type = type_of sc l.value_type; is_visible = true } ∷ []) n
      k e
  after_front sc (assign p x) n k e = e
  after_front sc (if_then start x body close other) n k e =
      else_front (left sc (after_all sc body)) other n k
      (front_left sc.locals (after_all sc body).locals (all_front sc body) n k e)
  after_front sc (while start x body close) n k e =
      front_left sc.locals (after_all sc body).locals (all_front sc body) n k e
  after_front sc (print start x) n k e = e
  after_front sc (return_value start x) n k e = e
  after_front sc (call start x) n k e = e

  pub else_front : (sc : Scope) (o : Otherwise) → Front sc.locals (after_else sc o).locals
  else_front sc no_else n k e = e
  else_front sc (else_do body close) n k e = front_left sc.locals (after_all sc body).locals (all_front sc body) n k e

  pub all_front : (sc : Scope) (ss : Stmts) → Front sc.locals (after_all sc ss).locals
  all_front sc no_stmts n k e = e
  all_front sc (stmt s rest) n k e = all_front (after sc s) rest n k (after_front sc s n k e)

front_kept : (a b : List scope.Local) → Front a b → Kept a b
front_kept a b f n l e = (l, f n l e, refl, refl)

-- locals that have types have them before more are bound
pub have_before : (a b : List scope.Local) (types : List core_type.ValueType) → Kept a b → Have b types → Have a types
have_before a b types k h n l t e is = let x = k n l e in h n x.0 t x.1 (x.2 ∙ is)

pub have_front : (a b : List scope.Local) (types : List core_type.ValueType) → Front a b → Have b types → Have a types
have_front a b types f h = have_before a b types (front_kept a b f) h

-- the type of a local that has just been bound
pub last_local : (a : List scope.Local) (x : scope.Local) → slice_get (a ++ x ∷ []) (length a) ≡ Some x
last_local [] x = refl
last_local (y ∷ a) x = last_local a x

-- ---- statements

module _ (decls : List Decl) (p : core.Program) (types : List core_type.ValueType) (sound : Sound decls p)
    (helpers : HasHelpers decls p) where
  sound_at : (sc : Scope) → sc.decls ≡ decls → Sound sc.decls p
  sound_at sc same = subst (λ (ds : List Decl). Sound ds p) (sym same) sound

  helpers_at : (sc : Scope) → sc.decls ≡ decls → HasHelpers sc.decls p
  helpers_at sc same = subst (λ (ds : List Decl). HasHelpers ds p) (sym same) helpers

  -- the last step goes over a field of the struct to which the earlier ones lead
  splits : (from : core_type.ValueType) (base : List FieldStep) (k n : ℕ) (t : core_type.ValueType) →
      Leads p types from (base ++ step.Field k n ∷ []) t →
      Leads p types from base (Reference k) × (field_in p k n ≡ Some t)
  splits Integer [] k n t h = absurd h
  splits Integer (r ∷ base) k n t h = absurd h
  splits (Reference s) [] k n t h =
      let f : field_in p s n ≡ Some t = h.2 ∙ ap Some h.3 in
      let from_is : ◌≡◌ {A = core_type.ValueType} (Reference s) (Reference k) = ap (λ (x : ℕ). Reference x) (sym h.0) in
      (from_is, subst (λ (x : ℕ). field_in p x n ≡ Some t) (sym h.0) f)
  splits (Reference s) (step.Field j m ∷ base) k n t h = let r =
      splits h.1 base k n t h.3 in ((h.0, h.1, h.2, r.0), r.1)
  splits (Reference s) (step.Final j m ∷ base) k n t h = let r =
      splits (Reference h.1) base k n t h.3 in ((h.0, h.1, h.2, r.0), r.1)

  set_good : {sc : Scope} {q : Place} {t : core_type.ValueType} {set : core.Expr → core.Action} (so : Sound sc.decls p)
      (have : Have sc.locals types) (x : core.Expr) →
      Assigns sc q t set → Is p types x t → Acts p types (set x)
  set_good {sc = sc} so have x (assigns_local {x = y} {i = i} {l = l} {t = t} is can h) g =
      (t, have i l t (local_meant sc p types so have y.text i l is) h, g)
  set_good {sc = sc} so have x (assigns_global {x = y} {i = i} {v = v} {t = t} is h) g =
      (t, so.cell i v t (decl_there sc p types so have y.text i (global v) is) h, g)
  set_good {sc = sc} so have x (assigns_element {x = y} {i = i} {a = a} {t = t} is h d) g =
      (t, so.array i a t (decl_there sc p types so have y.text i (array a) is) h, expr_good sc p types so have d, g)
  set_good {sc = sc} so have x
      (assigns_field {x = y} {fs = fs} {i = i} {k = k} {n = n} {l = l} {base = base} {t = t} is at) g =
      let path = path_leads sc p types so have y.text i l fs (base ++ step.Field k n ∷ []) t is at in
      let r = splits path.0 base k n t path.2 in
      ((path.0, path.1, r.0), (t, r.1, g))

  -- if the section has a result type and a `return`, the returned value is of this type
  abbrev pub IfReturn : Option core_type.ValueType → Option core.Return → Type 0
  IfReturn result None = ⊤
  IfReturn result (Some r) = (t : core_type.ValueType) → result ≡ Some t → Is p types r.value t

  left_before : (a b : List scope.Local) (n : ℕ) → Have (hidden_from n b) types → Have b types
  left_before a b n h = have_before b (hidden_from n b) types (kept_hidden n b) h

  -- a local that is bound has its type, and those ahead of it have theirs
  record Bound (sc : Scope) (t : core_type.ValueType) : Type 0 where
    typed : slice_get types (length sc.locals) ≡ Some t
    before : Have sc.locals types

  bound_good : (sc : Scope) (k : LocalKind) (x : Ident) (o : Option core_type.ValueType) (t : core_type.ValueType) →
      o ≡ Some t →
      Have (bound sc k x o).locals types → Bound sc t
  bound_good sc k x o t is have =
      let l : scope.Local = record { name = x.text; kind = k; value_type = o; is_visible = true } in
      record {
        typed = have (length sc.locals) l t (last_local sc.locals l) is;
        before = have_before sc.locals (sc.locals ++ l ∷ []) types (kept_push sc.locals l) have;
      }

  mutual
    stmt_good : {sc : Scope} {s : Stmt} {start : ℕ} {action : core.Action} → TypesStmt sc s start action →
        sc.decls ≡ decls → Have (after sc s).locals types → Acts p types action
    stmt_good {sc = sc} (types_let {l = l} {t = t} is g) same have =
        let b = bound_good sc kind.Let l.name (type_of sc l.value_type) t is have in
        (t, b.typed, value_good sc p types (sound_at sc same) b.before g)
    stmt_good {sc = sc} (types_owned {l = l} {t = t} is g h) same have =
        let b = bound_good sc kind.Let l.name (type_of sc l.value_type) t is have in (
          t,
          b.typed,
          owner_good sc p types (sound_at sc same) b.before h
              (value_good sc p types (sound_at sc same) b.before g),
        )
    stmt_good {sc = sc} (types_let_call {l = l} {t = t} k is r) same have =
        let b = bound_good sc kind.Let l.name (type_of sc l.value_type) t is have in
        call_good sc p types (sound_at sc same) b.before (helpers_at sc same) (Some (length sc.locals)) k
        (subst (Taken p types (Some (length sc.locals))) (sym r) b.typed)
    stmt_good {sc = sc} (types_var {l = l} {t = t} is g) same have =
        let b = bound_good sc kind.Var l.name (type_of sc l.value_type) t is have in
        (t, b.typed, value_good sc p types (sound_at sc same) b.before g)
    stmt_good {sc = sc} (types_assign {x = x} h g) same have =
        set_good (sound_at sc same) have x h (value_good sc p types (sound_at sc same) have g)
    stmt_good {sc = sc} (types_if {body = body} h k) same have =
        let end = left_before sc.locals (after_all sc body).locals (length sc.locals) have in
        let before = have_front sc.locals (after_all sc body).locals types (all_front sc body) end in
        (expr_good sc p types (sound_at sc same) before h, (body_good k same end).0)
    stmt_good {sc = sc} (types_if_else {close = close} {end = close2} {body = body} {other = other} h k q) same have =
        let sc2 = left sc (after_all sc body) in
        let inner = have_front sc2.locals (after_else sc2 (else_do other close2)).locals types
        (else_front sc2 (else_do other close2)) have in
        let end = left_before sc.locals (after_all sc body).locals (length sc.locals) inner in
        let before = have_front sc.locals (after_all sc body).locals types (all_front sc body) end in (
          expr_good sc p types (sound_at sc same) before h,
          (body_good k same end).0,
          (body_good q same (left_before sc2.locals (after_all sc2 other).locals (length sc2.locals) have)).0,
        )
    stmt_good {sc = sc} (types_while {body = body} h k) same have =
        let end = left_before sc.locals (after_all sc body).locals (length sc.locals) have in
        let before = have_front sc.locals (after_all sc body).locals types (all_front sc body) end in
        (expr_good sc p types (sound_at sc same) before h, (body_good k same end).0)
    stmt_good {sc = sc} (types_print h) same have = expr_good sc p types (sound_at sc same) have h
    stmt_good {sc = sc} (types_call_alone k) same have =
        call_good sc p types (sound_at sc same) have (helpers_at sc same) None k tt

    body_good : {sc : Scope} {ss : Stmts} {block : core.Stmts} {r : Option core.Return} → TypesBody sc ss block r →
        sc.decls ≡ decls → Have (after_all sc ss).locals types → AllAct p types block × IfReturn sc.result r
    body_good types_none same have = (tt, tt)
    body_good {sc = sc} (types_return g) same have = (tt, λ t is. wanted_good sc p types (sound_at sc same) have t is g)
    body_good {sc = sc} (types_next {s = s} {rest = rest} {result = result} h k) same have =
        let a = stmt_good h same
        (have_front (after sc s).locals (after_all (after sc s) rest).locals types (all_front (after sc s) rest) have)
        in
        let b = body_good k (after_decls sc s ∙ same) have in
        ((a, b.0), subst (λ (w : Option core_type.ValueType). IfReturn w result) (after_result sc s) b.1)

-- ---- sections

-- a local resolved at its place
abbrev pub Resolved_at : List core.Local → ℕ → scope.Local → Type 0
Resolved_at xs n l = (x : core.Local) × (slice_get xs n ≡ Some x) × (x.kind ≡ l.kind) ×
    (l.value_type ≡ Some x.value_type)

-- each of a list of locals resolved
pub locals_got : {ls : List scope.Local} {xs : List core.Local} → TypesLocals ls xs →
    (n : ℕ) (l : scope.Local) → slice_get ls n ≡ Some l → Resolved_at xs n l
locals_got no_local n l at = cc
locals_got (one_local {l = y} {t = t} is k) zero l at =
    let same : y ≡ l = cc in (
      record { name = y.name; kind = y.kind; value_type = t },
      refl,
      ap (λ (q : scope.Local). q.kind) same,
      sym
          (ap (λ (q : scope.Local). q.value_type) same) ∙ is,
    )
locals_got (one_local is k) (suc n) l at = locals_got k n l at

locals_have : {ls : List scope.Local} {xs : List core.Local} → TypesLocals ls xs → Have ls (types_of xs)
locals_have {xs = xs} k n l t at is =
    let r = locals_got k n l at in
    let same : Some r.0.value_type ≡ Some t = sym r.3 ∙ is in
    map_at (λ (x : core.Local). x.value_type) xs n r.0 r.1 ∙ same

-- a section whose statements and result are well typed
pub record SectionOk (p : core.Program) (x : core.Section) : Type 0 where
  pub body : AllAct p (types_of x.locals) x.body
  pub result : Returns p (types_of x.locals) x.result_type x.result

module _ (decls : List Decl) (p : core.Program) (sound : Sound decls p) (helpers : HasHelpers decls p)
    (limits : BodyLimits) where
  result_good : {w : Option ValueType} {r : Option core.Return} {t : Option core_type.ValueType}
      (types : List core_type.ValueType) → TypesResult decls w r t →
      IfReturn decls p types sound helpers (◌>>=◌ {B = core_type.ValueType} w (λ x. type_of (outside decls) x)) r →
      Returns p types t r
  result_good types no_result h = tt
  result_good types (one_result {u = u} is) h = h u is

  section_good : {s : Section} {x : core.Section} → TypesSection decls limits s x → SectionOk p x
  section_good {s = s} (types_section {locals = locals} {r = r} b q l ls) =
      let good = body_good decls p (types_of locals) sound helpers b (entered_decls (ahead_of decls limits s) s.params)
      (locals_have ls) in
      record {
        body = good.0;
        result = result_good (types_of locals) q
            (subst (λ (w : Option core_type.ValueType). IfReturn decls p (types_of locals) sound helpers w r)
            (entered_result (ahead_of decls limits s) s.params) good.1);
      }

  pub section_typed : (s : Section) (x : core.Section) → typed_section decls limits s ≡ Some x → SectionOk p x
  section_typed s x e = section_good (types_the_section decls limits s x e)
