-- Sections and threads without a listed fault are resolved.
use Rattle.std.proofs.Common.{◌≡◌, ℕ, suc, ◌+◌, ◌≤◌, List, [], ◌∷◌, ◌++◌, length, Option, Some, None, Bool, true, false}
use Rattle.std.proofs.Common.{◌⊎◌, inl, inr, refl, sym, ap, ◌∙◌, subst, if◌then◌else◌, arith}
use Rattle.std.specs.Prelude.{nat_le, is_some, ◌==◌}
use Rattle.std.proofs.lemmas.Bool.{eqb-true}
use Rattle.source.specs.declared.fault.Code.TheVariants.{UnknownName, WrongType, WrongArgumentCount, LimitExceeded}
use Rattle.syntax.specs.Returns.{ReturnsRight, HasReturn, this_returns, returns_inside, later_returns, HasStrayReturn}
use Rattle.syntax.specs.Returns.{this_early, stray_inside, later_stray, EndsInReturn, IsSectionFault, no_result, stray}
use Rattle.syntax.specs.Returns.{missing, IsReturnFault, this_section, this_helper, later_section}
use Rattle.syntax.specs.Trees.{Ident, ValueType, ref_type, Const, Struct, Member, lock_member, final_member}
use Rattle.syntax.specs.Trees.{field_member, Param, ClassName, Section, Item, call, repeat, Items, no_items, item}
use Rattle.syntax.specs.Trees.{Stmts, stmt, Decl, lock, struct, global, array, pool, init, atomic, helper, thread}
use Rattle.core_lang.specs.declared.value.Value.{Value}
use Rattle.core_lang.specs.declared.value.ValueType as core_type
use Rattle.core_lang.specs.declared.tree.LocalKind.TheVariants as kind
use Rattle.resolution.specs.Core as core
use Rattle.source.specs.Texts.{SOURCE_LIMIT}
use Rattle.resolution.specs.declared.body_limits.BodyLimits.{BodyLimits}
use Rattle.resolution.specs.Scopes as scope
use Rattle.resolution.specs.Scopes.{◌>>=◌, Scope, outside, a_decl, number_at, the_decl, type_of, result_of, bound}
use Rattle.resolution.specs.Scopes.{entered, declared_as, bears, the_member, member_has_type, place_of, same_class}
use Rattle.resolution.specs.Constants.{AreArguments}
use Rattle.resolution.specs.Working.TypedConstants.{added}
use Rattle.resolution.specs.Statements.{ahead_of, entry}
use Rattle.resolution.specs.Working.TypedSections.{core_locals, class_at, class_in, class_named, classes_named}
use Rattle.resolution.specs.Working.TypedSections.{section_with, section_of, typed_section}
use Rattle.resolution.specs.Tables.{copies, AreCalls, no_call, one_call, repeated}
use Rattle.resolution.specs.Working.TypedStatements.{typed_body, Body}
use Rattle.resolution.specs.Statements.{after_all}
use Rattle.resolution.specs.Where.{Has, first, further, HasBody, of_section, of_helper, of_final, of_field}
use Rattle.resolution.specs.declared.why.Why.TheVariants as why
use Rattle.resolution.specs.declared.why.Role.TheVariants as role
use Rattle.resolution.specs.Working.FaultLists as list
use Rattle.resolution.specs.Working.Findings.{told}
use Rattle.resolution.specs.Working.FaultLists.{no_struct, no_lock_in, class_faults, again, listed_faults}
use Rattle.resolution.specs.Working.FaultLists.{reasoned, one_if, misnamed, type_faults, argument_faults, local_faults}
use Rattle.resolution.specs.Working.FaultLists.{stmts_faults, param_faults, result_faults, section_faults, call_faults}
use Rattle.resolution.specs.Working.FaultLists.{item_faults, items_faults}
use Rattle.resolution.proofs.Named.{named_is, member_is}
use Rattle.resolution.proofs.FaultlessExpressions.{NoneIn, none_left, none_right, not_one, not_found, at_has}
use Rattle.resolution.proofs.FaultlessExpressions.{known, known_named, unfit_not, decl_has}
use Rattle.resolution.proofs.FaultlessExpressions.{decl_typed, Clean, Typing, type_is, AllTyped, Context}
use Rattle.resolution.proofs.FaultlessStatements.{HasResult, typed_push, all_context, body_is}
use Rattle.resolution.proofs.FaultlessConstants.{arguments_are}
use Rattle.resolution.specs.Theory.Blocks.{entered_decls}

-- ---- scopes

pub entered_context : (sc : Scope) → Context sc → (n : ℕ) (ps : List Param) → NoneIn (param_faults sc n ps) →
    Context (entered sc ps)
entered_context sc c n [] none = c
entered_context sc c n (p ∷ ps) none =
    let a = local_faults sc p.name ++ one_if (nat_le sc.limits.parameters n) LimitExceeded p.name.span.start in
    let b = type_faults (outside sc.decls) p.value_type in
    let t = type_of (outside sc.decls) p.value_type in
    let rest = param_faults (bound sc kind.Parameter p.name t) (n + 1) ps in
    entered_context (bound sc kind.Parameter p.name t)
    (record { clean = c.clean; few = c.few; locals = typed_push sc.decls sc.locals (record { name = p.name.text; kind = kind.Parameter; value_type = t; is_visible = true }) c.locals (type_is (outside sc.decls) p.value_type (none_right a b (none_left (a ++ b) rest none))) })
    (n + 1) ps (none_right (a ++ b) rest none)

pub entered_result : (sc : Scope) (ps : List Param) → (entered sc ps).result ≡ sc.result
entered_result sc [] = refl
entered_result sc (p ∷ ps) = entered_result (bound sc kind.Parameter p.name (type_of (outside sc.decls) p.value_type)) ps

-- the limit of locals is at most SOURCE_LIMIT
few_locals : (decls : List Decl) (limits : BodyLimits) (s : Section) → HasBody decls limits s →
    limits.locals ≤ SOURCE_LIMIT
few_locals decls limits s (of_section h) = omega arith
few_locals decls limits s (of_helper h) = omega arith

pub entry_context : (decls : List Decl) → Clean decls → (limits : BodyLimits) (s : Section) → HasBody decls limits s →
    NoneIn (param_faults (ahead_of decls limits s) 0 s.params) → Context (entry decls limits s)
entry_context decls clean limits s h none = entered_context (ahead_of decls limits s) (record { clean = clean; locals = λ n l e. cc; few = few_locals decls limits s h }) 0 s.params none

locals_are : (decls : List Decl) (ls : List scope.Local) → AllTyped decls ls →
    (xs : List core.Local) × (core_locals ls ≡ Some xs)
locals_are decls [] all = ([], refl)
locals_are decls (l ∷ ls) all =
    let t = all 0 l refl in
    let r = locals_are decls ls (λ n x e. all (suc n) x e) in
    let x : core.Local = record { name = l.name; kind = l.kind; value_type = t.value_type } in
    (x ∷ r.0, ap (λ (o : Option core_type.ValueType). added (o >>= λ v. Some (record { name = l.name; kind = l.kind; value_type = v })) (core_locals ls)) t.is ∙ ap (added (Some x)) r.1)

-- ---- returns

stray_returns : (ss : Stmts) (at : ℕ) → HasStrayReturn ss at → HasReturn ss at
stray_returns ss at (this_early h) = this_returns h
stray_returns ss at (stray_inside h) = returns_inside h
stray_returns (stmt s more) at (later_stray h) = later_returns (stray_returns more at h)

section_in_right : (decls : List Decl) (s : Section) → Has decls (atomic s) → (at : ℕ) → IsSectionFault s at →
    IsReturnFault decls at
section_in_right [] s h at f = elim h [ ]
section_in_right (d ∷ ds) s first at f = this_section f
section_in_right (d ∷ ds) s (further h) at f = later_section (section_in_right ds s h at f)

helper_in_right : (decls : List Decl) (s : Section) → Has decls (helper s) → (at : ℕ) → IsSectionFault s at →
    IsReturnFault decls at
helper_in_right [] s h at f = elim h [ ]
helper_in_right (d ∷ ds) s first at f = this_helper f
helper_in_right (d ∷ ds) s (further h) at f = later_section (helper_in_right ds s h at f)

section_right : (decls : List Decl) (limits : BodyLimits) (s : Section) → HasBody decls limits s → (at : ℕ) →
    IsSectionFault s at → IsReturnFault decls at
section_right decls limits s (of_section h) at f = section_in_right decls s h at f
section_right decls limits s (of_helper h) at f = helper_in_right decls s h at f

-- ---- listed lock classes

module _ (decls : List Decl) (clean : Clean decls) where
  member_is_lock : (i p : ℕ) (s : Struct) → Has decls (struct s) → (o : Option (ℕ × Member)) →
      ((n : ℕ) (x : Member) → ◌≡◌ {A = Option (ℕ × Member)} o (Some (n, x)) → Has s.members x) →
      NoneIn (list.no_lock decls p o) → (n : ℕ) × (class_at decls i s.members o ≡ Some n)
  member_is_lock i p s h None up none = absurd (not_one UnknownName p none)
  member_is_lock i p s h (Some (n, lock_member x)) up none = (_, refl)
  member_is_lock i p s h (Some (n, final_member g)) up none =
      let t = known_named decls clean g.target (of_final h (up n (final_member g) refl)) in
      let has : member_has_type decls (final_member g) ≡ true = ap is_some t.is in
      let not : member_has_type decls (final_member g) ≡ false = not_found (member_has_type decls (final_member g)) (told WrongType p why.ListedMember) none in
      absurd (let e : true ≡ false = sym has ∙ not in cc)
  member_is_lock i p s h (Some (n, field_member g)) up none =
      let t = known decls clean (outside decls) g.value_type (of_field h (up n (field_member g) refl)) in
      let has : member_has_type decls (field_member g) ≡ true = ap is_some t.is in
      let not : member_has_type decls (field_member g) ≡ false = not_found (member_has_type decls (field_member g)) (told WrongType p why.ListedMember) none in
      absurd (let e : true ≡ false = sym has ∙ not in cc)

  decl_is_struct : (p : ℕ) (y : Ident) (o : Option (ℕ × Decl)) →
      ((n : ℕ) (d : Decl) → ◌≡◌ {A = Option (ℕ × Decl)} o (Some (n, d)) → Has decls d) →
      NoneIn (no_struct p (declared_as o)) → NoneIn (no_lock_in decls o y) → (n : ℕ) × (class_in decls o y ≡ Some n)
  decl_is_struct p y None up a b = absurd (not_one UnknownName p a)
  decl_is_struct p y (Some (i, struct s)) up a b =
      member_is_lock i y.span.start s (up i (struct s) refl) (the_member s.members y.text) (λ n x g. at_has s.members n x (member_is s.members y.text n x g).0) b
  decl_is_struct p y (Some (i, lock x)) up a b = absurd (not_one WrongType p a)
  decl_is_struct p y (Some (i, global v)) up a b = absurd (not_one WrongType p a)
  decl_is_struct p y (Some (i, array v)) up a b = absurd (not_one WrongType p a)
  decl_is_struct p y (Some (i, pool q)) up a b = absurd (not_one WrongType p a)
  decl_is_struct p y (Some (i, init j)) up a b = absurd (not_one WrongType p a)
  decl_is_struct p y (Some (i, atomic s)) up a b = absurd (not_one WrongType p a)
  decl_is_struct p y (Some (i, helper s)) up a b = absurd (not_one WrongType p a)
  decl_is_struct p y (Some (i, thread t)) up a b = absurd (not_one WrongType p a)

  class_is : (c : ClassName) → NoneIn (class_faults decls c) → (n : ℕ) × (class_named decls c ≡ Some n)
  class_is c none =
      let a = type_faults (outside decls) (ref_type c.structure) in
      let b = no_lock_in decls (the_decl decls c.structure.text) c.lock in
      decl_is_struct c.structure.span.start c.lock (the_decl decls c.structure.text)
      (λ n d g. at_has decls n d (named_is bears decls c.structure.text n d g).here) (none_left a b none) (none_right a b none)

  listed_are : (before cs : List ClassName) → NoneIn (listed_faults decls before cs) →
      (ns : List ℕ) × (classes_named decls cs ≡ Some ns)
  listed_are before [] none = ([], refl)
  listed_are before (c ∷ cs) none =
      let a = class_faults decls c in
      let b = again c.structure.span.start (place_of same_class before c) in
      let d = listed_faults decls (before ++ c ∷ []) cs in
      let n = class_is c (none_left a b (none_left (a ++ b) d none)) in
      let r = listed_are (before ++ c ∷ []) cs (none_right (a ++ b) d none) in
      (n.0 ∷ r.0, ap (λ (o : Option ℕ). added o (classes_named decls cs)) n.1 ∙ ap (added (Some n.0)) r.1)

-- ---- sections and helpers

result_typed : (decls : List Decl) (s : Section) (t : ValueType) → s.result ≡ Some t →
    NoneIn (result_faults decls s.result) → Typing decls (result_of decls s)
result_typed decls s t is none =
    subst (λ (o : Option ValueType). Typing decls (o >>= λ v. type_of (outside decls) v)) (sym is) (type_is (outside decls) t (subst (λ (o : Option ValueType). NoneIn (result_faults decls o)) is none))

no_end : (ss : Stmts) (b : Body) → b.result ≡ None → (EndsInReturn ss → (r : core.Return) × (b.result ≡ Some r)) →
    EndsInReturn ss → ⊥
no_end ss b none some h = let r = some h in let e : None ≡ Some r.0 = sym none ∙ r.1 in cc

section_put : (decls : List Decl) (limits : BodyLimits) (s : Section) (ls : List core.Local) (cs : List ℕ) (b : Body) →
    ReturnsRight decls → HasBody decls limits s → NoneIn (result_faults decls s.result) →
    (((at : ℕ) → HasReturn s.body.stmts at → ⊥) → b.result ≡ None) → (EndsInReturn s.body.stmts → (r : core.Return) × (b.result ≡ Some r)) →
    (o : Option ValueType) → s.result ≡ o → (q : Option core.Return) → b.result ≡ q → (x : core.Section) × (section_with decls s ls cs b.stmts o q ≡ Some x)
section_put decls limits s ls cs b right h none never some None is None given = (_, refl)
section_put decls limits s ls cs b right h none never some None is (Some r) given =
    let e : Some r ≡ None = sym given ∙ never (λ at i. right at (section_right decls limits s h at (no_result is i))) in cc
section_put decls limits s ls cs b right h none never some (Some t) is None given =
    absurd (right s.body.close.start (section_right decls limits s h s.body.close.start (missing is (no_end s.body.stmts b given some))))
section_put decls limits s ls cs b right h none never some (Some t) is (Some r) given =
    let v = type_is (outside decls) t (subst (λ (o : Option ValueType). NoneIn (result_faults decls o)) is none) in (
      record { name = s.name.text; parameters = length s.params; locals = ls; result_type = Some v.value_type; listed = cs; body = b.stmts; result = Some r },
      ap (λ (o : Option core_type.ValueType). o >>= λ w. Some (record { name = s.name.text; parameters = length s.params; locals = ls; result_type = Some w; listed = cs; body = b.stmts; result = Some r })) v.is,
    )

-- no `return`, or a result
returns_or : (decls : List Decl) (limits : BodyLimits) (s : Section) → ReturnsRight decls → HasBody decls limits s →
    NoneIn (result_faults decls s.result) → (o : Option ValueType) → s.result ≡ o →
    ((at : ℕ) → HasReturn s.body.stmts at → ⊥) ⊎ HasResult (entry decls limits s)
returns_or decls limits s right h none None is = inl (λ at i. right at (section_right decls limits s h at (no_result is i)))
returns_or decls limits s right h none (Some t) is =
    inr (subst (λ (ds : List Decl). Typing ds (entry decls limits s).result) (sym (entered_decls (ahead_of decls limits s) s.params)) (subst (λ (o : Option core_type.ValueType). Typing decls o) (sym (entered_result (ahead_of decls limits s) s.params)) (result_typed decls s t is none)))

stray_right : (decls : List Decl) (limits : BodyLimits) (s : Section) → ReturnsRight decls → HasBody decls limits s →
    (o : Option ValueType) → s.result ≡ o → (at : ℕ) → HasStrayReturn s.body.stmts at → ⊥
stray_right decls limits s right h None is at i = right at (section_right decls limits s h at (no_result is (stray_returns s.body.stmts at i)))
stray_right decls limits s right h (Some t) is at i = right at (section_right decls limits s h at (stray is i))

pub section_is : (decls : List Decl) → Clean decls → ReturnsRight decls → (limits : BodyLimits) (s : Section) →
    HasBody decls limits s → NoneIn (section_faults decls limits s) →
    (x : core.Section) × (typed_section decls limits s ≡ Some x)
section_is decls clean right limits s h none =
    let a = result_faults decls s.result in
    let b = param_faults (ahead_of decls limits s) 0 s.params in
    let c = stmts_faults (entry decls limits s) s.body.stmts in
    let d = listed_faults decls [] s.listed in
    let n1 = none_left (a ++ b ++ c) d none in
    let n2 = none_left (a ++ b) c n1 in
    let cs = listed_are decls clean [] s.listed (none_right (a ++ b ++ c) d none) in
    let sc = entry_context decls clean limits s h (none_right a b n2) in
    let end = all_context (entry decls limits s) sc s.body.stmts (none_right (a ++ b) c n1) in
    let ls = locals_are (after_all (entry decls limits s) s.body.stmts).decls (after_all (entry decls limits s) s.body.stmts).locals end.locals in
    let body = body_is (entry decls limits s) sc s.body.stmts (none_right (a ++ b) c n1) (stray_right decls limits s right h s.result refl) (returns_or decls limits s right h (none_left a b n2) s.result refl) in
    let x = section_put decls limits s ls.0 cs.0 body.body right h (none_left a b n2) body.none body.some s.result refl body.body.result refl in (
      x.0,
      ap (λ (o : Option (List core.Local)). section_of decls s o (typed_body (entry decls limits s) s.body.stmts)) ls.1 ∙ ap (section_of decls s (Some ls.0)) body.is
          ∙ ap (λ (o : Option (List ℕ)). ◌>>=◌ {B = core.Section} o (λ ns. section_with decls s ls.0 ns body.body.stmts s.result body.body.result)) cs.1 ∙ x.1,
    )

-- ---- threads

-- the called section, with fitting arguments
record Called (decls : List Decl) (o : Option (ℕ × Decl)) (cs : List Const) : Type 0 where
  place : ℕ
  section : Section
  arguments : List Value
  means : o ≡ Some (place, atomic section)
  fit : AreArguments decls section.params cs arguments

argument_if : (decls : List Decl) → Clean decls → (p i : ℕ) (s : Section) (cs : List Const) (b : Bool) →
    (length cs == length s.params) ≡ b →
    NoneIn (if b then argument_faults decls s.params cs else reasoned WrongArgumentCount p (why.Counted (length s.params) (length cs))) →
    Called decls (Some (i, atomic s)) cs
argument_if decls clean p i s cs true e none =
    let vs = arguments_are decls clean s.params cs (eqb-true (length cs) (length s.params) e) none in
    record { place = i; section = s; arguments = vs.0; means = refl; fit = vs.1 }
argument_if decls clean p i s cs false e none = absurd (not_one WrongArgumentCount p none)

-- a declaration has a type without a fault, and so a fault if it is not a section
no_section : (decls : List Decl) → Clean decls → (p n : ℕ) (d : Decl) → Has decls d →
    NoneIn (misnamed decls WrongType role.Section p (a_decl n d)) → ⊥
no_section decls clean p n d h none = unfit_not decls WrongType p _ (a_decl n d) (decl_typed decls clean n d h) none

call_is : (decls : List Decl) → Clean decls → (p : ℕ) (o : Option (ℕ × Decl)) (cs : List Const) →
    ((k : ℕ) (d : Decl) → ◌≡◌ {A = Option (ℕ × Decl)} o (Some (k, d)) → Has decls d) →
    NoneIn (call_faults decls p o cs) → Called decls o cs
call_is decls clean p None cs up none = absurd (not_one UnknownName p none)
call_is decls clean p (Some (n, atomic s)) cs up none =
    argument_if decls clean p n s cs (length cs == length s.params) refl none
call_is decls clean p (Some (n, helper x)) cs up none = absurd (no_section decls clean p n (helper x) (up n (helper x) refl) none)
call_is decls clean p (Some (n, lock x)) cs up none = absurd (no_section decls clean p n (lock x) (up n (lock x) refl) none)
call_is decls clean p (Some (n, struct x)) cs up none = absurd (no_section decls clean p n (struct x) (up n (struct x) refl) none)
call_is decls clean p (Some (n, global x)) cs up none = absurd (no_section decls clean p n (global x) (up n (global x) refl) none)
call_is decls clean p (Some (n, array x)) cs up none = absurd (no_section decls clean p n (array x) (up n (array x) refl) none)
call_is decls clean p (Some (n, pool x)) cs up none = absurd (no_section decls clean p n (pool x) (up n (pool x) refl) none)
call_is decls clean p (Some (n, init x)) cs up none = absurd (no_section decls clean p n (init x) (up n (init x) refl) none)
call_is decls clean p (Some (n, thread x)) cs up none = absurd (no_section decls clean p n (thread x) (up n (thread x) refl) none)

mutual
  item_is : (decls : List Decl) → Clean decls → (i : Item) → NoneIn (item_faults decls i) → (is : Items)
      (ds : List core.Call) → AreCalls decls is ds → (cs : List core.Call) × AreCalls decls (item i is) cs
  item_is decls clean (call c) none is ds more =
      let x = call_is decls clean c.section.span.start (the_decl decls c.section.text) c.arguments
      (λ k d e. decl_has decls c.section.text k d e) none in (
        record {
          section = number_at decls x.place (atomic x.section);
          arguments =
              x.arguments;
        } ∷ ds,
        one_call x.means x.fit more,
      )
  item_is decls clean (repeat n js) none is ds more =
      let r = items_are decls clean js none in
      (copies n.value r.0 ++ ds, repeated r.1 more)

  pub items_are : (decls : List Decl) → Clean decls → (is : Items) → NoneIn (items_faults decls is) →
      (cs : List core.Call) × AreCalls decls is cs
  items_are decls clean no_items none = ([], no_call)
  items_are decls clean (item i is) none =
      let r = items_are decls clean is (none_right (item_faults decls i) (items_faults decls is) none) in
      item_is decls clean i (none_left (item_faults decls i) (items_faults decls is) none) is r.0 r.1
