-- Resolved expressions are well typed.
use Rattle.std.proofs.Common.{◌≡◌, ℕ, List, [], ◌∷◌, ◌++◌, Option, Some, None, Bool, true, false, if◌then◌else◌, refl}
use Rattle.std.proofs.Common.{sym, subst}
use Rattle.std.specs.Prelude.{slice_get, ⊤}
use Rattle.std.proofs.lemmas.Bool.{eqb-true}
use Rattle.syntax.specs.declared.tree.Comparison as written
use Rattle.syntax.specs.declared.tree.Comparison.TheVariants as sign
use Rattle.syntax.specs.Trees.{ref_type, Ident, Expr, Links, Member, lock_member, final_member, field_member, Final}
use Rattle.syntax.specs.Trees.{Field, Struct, Variable, Array, Pool, Decl, global, array, pool}
use Rattle.core_lang.specs.declared.value.ValueType.{ValueType}
use Rattle.core_lang.specs.declared.value.ValueType.TheVariants.{Integer, Reference}
use Rattle.core_lang.specs.declared.tree.FieldStep.{FieldStep}
use Rattle.core_lang.specs.declared.tree.FieldStep.TheVariants as step
use Rattle.resolution.specs.declared.wanted.Sort.{Sort}
use Rattle.resolution.specs.declared.wanted.Sort.TheVariants as sort
use Rattle.resolution.specs.declared.wanted.Want.TheVariants.{Value}
use Rattle.resolution.specs.Core as core
use Rattle.resolution.specs.Scopes.{◌>>=◌, Scope, Local, outside, Meaning, a_local, a_decl, nothing, meaning}
use Rattle.resolution.specs.Scopes.{declared_as, local_or, local_bears, number_at, the_decl, the_local, the_struct}
use Rattle.resolution.specs.Scopes.{the_member, type_of, struct_named}
use Rattle.resolution.specs.Expressions.{ResolvedExpr, value, truth, fits_type, alike_sorts, cell_of, Walk, reached}
use Rattle.resolution.specs.Expressions.{at_lock, lost, over_step, over_member, over, member_number, stepped, walked}
use Rattle.resolution.specs.Expressions.{at_local, walk_from, marked, comparison_of, IsEquality, want}
use Rattle.resolution.proofs.Named.{named_is, member_is}
use Rattle.resolution.proofs.FaultlessExpressions.{IsMeant, meant}
use Rattle.resolution.proofs.Typed as well
use Rattle.resolution.proofs.Typed.{global_in, array_in, pool_in, final_in, field_in, Leads, Is, Are, Compares, AllTest}
use Rattle.resolution.specs.Typing.{Types, types_int, types_null, types_local, types_global, types_element}
use Rattle.resolution.specs.Typing.{types_member, types_path, types_paren, types_minus, types_not, types_numbers}
use Rattle.resolution.specs.Typing.{types_and, types_or, types_order, types_equality, TypesOperands, no_operand}
use Rattle.resolution.specs.Typing.{one_operand, TypesTests, last_test, one_test, Gives, gives}

-- ---- the declarations of a program

-- the program has each thing with its type at its number
pub record Sound (decls : List Decl) (p : core.Program) : Type 0 where
  pub cell : (n : ℕ) (v : Variable) (t : ValueType) → slice_get decls n ≡ Some (global v) →
      type_of (outside decls) v.value_type ≡ Some t → global_in p (cell_of decls n) ≡ Some t
  pub array : (n : ℕ) (a : Array) (t : ValueType) → slice_get decls n ≡ Some (array a) →
      type_of (outside decls) a.value_type ≡ Some t → array_in p (number_at decls n (array a)) ≡ Some t
  pub pool : (n : ℕ) (q : Pool) (s : ℕ) → slice_get decls n ≡ Some (pool q) → struct_named decls q.target ≡ Some s →
      pool_in p (number_at decls n (pool q)) ≡ Some s
  pub final : (s : ℕ) (x : Struct) (m : ℕ) (f : Final) (k : ℕ) → the_struct decls s ≡ Some x →
      slice_get x.members m ≡ Some (final_member f) → struct_named decls f.target ≡ Some k →
      final_in p s (member_number x.members m (final_member f)) ≡ Some k
  pub field : (s : ℕ) (x : Struct) (m : ℕ) (f : Field) (t : ValueType) → the_struct decls s ≡ Some x →
      slice_get x.members m ≡ Some (field_member f) → type_of (outside decls) f.value_type ≡ Some t →
      field_in p s (member_number x.members m (field_member f)) ≡ Some t

-- each local that has a type has it in the section's list
abbrev pub Have : List Local → List ValueType → Type 0
Have ls types = (n : ℕ) (l : Local) (t : ValueType) → slice_get ls n ≡ Some l → l.value_type ≡ Some t →
    slice_get types n ≡ Some t

-- a local that is meant is one of the scope's, and in scope
abbrev pub IsLocal : List Local → Meaning → Type 0
IsLocal ls (a_local n l) = (slice_get ls n ≡ Some l) × (l.is_visible ≡ true)
IsLocal ls (a_decl n d) = ⊤
IsLocal ls nothing = ⊤

decl_meant : (ls : List Local) (o : Option (ℕ × Decl)) → IsLocal ls (declared_as o)
decl_meant ls None = tt
decl_meant ls (Some d) = tt

visible_local : (ls : List Local) (b : Bool) (n : ℕ) (l : Local) (other : Meaning) → l.is_visible ≡ b →
    slice_get ls n ≡ Some l → IsLocal ls other → IsLocal ls (if b then a_local n l else other)
visible_local ls true n l other v at h = (at, v)
visible_local ls false n l other v at h = h

or_local : (ls : List Local) (q : List ℕ) (o : Option (ℕ × Local)) → the_local ls q ≡ o → (other : Meaning) →
    IsLocal ls other → IsLocal ls (local_or o other)
or_local ls q None e other h = h
or_local ls q (Some (n, l)) e other h =
    visible_local ls l.is_visible n l other refl (named_is local_bears ls q n l e).here h

pub meant_local : (sc : Scope) (q : List ℕ) → IsLocal sc.locals (meaning sc q)
meant_local sc q = or_local sc.locals q (the_local sc.locals q) refl (declared_as (the_decl sc.decls q))
    (decl_meant sc.locals (the_decl sc.decls q))

module _ (sc : Scope) (p : core.Program) (types : List ValueType) (sound : Sound sc.decls p)
    (have : Have sc.locals types) where
  -- ---- well-typed expressions

  abbrev ResolvedExprOk : ResolvedExpr → Type 0
  ResolvedExprOk (value x (sort.Of t)) = Is p types x t
  ResolvedExprOk (value x sort.Null) = (k : ℕ) → Is p types x (Reference k)
  ResolvedExprOk (truth c) = well.Tests p types c

  fit_value : (t : ValueType) (x : core.Expr) (s : Sort) → fits_type t s ≡ true → ResolvedExprOk (value x s) →
      Is p types x t
  fit_value Integer x (sort.Of Integer) e h = h
  fit_value Integer x (sort.Of (Reference s)) e h = cc
  fit_value Integer x sort.Null e h = cc
  fit_value (Reference s) x (sort.Of Integer) e h = cc
  fit_value (Reference s) x (sort.Of (Reference r)) e h =
      subst (λ (k : ℕ). Is p types x (Reference k)) (sym (eqb-true s r e)) h
  fit_value (Reference s) x sort.Null e h = h s

  -- ---- paths

  -- a walk from a type makes steps that lead to another
  abbrev GoodWalk : ValueType → Walk → Type 0
  GoodWalk from (reached steps t) = Leads p types from steps t
  GoodWalk from at_lock = ⊤
  GoodWalk from lost = ⊤

  leads_more : (from mid to : ValueType) (steps : List FieldStep) (s : FieldStep) → Leads p types from steps mid →
      Leads p types mid (s ∷ []) to → Leads p types from (steps ++ s ∷ []) to
  leads_more from mid to [] s h g = subst (λ (t : ValueType). Leads p types t (s ∷ []) to) (sym h) g
  leads_more Integer mid to (r ∷ rs) s h g = absurd h
  leads_more (Reference k) mid to (step.Final structure f ∷ rs) s h g =
      (h.0, h.1, h.2, leads_more (Reference h.1) mid to rs s h.3 g)
  leads_more (Reference k) mid to (step.Field structure f ∷ rs) s h g =
      (h.0, h.1, h.2, leads_more h.1 mid to rs s h.3 g)

  step_over : (from : ValueType) (steps : List FieldStep) (s : ℕ) (r : FieldStep) (o : Option ValueType) →
      Leads p types from steps (Reference s) →
      ((t : ValueType) → o ≡ Some t → Leads p types (Reference s) (r ∷ []) t) → GoodWalk from (over_step steps r o)
  step_over from steps s r None h f = tt
  step_over from steps s r (Some t) h f = leads_more from (Reference s) t steps r h (f t refl)

  -- a final reference's type is one to the struct that it names
  final_leads : (s n : ℕ) (o : Option ℕ) (t : ValueType) → ((k : ℕ) → o ≡ Some k → final_in p s n ≡ Some k) →
      (o >>= λ k. Some (Reference k)) ≡ Some t → Leads p types (Reference s) (step.Final s n ∷ []) t
  final_leads s n None t f e = cc
  final_leads s n (Some k) t f e = (refl, k, f k refl, (let same : Reference k ≡ t = cc in same))

  member_walk : (from : ValueType) (steps : List FieldStep) (s : ℕ) (x : Struct) → the_struct sc.decls s ≡ Some x →
      Leads p types from steps (Reference s) → (o : Option (ℕ × Member)) →
      ((n : ℕ) (m : Member) → ◌≡◌ {A = Option (ℕ × Member)} o (Some (n, m)) → slice_get x.members n ≡ Some m) →
      GoodWalk from (over_member sc.decls steps s x.members o)
  member_walk from steps s x is h None at = tt
  member_walk from steps s x is h (Some (n, lock_member y)) at = tt
  member_walk from steps s x is h (Some (n, final_member f)) at =
      step_over from steps s (step.Final s (member_number x.members n (final_member f)))
      (type_of (outside sc.decls) (ref_type f.target)) h
      (λ t e. final_leads s (member_number x.members n (final_member f)) (struct_named sc.decls f.target) t
      (λ k g. sound.final s x n f k is (at n (final_member f) refl) g) e)
  member_walk from steps s x is h (Some (n, field_member f)) at =
      step_over from steps s (step.Field s (member_number x.members n (field_member f)))
      (type_of (outside sc.decls) f.value_type) h
      (λ t e. (refl, t, sound.field s x n f t is (at n (field_member f) refl) e, refl))

  struct_walk : (from : ValueType) (steps : List FieldStep) (s : ℕ) (q : List ℕ) (o : Option Struct) →
      the_struct sc.decls s ≡ o → Leads p types from steps (Reference s) → GoodWalk from (over sc.decls steps s o q)
  struct_walk from steps s q None is h = tt
  struct_walk from steps s q (Some x) is h =
      member_walk from steps s x is h (the_member x.members q) (λ n m e. (member_is x.members q n m e).0)

  step_good : (from : ValueType) (w : Walk) (f : Ident) → GoodWalk from w → GoodWalk from (stepped sc.decls w f)
  step_good from (reached steps (Reference s)) f h = struct_walk from steps s f.text (the_struct sc.decls s) refl h
  step_good from (reached steps Integer) f h = tt
  step_good from at_lock f h = tt
  step_good from lost f h = tt

  walk_good : (from : ValueType) (w : Walk) (fs : List Ident) → GoodWalk from w → GoodWalk from (walked sc.decls w fs)
  walk_good from w [] h = h
  walk_good from w (f ∷ fs) h = walk_good from (stepped sc.decls w f) fs (step_good from w f h)

  -- if a local leads to a value, it is a path
  abbrev pub GoodPath : ℕ → Walk → Type 0
  GoodPath n (reached steps t) = (from : ValueType) × (slice_get types n ≡ Some from) × Leads p types from steps t
  GoodPath n at_lock = ⊤
  GoodPath n lost = ⊤

  path_of : (n : ℕ) (from : ValueType) (w : Walk) → slice_get types n ≡ Some from → GoodWalk from w → GoodPath n w
  path_of n from (reached steps t) at h = (from, at, h)
  path_of n from at_lock at h = tt
  path_of n from lost at h = tt

  lost_stays : (fs : List Ident) → walked sc.decls lost fs ≡ lost
  lost_stays [] = refl
  lost_stays (f ∷ fs) = lost_stays fs

  pub local_walk : (n : ℕ) (l : Local) (fs : List Ident) → slice_get sc.locals n ≡ Some l → (o : Option ValueType) →
      l.value_type ≡ o → GoodPath n (walked sc.decls (at_local o) fs)
  local_walk n l fs at None e = subst (GoodPath n) (sym (lost_stays fs)) tt
  local_walk n l fs at (Some t) e =
      path_of n t (walked sc.decls (reached [] t) fs) (have n l t at e) (walk_good t (reached [] t) fs refl)

  -- a local that a name means is at its place, and so is a declaration
  pub local_meant : (q : List ℕ) (n : ℕ) (l : Local) → meaning sc q ≡ a_local n l → slice_get sc.locals n ≡ Some l
  local_meant q n l is = (subst (IsLocal sc.locals) is (meant_local sc q)).0

  pub decl_there : (q : List ℕ) (n : ℕ) (d : Decl) → meaning sc q ≡ a_decl n d → slice_get sc.decls n ≡ Some d
  decl_there q n d is = subst (IsMeant sc.decls) is (meant sc q)

  pub path_leads : (q : List ℕ) (n : ℕ) (l : Local) (fs : List Ident) (steps : List FieldStep) (t : ValueType) →
      meaning sc q ≡ a_local n l → walk_from sc.decls (a_local n l) fs ≡ reached steps t → GoodPath n (reached steps t)
  path_leads q n l fs steps t is at = subst (GoodPath n) at (local_walk n l fs (local_meant q n l is) l.value_type refl)

  -- ---- operators

  marked_good : (r : ResolvedExpr) → ResolvedExprOk r → ResolvedExprOk (marked r)
  marked_good (value (core.place q) (sort.Of t)) h = h
  marked_good (value (core.place q) sort.Null) h = h
  marked_good r h = h

  order_good : (c : written.Comparison) (a b : core.Expr) → Is p types a Integer → Is p types b Integer →
      Compares p types (comparison_of c) a b
  order_good sign.Equal a b h g = (Integer, h, g)
  order_good sign.NotEqual a b h g = (Integer, h, g)
  order_good sign.Less a b h g = (h, g)
  order_good sign.LessOrEqual a b h g = (h, g)
  order_good sign.Greater a b h g = (h, g)
  order_good sign.GreaterOrEqual a b h g = (h, g)

  equal_good : (c : written.Comparison) → IsEquality c → (t : ValueType) (a b : core.Expr) → Is p types a t →
      Is p types b t → Compares p types (comparison_of c) a b
  equal_good sign.Equal so t a b h g = (t, h, g)
  equal_good sign.NotEqual so t a b h g = (t, h, g)
  equal_good sign.Less so t a b h g = absurd so
  equal_good sign.LessOrEqual so t a b h g = absurd so
  equal_good sign.Greater so t a b h g = absurd so
  equal_good sign.GreaterOrEqual so t a b h g = absurd so

  alike_good : (c : written.Comparison) → IsEquality c → (a b : core.Expr) (s t : Sort) → alike_sorts s t ≡ true →
      ResolvedExprOk (value a s) → ResolvedExprOk (value b t) → Compares p types (comparison_of c) a b
  alike_good c so a b (sort.Of u) t e h g = equal_good c so u a b h (fit_value u b t e g)
  alike_good c so a b sort.Null sort.Null e h g = equal_good c so (Reference 0) a b (h 0) (g 0)
  alike_good c so a b sort.Null (sort.Of Integer) e h g = cc
  alike_good c so a b sort.Null (sort.Of (Reference r)) e h g = equal_good c so (Reference r) a b (h r) g

  -- ---- expressions

  mutual
    pub expr_good : {e : Expr} {r : ResolvedExpr} → Types sc e r → ResolvedExprOk r
    expr_good (types_int h) = tt
    expr_good types_null = λ k. tt
    expr_good (types_local {x = x} {i = i} {l = l} {t = t} is h) = (t, have i l t (local_meant x.text i l is) h, refl)
    expr_good (types_global {x = x} {i = i} {v = v} {t = t} is h) =
        sound.cell i v t (decl_there x.text i (global v) is) h
    expr_good (types_element {x = x} {i = i} {a = a} {t = t} is h d) =
        (sound.array i a t (decl_there x.text i (array a) is) h, expr_good d)
    expr_good (types_member {x = x} {i = i} {p = q} {s = s} is h d) =
        (sound.pool i q s (decl_there x.text i (pool q) is) h, expr_good d)
    expr_good (types_path {x = x} {fs = fs} {i = i} {l = l} {steps = steps} {t = t} is at) =
        path_leads x.text i l fs steps t is at
    expr_good (types_paren {r = r} d) = marked_good r (expr_good d)
    expr_good (types_minus d) = expr_good d
    expr_good (types_not d) = expr_good d
    expr_good (types_numbers are d k) = (expr_good d, operands_good k)
    expr_good (types_and d k) = tests_good k (expr_good d)
    expr_good (types_or d k) = tests_good k (expr_good d)
    expr_good (types_order {c = c} {x = x} {y = y} h k) = order_good c x y (expr_good h) (expr_good k)
    expr_good (types_equality {c = c} {x = x} {y = y} {s = s} {t = t} so h k e) =
        alike_good c so x y s t e (expr_good h) (expr_good k)

    operands_good : {links : Links} {rest : core.Operations} → TypesOperands sc links rest → Are p types rest
    operands_good no_operand = tt
    operands_good (one_operand is d k) = (expr_good d, operands_good k)

    tests_good : {c last : core.Condition} {links : Links} {before : core.Conditions} →
        TypesTests sc c links before last →
        well.Tests p types c → AllTest p types before × well.Tests p types last
    tests_good last_test h = (tt, h)
    tests_good (one_test d k) h = let r = tests_good k (expr_good d) in ((h, r.0), r.1)

  -- a value of a type, if one is expected
  pub value_good : {t : ValueType} {e : Expr} {x : core.Expr} → Gives sc (Value t) e x → Is p types x t
  value_good {t = t} (gives {x = x} {s = s} d fits) = fit_value t x s fits (expr_good d)

  -- the same of a type that is found
  pub wanted_good : {o : Option ValueType} {e : Expr} {x : core.Expr} (t : ValueType) → o ≡ Some t →
      Gives sc (want o) e x → Is p types x t
  wanted_good {e = e} {x = x} t is g = value_good (subst (λ (o : Option ValueType). Gives sc (want o) e x) is g)
