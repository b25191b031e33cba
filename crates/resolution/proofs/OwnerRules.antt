-- The code computes for a left side of an assignment, and for what follows the `where` of a `let`, what the rules say.
use Rattle.std.proofs.Common.{◌≡◌, ℕ, List, [], ◌∷◌, ◌++◌, Option, Some, None, Bool, true, false, refl, sym, ap}
use Rattle.std.proofs.Common.{◌∙◌, subst, arith, if◌then◌else◌}
use Rattle.std.specs.Prelude.{nat_le, ◌==◌}
use Rattle.std.proofs.lemmas.Bool.{eqb-true}
use Rattle.std.proofs.lemmas.Bool.Decides.{nat_tests}
use Rattle.source.specs.Texts.{SOURCE_LIMIT}
use Rattle.syntax.specs.Trees.{Ident, ref_type, Place, lone, element, path, Expr, Owner, Decl, global, array}
use Rattle.syntax.specs.Trees.{Member, lock_member, final_member, field_member}
use Rattle.syntax.specs.Trees.{Struct, assign}
use Rattle.core_lang.specs.declared.value.ValueType.{ValueType}
use Rattle.core_lang.specs.declared.value.ValueType.TheVariants.{Integer, Reference}
use Rattle.core_lang.specs.declared.tree.FieldStep.{FieldStep}
use Rattle.core_lang.specs.declared.tree.FieldStep.TheVariants as step
use Rattle.resolution.specs.declared.owner_field.OwnerField.{OwnerField}
use Rattle.resolution.specs.declared.wanted.Sort.TheVariants.{Of}
use Rattle.resolution.specs.Core as core
use Rattle.resolution.specs.Limits.{STRUCT_LIMIT}
use Rattle.resolution.specs.Scopes.{◌>>=◌, Scope, Local, outside, Meaning, a_local, a_decl, nothing, meaning, number_at}
use Rattle.resolution.specs.Scopes.{type_of, the_struct, the_member}
use Rattle.resolution.specs.Expressions.{ResolvedExpr, value, fits_type, cell_of, local_path, member_number, Walk}
use Rattle.resolution.specs.Expressions.{reached, at_lock, lost, walk_from}
use Rattle.resolution.specs.Statements.{is_var}
use Rattle.resolution.specs.declared.wanted.Want.TheVariants.{Anything, Value}
use Rattle.resolution.specs.Where.{Asks, of_assign, of_unassignable}
use Rattle.resolution.specs.Typing.{Types, Assigns, assigns_local, assigns_global, assigns_element, assigns_field}
use Rattle.resolution.specs.Typing.{IsFinalOf, is_final_of, TypesOwner, types_owner}
use Rattle.resolution.specs.Working.TypedExpressions.{number_resolved, typed}
use Rattle.resolution.specs.Working.TypedOwners.{final_of, owner_member, owner_field, is_of, owner_local}
use Rattle.resolution.specs.Working.TypedOwners.{owned_value, owned_by}
use Rattle.resolution.specs.Working.TypedStatements.{Target, to_local, to_global, to_element, to_field}
use Rattle.resolution.specs.Working.TypedStatements.{Assignee, assignee}
use Rattle.resolution.specs.Working.TypedStatements.{assignee_at, assignee_at_element, Split, behind, last_field}
use Rattle.resolution.specs.Working.TypedStatements.{wanted_by, field_target, assignee_along, target_of, set_to}
use Rattle.resolution.proofs.ExpressionRules.{When, when, number_when, expr_types, typed_is}
use Rattle.resolution.proofs.Tests.{le_of, le_true}

-- ---- the left side of an assignment

-- this is the assigned target, by the rules
abbrev pub AssignsTo : Scope → Place → Assignee → Type 0
AssignsTo sc p a = Assigns sc p a.value_type (set_to a.target)

target_assigns : (sc : Scope) (p : Place) (t : Target) (v : Option ValueType) →
    ((u : ValueType) → v ≡ Some u → Assigns sc p u (set_to t)) → When (AssignsTo sc p) (assignee (Some t) v)
target_assigns sc p t None h = tt
target_assigns sc p t (Some u) h = h u refl

local_assigns : (sc : Scope) (x : Ident) (i : ℕ) (l : Local) → meaning sc x.text ≡ a_local i l → (b : Bool) →
    is_var l.kind ≡ b → When (AssignsTo sc (lone x)) (if b then assignee (Some (to_local i)) l.value_type else None)
local_assigns sc x i l is true can =
    target_assigns sc (lone x) (to_local i) l.value_type (λ t e. assigns_local is can e)
local_assigns sc x i l is false can = tt

name_assigns : (sc : Scope) (x : Ident) (m : Meaning) → meaning sc x.text ≡ m →
    When (AssignsTo sc (lone x)) (assignee_at sc.decls m)
name_assigns sc x (a_local i l) is = local_assigns sc x i l is (is_var l.kind) refl
name_assigns sc x (a_decl i (global v)) is =
    target_assigns sc (lone x) (to_global (cell_of sc.decls i)) (type_of (outside sc.decls) v.value_type)
    (λ t e. assigns_global is e)
name_assigns sc x m is = tt

element_assigns : (sc : Scope) (x : Ident) (e : Expr) (m : Meaning) → meaning sc x.text ≡ m → (o : Option core.Expr) →
    When (λ (y : core.Expr). Types sc e (value y (Of Integer))) o →
    When (AssignsTo sc (element x e)) (assignee_at_element sc.decls m o)
element_assigns sc x e (a_decl i (array a)) is (Some y) h =
    target_assigns sc (element x e) (to_element (number_at sc.decls i (array a)) y)
    (type_of (outside sc.decls) a.value_type) (λ t k. assigns_element is k h)
element_assigns sc x e m is (Some y) h = tt
element_assigns sc x e m is None h = tt

-- steps that end with a field that isn't final
abbrev pub EndsWith : List FieldStep → Split → Type 0
EndsWith steps q = steps ≡ q.base ++ step.Field q.structure q.field ∷ []

ends_behind : (s : FieldStep) (steps : List FieldStep) (o : Option Split) → When (EndsWith steps) o →
    When (EndsWith (s ∷ steps)) (◌>>=◌ {B = Split} o (λ q. Some (behind s q)))
ends_behind s steps None h = tt
ends_behind s steps (Some q) h = ap (λ (ss : List FieldStep). s ∷ ss) h

pub last_ends : (steps : List FieldStep) → When (EndsWith steps) (last_field steps)
last_ends [] = tt
last_ends (step.Field k n ∷ []) = refl
last_ends (step.Final k n ∷ []) = tt
last_ends (step.Field k n ∷ s ∷ steps) =
    ends_behind (step.Field k n) (s ∷ steps) (last_field (s ∷ steps)) (last_ends (s ∷ steps))
last_ends (step.Final k n ∷ s ∷ steps) =
    ends_behind (step.Final k n) (s ∷ steps) (last_field (s ∷ steps)) (last_ends (s ∷ steps))

pub last_of : (base : List FieldStep) (k n : ℕ) →
    last_field (base ++ step.Field k n ∷ []) ≡ Some (record { base = base; structure = k; field = n })
last_of [] k n = refl
last_of (step.Field j m ∷ []) k n = refl
last_of (step.Final j m ∷ []) k n = refl
last_of (step.Field j m ∷ s ∷ base) k n =
    ap (λ (o : Option Split). o >>= λ q. Some (behind (step.Field j m) q)) (last_of (s ∷ base) k n)
last_of (step.Final j m ∷ s ∷ base) k n =
    ap (λ (o : Option Split). o >>= λ q. Some (behind (step.Final j m) q)) (last_of (s ∷ base) k n)

field_assigns : (sc : Scope) (x : Ident) (fs : List Ident) (i : ℕ) (l : Local) → meaning sc x.text ≡ a_local i l →
    (steps : List FieldStep) (t : ValueType) → walk_from sc.decls (a_local i l) fs ≡ reached steps t →
    (o : Option Split) → When (EndsWith steps) o →
    When (AssignsTo sc (path x fs)) (assignee (field_target x.span.start i o) (Some t))
field_assigns sc x fs i l is steps t at None h = tt
field_assigns sc x fs i l is steps t at (Some q) h =
    assigns_field is (at ∙ ap (λ (ss : List FieldStep). reached ss t) h)

path_assigns : (sc : Scope) (x : Ident) (fs : List Ident) (m : Meaning) → meaning sc x.text ≡ m → (w : Walk) →
    walk_from sc.decls m fs ≡ w → When (AssignsTo sc (path x fs)) (assignee_along x.span.start m w)
path_assigns sc x fs (a_local i l) is (reached steps t) at =
    field_assigns sc x fs i l is steps t at (last_field steps) (last_ends steps)
path_assigns sc x fs (a_local i l) is at_lock at = tt
path_assigns sc x fs (a_local i l) is lost at = tt
path_assigns sc x fs (a_decl i d) is w at = tt
path_assigns sc x fs nothing is w at = tt

pub place_assigns : (sc : Scope) (p : Place) → When (AssignsTo sc p) (target_of sc p)
place_assigns sc (lone x) = name_assigns sc x (meaning sc x.text) refl
place_assigns sc (element x e) =
    element_assigns sc x e (meaning sc x.text) refl (number_resolved (typed sc e))
    (number_when (Types sc e) (typed sc e) (expr_types sc e))
place_assigns sc (path x fs) =
    path_assigns sc x fs (meaning sc x.text) refl (walk_from sc.decls (meaning sc x.text) fs) refl

pub target_types : (sc : Scope) (p : Place) (a : Assignee) → target_of sc p ≡ Some a → AssignsTo sc p a
target_types sc p a is = when (AssignsTo sc p) (target_of sc p) (place_assigns sc p) a is

-- the assigned target by the rules is found
abbrev pub Found : Scope → Place → ValueType → (core.Expr → core.Action) → Type 0
Found sc p t set = (a : Assignee) × (target_of sc p ≡ Some a) × (a.value_type ≡ t) × (set_to a.target ≡ set)

pub target_is : {sc : Scope} {p : Place} {t : ValueType} {set : core.Expr → core.Action} → Assigns sc p t set →
    Found sc p t set
target_is {sc = sc} (assigns_local {x = x} {i = i} {l = l} {t = t} is can h) = (
  record { target = to_local i; value_type = t },
  ap (assignee_at sc.decls) is
      ∙ ap (λ (b : Bool). if b then assignee (Some (to_local i)) l.value_type else None) can
      ∙ ap (assignee (Some (to_local i))) h,
  refl,
  refl,
)
target_is {sc = sc} (assigns_global {x = x} {i = i} {v = v} {t = t} is h) = (
  record { target = to_global (cell_of sc.decls i); value_type = t },
  ap (assignee_at sc.decls) is ∙ ap (assignee (Some (to_global (cell_of sc.decls i)))) h,
  refl,
  refl,
)
target_is {sc = sc} (assigns_element {x = x} {e = e} {i = i} {a = a} {t = t} {index = y} is h d) = (
  record { target = to_element (number_at sc.decls i (array a)) y; value_type = t },
  ap (λ (m : Meaning). assignee_at_element sc.decls m (number_resolved (typed sc e))) is
      ∙ ap (λ (o : Option ResolvedExpr). assignee_at_element sc.decls (a_decl i (array a)) (number_resolved o))
      (typed_is d)
      ∙ ap (assignee (Some (to_element (number_at sc.decls i (array a)) y))) h,
  refl,
  refl,
)
target_is {sc = sc} (assigns_field {x = x} {fs = fs} {i = i} {k = k} {n = n} {l = l} {base = base} {t = t} is at) = (
  record { target = to_field (local_path x.span.start i base) k n; value_type = t },
  ap (λ (m : Meaning). assignee_along x.span.start m (walk_from sc.decls m fs)) is
      ∙ ap (assignee_along x.span.start (a_local i l)) at
      ∙ ap (λ (o : Option Split). assignee (field_target x.span.start i o) (Some t)) (last_of base k n),
  refl,
  refl,
)

-- the expectation of the right side, by the target that the code finds on the left one
pub asks_right : (sc : Scope) (p : Place) (e : Expr) → Asks sc (assign p e) (wanted_by (target_of sc p)) e
asks_right sc p e = by_target (target_of sc p) refl
  where
    none_some : (a : Assignee) → ◌≡◌ {A = Option Assignee} None (Some a) → ⊥
    none_some a k = cc

    by_target : (o : Option Assignee) → target_of sc p ≡ o → Asks sc (assign p e) (wanted_by o) e
    by_target (Some a) is = of_assign (target_types sc p a is)
    by_target None is = of_unassignable (λ t set h. let found = target_is h in none_some found.0 (sym is ∙ found.1))

pub wanted_right : {sc : Scope} {p : Place} {t : ValueType} {set : core.Expr → core.Action} → Assigns sc p t set →
    wanted_by (target_of sc p) ≡ Value t
wanted_right h = let found = target_is h in ap wanted_by found.1 ∙ ap Value found.2

pub wanted_nothing : (sc : Scope) (p : Place) →
    ((t : ValueType) (set : core.Expr → core.Action) → Assigns sc p t set → ⊥) → wanted_by (target_of sc p) ≡ Anything
wanted_nothing sc p never = by_target (target_of sc p) refl
  where
    by_target : (o : Option Assignee) → target_of sc p ≡ o → wanted_by o ≡ Anything
    by_target None is = refl
    by_target (Some a) is = absurd (never a.value_type (set_to a.target) (target_types sc p a is))

-- ---- after `where`

pub same_type : (t u : ValueType) → fits_type t (Of u) ≡ true → u ≡ t
same_type Integer Integer e = refl
same_type Integer (Reference r) e = cc
same_type (Reference s) Integer e = cc
same_type (Reference s) (Reference r) e = ap (λ (k : ℕ). Reference k) (sym (eqb-true s r e))

pub fits_itself : (t : ValueType) → fits_type t (Of t) ≡ true
fits_itself Integer = refl
fits_itself (Reference s) = itself s
  where
    itself : (n : ℕ) → (n == n) ≡ true
    itself n = grind (arith, nat_tests)

member_is_final : (decls : List Decl) (k i : ℕ) (s : Struct) (x : Ident) (m : Member) → the_struct decls k ≡ Some s →
    the_member s.members x.text ≡ Some (i, m) →
    When (IsFinalOf decls (Reference k) x) (owner_member decls k s.members (Some (i, m)))
member_is_final decls k i s x (lock_member y) is at = tt
member_is_final decls k i s x (field_member f) is at = tt
member_is_final decls k i s x (final_member f) is at = by_type (type_of (outside decls) (ref_type f.target)) refl
  where
    by_type : (t : Option ValueType) → type_of (outside decls) (ref_type f.target) ≡ t →
        When (IsFinalOf decls (Reference k) x) (final_of k (member_number s.members i (final_member f)) t)
    by_type None e = tt
    by_type (Some t) e = is_final_of is at e

struct_final : (decls : List Decl) (k : ℕ) (s : Struct) (x : Ident) → the_struct decls k ≡ Some s →
    (o : Option (ℕ × Member)) → the_member s.members x.text ≡ o →
    When (IsFinalOf decls (Reference k) x) (owner_member decls k s.members o)
struct_final decls k s x is None at = tt
struct_final decls k s x is (Some (i, m)) at = member_is_final decls k i s x m is at

reference_final : (decls : List Decl) (k : ℕ) (x : Ident) (o : Option Struct) → the_struct decls k ≡ o →
    When (IsFinalOf decls (Reference k) x)
    (◌>>=◌ {B = OwnerField} o (λ s. owner_member decls k s.members (the_member s.members x.text)))
reference_final decls k x None is = tt
reference_final decls k x (Some s) is = struct_final decls k s x is (the_member s.members x.text) refl

pub field_final : (decls : List Decl) (t : ValueType) (x : Ident) →
    When (IsFinalOf decls t x) (owner_field decls (Some t) x)
field_final decls Integer x = tt
field_final decls (Reference k) x = reference_final decls k x (the_struct decls k) refl

pub final_is : {decls : List Decl} {t : ValueType} {x : Ident} {f : OwnerField} → IsFinalOf decls t x f →
    owner_field decls (Some t) x ≡ Some f
final_is {decls = decls} (is_final_of {k = k} {i = i} {s = s} {x = x} {f = f} is at h) =
    ap (λ (o : Option Struct). ◌>>=◌ {B = OwnerField} o
    (λ z. owner_member decls k z.members (the_member z.members x.text))) is
    ∙ ap (owner_member decls k s.members) at
    ∙ ap (final_of k (member_number s.members i (final_member f))) h

-- a value that is tested, by whether its numbers are within their limits
abbrev tested_if : Bool → Bool → core.Expr → Option core.Expr
tested_if true true y = Some y
tested_if true false y = None
tested_if false b y = None

tested_is : (start : ℕ) (e : core.Expr) (f : OwnerField) (i : ℕ) (a b : Bool) →
    ◌>>=◌ {B = core.Expr} (if a then Some f.structure else None)
    (λ k. ◌>>=◌ {B = core.Expr} (if b then Some i else None) (λ n. Some (core.owned e k f.number start n))) ≡ tested_if
    a b (core.owned e f.structure f.number start i)
tested_is start e f i true true = refl
tested_is start e f i true false = refl
tested_is start e f i false b = refl

typed_as : (t : ValueType) (o : Option ValueType) → is_of t o ≡ true → o ≡ Some t
typed_as t None e = cc
typed_as t (Some u) e = ap Some (same_type t u e)

module _ (sc : Scope) (t : ValueType) (o : Owner) (x : core.Expr) where
  limited_owner : (f : OwnerField) (i : ℕ) (l : Local) → IsFinalOf sc.decls t o.field f →
      meaning sc o.local.text ≡ a_local i l → l.value_type ≡ Some f.value_type → (a b : Bool) →
      nat_le f.structure STRUCT_LIMIT ≡ a → nat_le i SOURCE_LIMIT ≡ b →
      When (TypesOwner sc t o x) (tested_if a b (core.owned x f.structure f.number o.local.span.start i))
  limited_owner f i l final is h true true within few =
      types_owner final is h (le_of f.structure STRUCT_LIMIT within) (le_of i SOURCE_LIMIT few)
  limited_owner f i l final is h true false within few = tt
  limited_owner f i l final is h false b within few = tt

  local_owner : (f : OwnerField) (i : ℕ) (l : Local) → IsFinalOf sc.decls t o.field f →
      meaning sc o.local.text ≡ a_local i l → (b : Bool) → is_of f.value_type l.value_type ≡ b →
      When (TypesOwner sc t o x) (owned_value o.local.span.start (Some x) (Some f) (if b then Some i else None))
  local_owner f i l final is false e = tt
  local_owner f i l final is true e =
      subst (When (TypesOwner sc t o x))
      (sym (tested_is o.local.span.start x f i (nat_le f.structure STRUCT_LIMIT) (nat_le i SOURCE_LIMIT)))
      (limited_owner f i l final is (typed_as f.value_type l.value_type e) (nat_le f.structure STRUCT_LIMIT)
      (nat_le i SOURCE_LIMIT) refl refl)

  named_owner : (g : Option OwnerField) → When (IsFinalOf sc.decls t o.field) g → (m : Meaning) →
      meaning sc o.local.text ≡ m →
      When (TypesOwner sc t o x) (owned_value o.local.span.start (Some x) g (owner_local g m))
  named_owner None final m is = tt
  named_owner (Some f) final (a_local i l) is = local_owner f i l final is (is_of f.value_type l.value_type) refl
  named_owner (Some f) final (a_decl i d) is = tt
  named_owner (Some f) final nothing is = tt

  pub owner_types : When (TypesOwner sc t o x) (owned_by sc (Some t) o (Some x))
  owner_types = named_owner (owner_field sc.decls (Some t) o.field) (field_final sc.decls t o.field)
      (meaning sc o.local.text) refl

pub owned_is : {sc : Scope} {t : ValueType} {o : Owner} {x y : core.Expr} → TypesOwner sc t o x y →
    owned_by sc (Some t) o (Some x) ≡ Some y
owned_is {sc = sc} (types_owner {o = o} {x = x} {f = f} {i = i} {l = l} final is h within few) =
    ap (λ (g : Option OwnerField). owned_value o.local.span.start (Some x) g (owner_local g (meaning sc o.local.text)))
    (final_is final)
    ∙ ap (λ (m : Meaning). owned_value o.local.span.start (Some x) (Some f) (owner_local (Some f) m)) is
    ∙ ap (λ (u : Option ValueType). owned_value o.local.span.start (Some x) (Some f)
    (if is_of f.value_type u then Some i else None)) h
    ∙ ap (λ (b : Bool). owned_value o.local.span.start (Some x) (Some f) (if b then Some i else None))
    (fits_itself f.value_type)
    ∙ tested_is o.local.span.start x f i (nat_le f.structure STRUCT_LIMIT) (nat_le i SOURCE_LIMIT)
    ∙ ap (λ (b : Bool). tested_if b (nat_le i SOURCE_LIMIT) (core.owned x f.structure f.number o.local.span.start i))
    (le_true f.structure STRUCT_LIMIT within)
    ∙ ap (λ (b : Bool). tested_if true b (core.owned x f.structure f.number o.local.span.start i))
    (le_true i SOURCE_LIMIT few)

-- the final reference that the code finds for a type, if it has one, is one by the rules
pub final_of_type : (decls : List Decl) (t : ValueType) (x : Ident) (f : OwnerField) →
    owner_field decls (Some t) x ≡ Some f → IsFinalOf decls t x f
final_of_type decls t x f e = when (IsFinalOf decls t x) (owner_field decls (Some t) x) (field_final decls t x) f e

pub final_types : (decls : List Decl) (o : Option ValueType) (x : Ident) (f : OwnerField) →
    owner_field decls o x ≡ Some f →
    (t : ValueType) × (o ≡ Some t) × IsFinalOf decls t x f
final_types decls None x f e = cc
final_types decls (Some t) x f e =
    (t, refl, final_of_type decls t x f e)

-- steps of which the code finds no last field end with none
pub ends_with_none : (steps base : List FieldStep) (k n : ℕ) → last_field steps ≡ None →
    steps ≡ base ++ step.Field k n ∷ [] → ⊥
ends_with_none steps base k n none ends = none_some (sym none ∙ ap last_field ends ∙ last_of base k n)
  where
    none_some : ◌≡◌ {A = Option Split} None (Some (record { base = base; structure = k; field = n })) → ⊥
    none_some e = cc

pub has_no_last : (steps : List FieldStep) →
    ((base : List FieldStep) (k n : ℕ) → steps ≡ base ++ step.Field k n ∷ [] → ⊥) →
    last_field steps ≡ None
has_no_last steps never = by_last (last_field steps) (last_ends steps)
  where
    by_last : (o : Option Split) → When (EndsWith steps) o → o ≡ None
    by_last None h = refl
    by_last (Some q) h = absurd (never q.base q.structure q.field h)
