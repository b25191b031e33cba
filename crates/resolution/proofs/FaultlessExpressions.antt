-- Expressions without a listed fault have a type.
use Rattle.std.proofs.Common.{◌≡◌, ℕ, zero, suc, ◌≤◌, List, [], ◌∷◌, ◌++◌, Option, Some, None, Bool, true, false, refl}
use Rattle.std.proofs.Common.{sym, ap, ◌∙◌, subst, inl, if◌then◌else◌}
use Rattle.std.specs.Prelude.{not, is_some, slice_get}
use Rattle.source.specs.Texts.{SOURCE_LIMIT}
use Rattle.source.specs.declared.fault.Code.{Code}
use Rattle.source.specs.declared.fault.Code.TheVariants.{UnknownName, WrongType, LockAsValue}
use Rattle.syntax.specs.Trees.{Ident, ValueType, int_type, ref_type, Member, lock_member, final_member, field_member}
use Rattle.syntax.specs.Trees.{Struct, Decl, lock, struct, global, array, pool, init, atomic, helper, thread}
use Rattle.core_lang.specs.declared.value.ValueType as core_type
use Rattle.core_lang.specs.declared.value.ValueType.TheVariants.{Integer, Reference}
use Rattle.core_lang.specs.declared.tree.FieldStep.{FieldStep}
use Rattle.core_lang.specs.declared.tree.FieldStep.TheVariants as step
use Rattle.source.specs.declared.mistake.Mistake.{Mistake}
use Rattle.resolution.specs.declared.finding.Finding.{Finding}
use Rattle.resolution.specs.declared.wanted.Sort.TheVariants as sort
use Rattle.resolution.specs.declared.wanted.Want.{Want}
use Rattle.resolution.specs.declared.wanted.Want.TheVariants.{Condition, Value}
use Rattle.resolution.specs.Core as core
use Rattle.resolution.specs.Scopes.{Scope, Local, outside, Meaning, a_local, a_decl, nothing, meaning, declared_as}
use Rattle.resolution.specs.Scopes.{local_or, bears, local_bears, ◌>>=◌, number_at, the_decl, the_local, structs_in}
use Rattle.resolution.specs.Scopes.{the_struct, the_member, has_type, type_of, struct_meant, struct_named}
use Rattle.resolution.specs.Expressions.{ResolvedExpr, value, truth, fits, local_path}
use Rattle.resolution.specs.Working.TypedExpressions.{value_of, member_value}
use Rattle.resolution.specs.Expressions.{cell_of}
use Rattle.resolution.specs.Working.TypedExpressions.{fitting, as_value, as_truth, test_resolved, named_value}
use Rattle.resolution.specs.Working.TypedExpressions.{element_value, path_value}
use Rattle.resolution.specs.Expressions.{Walk, reached, at_lock, lost, stepped, walked, at_local, walk_from, over_step}
use Rattle.resolution.specs.Expressions.{over_member, over, member_number}
use Rattle.resolution.specs.Where.{Has, first, further, HasType, of_global, of_array, of_pool, of_final, of_field}
use Rattle.resolution.specs.Working.FaultLists as list
use Rattle.resolution.specs.declared.why.Why.{Why}
use Rattle.resolution.specs.declared.why.Why.TheVariants as why
use Rattle.resolution.specs.Working.Findings.{mistake_of, told, found_if}
use Rattle.resolution.specs.Working.FaultLists.{reasoned, one, one_if, unfit, no_struct, type_faults, no_elements, no_member}
use Rattle.resolution.specs.Working.FaultLists.{no_field, step_faults, end_faults, walk_faults, path_faults, misfit}
use Rattle.resolution.specs.Working.FaultLists.{declaration_faults}
use Rattle.resolution.specs.Theory.Leasts.{IsAmong, among_left, among_right}
use Rattle.resolution.proofs.Named.{named_is, member_is}
use Rattle.resolution.specs.Theory.Facts.{struct_at}
use Rattle.resolution.proofs.Parts.{of_type}

-- ---- lists with nothing in them

abbrev pub NoneIn : List Finding → Type 0
NoneIn fs = (f : Mistake) → IsAmong f fs → ⊥

pub none_left : (a b : List Finding) → NoneIn (a ++ b) → NoneIn a
none_left a b n f i = n f (among_left f a b i)

pub none_right : (a b : List Finding) → NoneIn (a ++ b) → NoneIn b
none_right a b n f i = n f (among_right f a b i)

pub not_one : (c : Code) (p : ℕ) → NoneIn (one c p) → ⊥
not_one c p n = n (record { code = c; start = p }) (inl refl)

-- (the reason of a computed one does not matter here)
pub not_found : (b : Bool) (g : Finding) → NoneIn (found_if b g) → b ≡ false
not_found true g n = absurd (n (mistake_of g) (inl refl))
not_found false g n = refl

pub not_if : (b : Bool) (c : Code) (p : ℕ) → NoneIn (one_if b c p) → b ≡ false
not_if b c p n = not_found b (told c p why.Plain) n

pub is_there : {A : Type 0} (o : Option A) → not (is_some o) ≡ false → (x : A) × (o ≡ Some x)
is_there (Some x) e = (x, refl)
is_there None e = cc

-- ---- a program with no fault

-- nothing is listed for the program
abbrev pub Clean : List Decl → Type 0
Clean decls = NoneIn (declaration_faults decls)

pub at_has : {A : Type 0} (xs : List A) (n : ℕ) (x : A) → slice_get xs n ≡ Some x → Has xs x
at_has [] n x e = cc
at_has {A = A} (y ∷ xs) zero x e = let s : y ≡ x = cc in subst (λ (z : A). Has (y ∷ xs) z) s first
at_has (y ∷ xs) (suc n) x e = further (at_has xs n x e)

pub decl_has : (decls : List Decl) (q : List ℕ) (n : ℕ) (d : Decl) → the_decl decls q ≡ Some (n, d) → Has decls d
decl_has decls q n d e = let f = named_is bears decls q n d e in at_has decls n d f.here

pub struct_has : (ds : List Decl) (k : ℕ) (s : Struct) → slice_get (structs_in ds) k ≡ Some s → Has ds (struct s)
struct_has [] k s e = cc
struct_has (struct r ∷ ds) zero s e = let same : r ≡ s = cc in subst (λ (x : Struct). Has (struct r ∷ ds) (struct x)) same first
struct_has (struct r ∷ ds) (suc k) s e = further (struct_has ds k s e)
struct_has (lock x ∷ ds) k s e = further (struct_has ds k s e)
struct_has (global v ∷ ds) k s e = further (struct_has ds k s e)
struct_has (array a ∷ ds) k s e = further (struct_has ds k s e)
struct_has (pool p ∷ ds) k s e = further (struct_has ds k s e)
struct_has (init j ∷ ds) k s e = further (struct_has ds k s e)
struct_has (atomic x ∷ ds) k s e = further (struct_has ds k s e)
struct_has (helper x ∷ ds) k s e = further (struct_has ds k s e)
struct_has (thread t ∷ ds) k s e = further (struct_has ds k s e)

-- ---- types

-- a type of the program
abbrev pub IsType : List Decl → core_type.ValueType → Type 0
IsType decls Integer = Unit {0}
IsType decls (Reference k) = (s : Struct) × (the_struct decls k ≡ Some s)

-- a declaration that a name means is at its place
abbrev pub IsMeant : List Decl → Meaning → Type 0
IsMeant decls (a_local n l) = Unit {0}
IsMeant decls (a_decl n d) = slice_get decls n ≡ Some d
IsMeant decls nothing = Unit {0}

declared_meant : (decls : List Decl) (q : List ℕ) (o : Option (ℕ × Decl)) → the_decl decls q ≡ o →
    IsMeant decls (declared_as o)
declared_meant decls q None e = tt
declared_meant decls q (Some (n, d)) e = (named_is bears decls q n d e).here

visible_meant : (decls : List Decl) (b : Bool) (n : ℕ) (l : Local) (other : Meaning) → IsMeant decls other →
    IsMeant decls (if b then a_local n l else other)
visible_meant decls true n l other h = tt
visible_meant decls false n l other h = h

local_meant : (decls : List Decl) (o : Option (ℕ × Local)) (other : Meaning) → IsMeant decls other →
    IsMeant decls (local_or o other)
local_meant decls None other h = h
local_meant decls (Some (n, l)) other h = visible_meant decls l.is_visible n l other h

pub meant : (sc : Scope) (q : List ℕ) → IsMeant sc.decls (meaning sc q)
meant sc q = local_meant sc.decls (the_local sc.locals q) (declared_as (the_decl sc.decls q)) (declared_meant sc.decls q (the_decl sc.decls q) refl)

-- the struct that is meant
pub record Found (decls : List Decl) (o : Option ℕ) : Type 0 where
  pub number : ℕ
  pub structure : Struct
  pub is : o ≡ Some number
  pub there : the_struct decls number ≡ Some structure

known_struct : (decls : List Decl) (p : ℕ) (x : Meaning) → IsMeant decls x → NoneIn (no_struct p x) →
    Found decls (struct_meant decls x)
known_struct decls p (a_local n l) here h = absurd (not_one WrongType p h)
known_struct decls p (a_decl n (struct s)) here h = record { number = number_at decls n (struct s); structure = s; is = refl; there = struct_at decls n s here }
known_struct decls p (a_decl n (lock y)) here h = absurd (not_one WrongType p h)
known_struct decls p (a_decl n (global v)) here h = absurd (not_one WrongType p h)
known_struct decls p (a_decl n (array a)) here h = absurd (not_one WrongType p h)
known_struct decls p (a_decl n (pool q)) here h = absurd (not_one WrongType p h)
known_struct decls p (a_decl n (init j)) here h = absurd (not_one WrongType p h)
known_struct decls p (a_decl n (atomic s)) here h = absurd (not_one WrongType p h)
known_struct decls p (a_decl n (helper s)) here h = absurd (not_one WrongType p h)
known_struct decls p (a_decl n (thread t)) here h = absurd (not_one WrongType p h)
known_struct decls p nothing here h = absurd (not_one UnknownName p h)

-- a type that is written is one of the program
pub record Typing (decls : List Decl) (o : Option core_type.ValueType) : Type 0 where
  pub value_type : core_type.ValueType
  pub is : o ≡ Some value_type
  pub there : IsType decls value_type

pub type_is : (sc : Scope) (t : ValueType) → NoneIn (type_faults sc t) → Typing sc.decls (type_of sc t)
type_is sc int_type h = record { value_type = Integer; is = refl; there = tt }
type_is sc (ref_type x) h =
    let k = known_struct sc.decls x.span.start (meaning sc x.text) (meant sc x.text) h in
    record { value_type = Reference k.number; is = ap (λ (o : Option ℕ). o >>= λ n. Some (Reference n)) k.is; there = (k.structure, k.there) }

-- each type of the program is known
pub known : (decls : List Decl) → Clean decls → (sc : Scope) (t : ValueType) → HasType decls sc t →
    Typing sc.decls (type_of sc t)
known decls clean sc t h = type_is sc t (λ f i. clean f (of_type decls sc t h f i))

-- the struct that a type of the program names
pub known_named : (decls : List Decl) → Clean decls → (x : Ident) → HasType decls (outside decls) (ref_type x) →
    Found decls (struct_named decls x)
known_named decls clean x h =
    known_struct decls x.span.start (meaning (outside decls) x.text) (meant (outside decls) x.text) (λ f i. clean f (of_type decls (outside decls) (ref_type x) h f i))

-- ---- scopes

-- each local has a type of the program
abbrev pub AllTyped : List Decl → List Local → Type 0
AllTyped decls ls = (n : ℕ) (l : Local) → slice_get ls n ≡ Some l → Typing decls l.value_type

-- a scope of a program with no fault, the types of whose locals have none either
pub record Context (sc : Scope) : Type 0 where
  pub clean : Clean sc.decls
  pub locals : AllTyped sc.decls sc.locals
  -- the limit of locals is at most SOURCE_LIMIT
  pub few : sc.limits.locals ≤ SOURCE_LIMIT

-- a meaning that is all right
abbrev pub IsKnown : List Decl → Meaning → Type 0
IsKnown decls (a_local n l) = Typing decls l.value_type
IsKnown decls (a_decl n d) = Has decls d
IsKnown decls nothing = Unit {0}

declared_known : (decls : List Decl) (q : List ℕ) (o : Option (ℕ × Decl)) → the_decl decls q ≡ o →
    IsKnown decls (declared_as o)
declared_known decls q None e = tt
declared_known decls q (Some (n, d)) e = decl_has decls q n d e

visible_known : (decls : List Decl) (b : Bool) (n : ℕ) (l : Local) (other : Meaning) → IsKnown decls other →
    Typing decls l.value_type → IsKnown decls (if b then a_local n l else other)
visible_known decls true n l other h t = t
visible_known decls false n l other h t = h

local_known : (decls : List Decl) (sc : Scope) → AllTyped decls sc.locals → (q : List ℕ) (o : Option (ℕ × Local)) →
    the_local sc.locals q ≡ o → (other : Meaning) → IsKnown decls other → IsKnown decls (local_or o other)
local_known decls sc all q None e other h = h
local_known decls sc all q (Some (n, l)) e other h = visible_known decls l.is_visible n l other h (all n l (named_is local_bears sc.locals q n l e).here)

pub meaning_known : (sc : Scope) → Context sc → (q : List ℕ) → IsKnown sc.decls (meaning sc q)
meaning_known sc c q =
    local_known sc.decls sc c.locals q (the_local sc.locals q) refl (declared_as (the_decl sc.decls q)) (declared_known sc.decls q (the_decl sc.decls q) refl)

-- ---- places

-- it has a type
abbrev pub HasResolvedExpr : Option ResolvedExpr → Type 0
HasResolvedExpr o = (s : ResolvedExpr) × (o ≡ Some s)

pub unfit_not : (decls : List Decl) (c : Code) (p : ℕ) (w : Why) (x : Meaning) → has_type decls x ≡ true →
    NoneIn (unfit decls (told c p w) x) → ⊥
unfit_not decls c p w x e h = let f = not_found (has_type decls x) (told c p w) h in absurd cc

some_true : {A : Type 0} (o : Option A) (x : A) → o ≡ Some x → is_some o ≡ true
some_true o x e = ap is_some e

array_typed : (decls : List Decl) → Clean decls → (n : ℕ) (a : _) → Has decls (array a) →
    has_type decls (a_decl n (array a)) ≡ true
array_typed decls clean n a h = let t = known decls clean (outside decls) a.value_type (of_array h) in some_true (type_of (outside decls) a.value_type) t.value_type t.is

global_typed : (decls : List Decl) → Clean decls → (n : ℕ) (v : _) → Has decls (global v) →
    has_type decls (a_decl n (global v)) ≡ true
global_typed decls clean n v h = let t = known decls clean (outside decls) v.value_type (of_global h) in some_true (type_of (outside decls) v.value_type) t.value_type t.is

pool_typed : (decls : List Decl) → Clean decls → (n : ℕ) (p : _) → Has decls (pool p) →
    has_type decls (a_decl n (pool p)) ≡ true
pool_typed decls clean n p h = let t = known_named decls clean p.target (of_pool h) in some_true (struct_named decls p.target) t.number t.is

-- each declaration that is meant has a type
pub decl_typed : (decls : List Decl) → Clean decls → (n : ℕ) (d : Decl) → Has decls d →
    has_type decls (a_decl n d) ≡ true
decl_typed decls clean n (lock x) h = refl
decl_typed decls clean n (struct s) h = refl
decl_typed decls clean n (global v) h = global_typed decls clean n v h
decl_typed decls clean n (array a) h = array_typed decls clean n a h
decl_typed decls clean n (pool p) h = pool_typed decls clean n p h
decl_typed decls clean n (init j) h = refl
decl_typed decls clean n (atomic s) h = refl
decl_typed decls clean n (helper s) h = refl
decl_typed decls clean n (thread t) h = refl

local_typed : (decls : List Decl) (n : ℕ) (l : Local) → Typing decls l.value_type → has_type decls (a_local n l) ≡ true
local_typed decls n l t = some_true l.value_type t.value_type t.is

value_resolved : (e : core.Expr) (o : Option core_type.ValueType) (t : core_type.ValueType) → o ≡ Some t →
    HasResolvedExpr (value_of e o)
value_resolved e o t is = (value e (sort.Of t), ap (value_of e) is)

member_resolved : (n : ℕ) (e : core.Expr) (o : Option ℕ) (k : ℕ) → o ≡ Some k → HasResolvedExpr (member_value n e o)
member_resolved n e o k is = (value (core.member n e) (sort.Of (Reference k)), ap (member_value n e) is)

pub name_resolved : (decls : List Decl) → Clean decls → (p : ℕ) (x : Meaning) → IsKnown decls x →
    NoneIn (list.no_value decls p x) → HasResolvedExpr (named_value decls p x)
name_resolved decls clean p (a_local n l) k h = value_resolved (core.place (local_path p n [])) l.value_type k.value_type k.is
name_resolved decls clean p (a_decl n (global v)) k h = let t = known decls clean (outside decls) v.value_type (of_global k) in value_resolved (core.global p (cell_of decls n)) (type_of (outside decls) v.value_type) t.value_type t.is
name_resolved decls clean p (a_decl n (lock y)) k h = absurd (not_one LockAsValue p h)
name_resolved decls clean p (a_decl n (struct s)) k h = absurd (not_one WrongType p h)
name_resolved decls clean p (a_decl n (array a)) k h = absurd (unfit_not decls WrongType p _ (a_decl n (array a)) (array_typed decls clean n a k) h)
name_resolved decls clean p (a_decl n (pool q)) k h = absurd (unfit_not decls WrongType p _ (a_decl n (pool q)) (pool_typed decls clean n q k) h)
name_resolved decls clean p (a_decl n (init j)) k h = absurd (not_one WrongType p h)
name_resolved decls clean p (a_decl n (atomic s)) k h = absurd (not_one WrongType p h)
name_resolved decls clean p (a_decl n (helper s)) k h = absurd (not_one WrongType p h)
name_resolved decls clean p (a_decl n (thread t)) k h = absurd (not_one WrongType p h)
name_resolved decls clean p nothing k h = absurd (not_one UnknownName p h)

pub element_resolved : (decls : List Decl) → Clean decls → (p : ℕ) (x : Meaning) (index : core.Expr) →
    IsKnown decls x → NoneIn (no_elements decls p x) → HasResolvedExpr (element_value decls p x (Some index))
element_resolved decls clean p (a_local n l) index k h = absurd (unfit_not decls WrongType p _ (a_local n l) (local_typed decls n l k) h)
element_resolved decls clean p (a_decl n (array a)) index k h = let t = known decls clean (outside decls) a.value_type (of_array k) in value_resolved (core.element p (number_at decls n (array a)) index) (type_of (outside decls) a.value_type) t.value_type t.is
element_resolved decls clean p (a_decl n (pool q)) index k h = let t = known_named decls clean q.target (of_pool k) in member_resolved (number_at decls n (pool q)) index (struct_named decls q.target) t.number t.is
element_resolved decls clean p (a_decl n (lock y)) index k h = absurd (not_one WrongType p h)
element_resolved decls clean p (a_decl n (struct s)) index k h = absurd (not_one WrongType p h)
element_resolved decls clean p (a_decl n (global v)) index k h = absurd (unfit_not decls WrongType p _ (a_decl n (global v)) (global_typed decls clean n v k) h)
element_resolved decls clean p (a_decl n (init j)) index k h = absurd (not_one WrongType p h)
element_resolved decls clean p (a_decl n (atomic s)) index k h = absurd (not_one WrongType p h)
element_resolved decls clean p (a_decl n (helper s)) index k h = absurd (not_one WrongType p h)
element_resolved decls clean p (a_decl n (thread t)) index k h = absurd (not_one WrongType p h)
element_resolved decls clean p nothing index k h = absurd (not_one UnknownName p h)

-- ---- paths

-- the walk has not gone astray
abbrev pub IsOnWay : List Decl → Walk → Type 0
IsOnWay decls (reached steps t) = IsType decls t
IsOnWay decls at_lock = Unit {0}
IsOnWay decls lost = ⊥

on_over : (decls : List Decl) (steps : List FieldStep) (s : FieldStep) (o : Option core_type.ValueType) →
    Typing decls o → IsOnWay decls (over_step steps s o)
on_over decls steps s o t = subst (λ (x : Option core_type.ValueType). IsOnWay decls (over_step steps s x)) (sym t.is) t.there

on_member : (decls : List Decl) → Clean decls → (steps : List FieldStep) (k : ℕ) (s : Struct) → Has decls (struct s) →
    (p : ℕ) (o : Option (ℕ × Member)) →
    ((n : ℕ) (x : Member) → ◌≡◌ {A = Option (ℕ × Member)} o (Some (n, x)) → Has s.members x) →
    NoneIn (no_member p o) → IsOnWay decls (over_member decls steps k s.members o)
on_member decls clean steps k s h p None up none = absurd (not_one UnknownName p none)
on_member decls clean steps k s h p (Some (n, lock_member x)) up none = tt
on_member decls clean steps k s h p (Some (n, final_member g)) up none = on_over decls steps (step.Final k (member_number s.members n (final_member g))) (type_of (outside decls) (ref_type g.target)) (known decls clean (outside decls) (ref_type g.target) (of_final h (up n (final_member g) refl)))
on_member decls clean steps k s h p (Some (n, field_member g)) up none = on_over decls steps (step.Field k (member_number s.members n (field_member g))) (type_of (outside decls) g.value_type) (known decls clean (outside decls) g.value_type (of_field h (up n (field_member g) refl)))

on_struct : (decls : List Decl) → Clean decls → (steps : List FieldStep) (k : ℕ) (f : Ident) (s : Struct) →
    the_struct decls k ≡ Some s → NoneIn (no_field (the_struct decls k) f) →
    IsOnWay decls (stepped decls (reached steps (Reference k)) f)
on_struct decls clean steps k f s is none =
    let found : NoneIn (no_member f.span.start (the_member s.members f.text)) = subst (λ (o : Option Struct). NoneIn (no_field o f)) is none in
    subst (λ (o : Option Struct). IsOnWay decls (over decls steps k o f.text)) (sym is)
    (on_member decls clean steps k s (struct_has decls k s is) f.span.start (the_member s.members f.text) (λ n x g. at_has s.members n x (member_is s.members f.text n x g).0) found)

on_step : (decls : List Decl) → Clean decls → (p : ℕ) (w : Walk) (f : Ident) → IsOnWay decls w →
    NoneIn (step_faults decls p w f) → IsOnWay decls (stepped decls w f)
on_step decls clean p (reached steps (Reference k)) f on none = on_struct decls clean steps k f on.0 on.1 none
on_step decls clean p (reached steps Integer) f on none = absurd (not_one WrongType p none)
on_step decls clean p at_lock f on none = absurd (not_one WrongType p none)
on_step decls clean p lost f on none = absurd on

-- the end of a walk: the fields, and the type there
pub record Arrives (decls : List Decl) (w : Walk) : Type 0 where
  pub steps : List FieldStep
  pub value_type : core_type.ValueType
  pub is : w ≡ reached steps value_type
  pub there : IsType decls value_type

on_end : (decls : List Decl) (p : ℕ) (w : Walk) → IsOnWay decls w → NoneIn (end_faults p w) → Arrives decls w
on_end decls p (reached steps t) on none = record { steps = steps; value_type = t; is = refl; there = on }
on_end decls p at_lock on none = absurd (not_one LockAsValue p none)
on_end decls p lost on none = absurd on

on_walk : (decls : List Decl) → Clean decls → (p : ℕ) (w : Walk) (fs : List Ident) → IsOnWay decls w →
    NoneIn (walk_faults decls p w fs) → Arrives decls (walked decls w fs)
on_walk decls clean p w [] on none = on_end decls p w on none
on_walk decls clean p w (f ∷ fs) on none =
    on_walk decls clean p (stepped decls w f) fs (on_step decls clean p w f on (none_left (step_faults decls p w f) (walk_faults decls p (stepped decls w f) fs) none)) (none_right (step_faults decls p w f) (walk_faults decls p (stepped decls w f) fs) none)

on_local : (decls : List Decl) (o : Option core_type.ValueType) → Typing decls o → IsOnWay decls (at_local o)
on_local decls o t = subst (λ (x : Option core_type.ValueType). IsOnWay decls (at_local x)) (sym t.is) t.there

-- a path that is all right begins at a local
pub record Path (decls : List Decl) (x : Meaning) (fs : List Ident) : Type 0 where
  pub number : ℕ
  pub local : Local
  pub is : x ≡ a_local number local
  pub arrives : Arrives decls (walk_from decls x fs)

pub path_is : (decls : List Decl) → Clean decls → (p : ℕ) (x : Meaning) (fs : List Ident) → IsKnown decls x →
    NoneIn (path_faults decls p x fs) → Path decls x fs
path_is decls clean p (a_local n l) fs k none = record { number = n; local = l; is = refl; arrives = on_walk decls clean p (at_local l.value_type) fs (on_local decls l.value_type k) none }
path_is decls clean p (a_decl n d) fs k none = absurd (unfit_not decls WrongType p _ (a_decl n d) (decl_typed decls clean n d k) none)
path_is decls clean p nothing fs k none = absurd (not_one UnknownName p none)

pub path_resolved : (decls : List Decl) (p : ℕ) (x : Meaning) (fs : List Ident) → Path decls x fs →
    HasResolvedExpr (path_value p x (walk_from decls x fs))
path_resolved decls p x fs r = (
  value (core.place (local_path p r.number r.arrives.steps)) (sort.Of r.arrives.value_type),
  ap (path_value p x) r.arrives.is ∙ ap (λ (y : Meaning). path_value p y (reached r.arrives.steps r.arrives.value_type)) r.is,
)

-- ---- expectations

pub fit_if : (p : ℕ) (b : Bool) (w : Why) → NoneIn (if b then [] else reasoned WrongType p w) → b ≡ true
fit_if p true w h = refl
fit_if p false w h = absurd (not_one WrongType p h)

-- a resolved expression without a fault of expectation is as expected
pub fit_is : (w : Want) (p : ℕ) (o : Option ResolvedExpr) (s : ResolvedExpr) → o ≡ Some s → NoneIn (misfit w p o) →
    fits w s ≡ true
fit_is w p o s is none = fit_if p (fits w s) _ (subst (λ (x : Option ResolvedExpr). NoneIn (misfit w p x)) is none)

given_value : (t : core_type.ValueType) (s : ResolvedExpr) → fits (Value t) s ≡ true →
    (e : core.Expr) × (as_value (fitting (Value t) (Some s)) ≡ Some e)
given_value t (value e s) h = (e, ap (λ (b : Bool). as_value (if b then Some (value e s) else None)) h)
given_value t (truth c) h = cc

given_test : (s : ResolvedExpr) → fits Condition s ≡ true →
    (c : core.Condition) × (as_truth (fitting Condition (Some s)) ≡ Some c)
given_test (truth c) h = (c, refl)
given_test (value e s) h = cc

-- a value, if one is expected
pub wanted_value : (t : core_type.ValueType) (o : Option ResolvedExpr) (s : ResolvedExpr) → o ≡ Some s →
    fits (Value t) s ≡ true → (e : core.Expr) × (as_value (fitting (Value t) o) ≡ Some e)
wanted_value t o s is h = let r = given_value t s h in (r.0, ap (λ (x : Option ResolvedExpr). as_value (fitting (Value t) x)) is ∙ r.1)

pub wanted_test : (o : Option ResolvedExpr) (s : ResolvedExpr) → o ≡ Some s → fits Condition s ≡ true →
    (c : core.Condition) × (test_resolved o ≡ Some c)
wanted_test o s is h = let r = given_test s h in (r.0, ap test_resolved is ∙ r.1)
