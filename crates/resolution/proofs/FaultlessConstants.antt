-- Constants, annotations, sections and calls without a listed fault are resolved.
use Rattle.std.proofs.Common.{◌≡◌, ℕ, ◌≤◌, List, [], ◌∷◌, ◌++◌, length, Option, Some, None, true, refl, ap, ◌∙◌, subst}
use Rattle.std.proofs.Common.{arith}
use Rattle.std.specs.Prelude.{pos, neg_ℤ, nat_le, nat_lt, ◌&&◌, is_some, slice_get}
use Rattle.source.specs.Texts.{NUMBER_LIMIT}
use Rattle.source.specs.declared.span.Span.{Span}
use Rattle.source.specs.declared.fault.Code.{Code}
use Rattle.source.specs.declared.fault.Code.TheVariants.{NumberTooLarge, UnknownName, WrongType}
use Rattle.source.specs.declared.fault.Code.TheVariants.{NeitherFinalNorProtected, ProtectedByNoLock}
use Rattle.source.specs.declared.fault.Code.TheVariants.{ProtectedByPassesNonFinal, InitOutOfRangeOrRepeated}
use Rattle.source.specs.declared.token.Number.{Number}
use Rattle.syntax.specs.Trees.{Ident, ref_type, Const, int_const, negative, null_const, member_const, Protection}
use Rattle.syntax.specs.Trees.{Member, lock_member, final_member, field_member, Struct, Param, Decl, lock, struct}
use Rattle.syntax.specs.Trees.{global, array, pool, init, atomic, helper, thread}
use Rattle.core_lang.specs.declared.value.Value.{Value}
use Rattle.core_lang.specs.declared.value.Value.TheVariants.{Int, Ref}
use Rattle.core_lang.specs.declared.value.ValueType.TheVariants.{Integer, Reference}
use Rattle.resolution.specs.declared.wanted.Sort.{Sort}
use Rattle.resolution.specs.declared.wanted.Sort.TheVariants as sort
use Rattle.resolution.specs.declared.wanted.Want.{Want}
use Rattle.resolution.specs.declared.wanted.Want.TheVariants as wanted
use Rattle.resolution.specs.Core as core
use Rattle.resolution.specs.Scopes as scope
use Rattle.resolution.specs.Scopes.{◌>>=◌, outside, a_decl, declared_as, the_decl, the_member, has_type}
use Rattle.resolution.specs.Scopes.{member_has_type}
use Rattle.resolution.specs.Expressions.{fits_sort, member_number}
use Rattle.resolution.specs.Constants.{IsOfSort, number_sort, negative_sort, null_sort, member_sort, object_of, Denotes}
use Rattle.resolution.specs.Constants.{a_number, a_negative, no_object, an_object, Yields, yields, want_of}
use Rattle.resolution.specs.Constants.{AreArguments, no_constant, one_constant}
use Rattle.resolution.specs.Annotations.{class_in, class_of, class_number, AnnotationCursor, at_struct, through_member}
use Rattle.resolution.specs.Annotations.{stepped_on, ended_at, along, protection_by, cursor_at, protection_of}
use Rattle.resolution.specs.Annotations as annotation
use Rattle.resolution.specs.Where.{Has, HasType, of_pool, of_final, of_field}
use Rattle.resolution.specs.Faults.{const_start}
use Rattle.resolution.specs.Working.FaultLists as list
use Rattle.resolution.specs.declared.why.Why.TheVariants as why
use Rattle.resolution.specs.declared.why.Role.TheVariants as role
use Rattle.resolution.specs.Reasons.{referent_of}
use Rattle.resolution.specs.Working.Findings.{told}
use Rattle.resolution.specs.Working.FaultLists.{unfit, unfit_member, number_faults, index_faults, own_faults}
use Rattle.resolution.specs.Working.FaultLists.{sort_misfit, const_faults, argument_faults, global_lock_faults}
use Rattle.resolution.specs.Working.FaultLists.{lock_faults, passed_faults, last_faults, passed, along_faults}
use Rattle.resolution.specs.Working.FaultLists.{annotation_faults, protection_faults}
use Rattle.resolution.proofs.Named.{named_is, member_is}
use Rattle.resolution.proofs.FaultlessExpressions.{NoneIn, none_left, none_right, not_one, not_if, at_has, decl_has}
use Rattle.resolution.proofs.FaultlessExpressions.{Clean, known, known_named, decl_typed, unfit_not, fit_if}
use Rattle.resolution.proofs.ConstantRules.{sort_is}
use Rattle.resolution.proofs.Tests.{lt_false, le_false, and_false}

-- ---- constants

-- a constant that has a sort and a value
pub record Valued (decls : List Decl) (c : Const) : Type 0 where
  pub kind : Sort
  pub sorted : IsOfSort decls c kind
  pub val : Value
  pub valued : Denotes decls c val

small : (n : Number) → NoneIn (number_faults n) → n.value ≤ NUMBER_LIMIT
small n none =
    lt_false NUMBER_LIMIT n.value (not_if (nat_lt NUMBER_LIMIT n.value) NumberTooLarge n.span.start none)

member_valued : (decls : List Decl) → Clean decls → (p : ℕ) (x : Ident) (n : Number) (o : Option (ℕ × Decl)) →
    the_decl decls x.text ≡ o → ((k : ℕ) (d : Decl) → ◌≡◌ {A = Option (ℕ × Decl)} o (Some (k, d)) → Has decls d) →
    NoneIn (index_faults decls p o n) → Valued decls (member_const x n)
member_valued decls clean p x n None at up none = absurd (not_one UnknownName p none)
member_valued decls clean p x n (Some (k, pool q)) at up none =
    let h = up k (pool q) refl in
    let t = known_named decls clean q.target (of_pool h) in
    let beyond = and_false (has_type decls (a_decl k (pool q))) (nat_le q.length.value n.value) (decl_typed decls clean k (pool q) h) (not_if (has_type decls (a_decl k (pool q)) && nat_le q.length.value n.value) InitOutOfRangeOrRepeated n.span.start none) in
    record {
      kind = sort.Of (Reference t.number);
      sorted = member_sort at t.is;
      val = Ref (Some (object_of decls k n.value));
      valued = an_object at (le_false q.length.value n.value beyond);
    }
member_valued decls clean p x n (Some (k, d)) at up none =
    absurd (unfit_not decls WrongType p (why.Misnamed role.Pool (referent_of d)) (a_decl k d) (decl_typed decls clean k d (up k d refl)) none)

const_valued : (decls : List Decl) → Clean decls → (c : Const) → NoneIn (own_faults decls c) → Valued decls c
const_valued decls clean (int_const n) none =
    record { kind = sort.Of Integer; sorted = number_sort (small n none); val = Int (pos n.value); valued = a_number }
const_valued decls clean (negative sign n) none = record {
  kind = sort.Of Integer;
  sorted = negative_sort (small n none);
  val = Int (neg_ℤ (pos n.value));
  valued = a_negative;
}
const_valued decls clean (null_const at) none =
    record { kind = sort.Null; sorted = null_sort; val = Ref None; valued = no_object }
const_valued decls clean (member_const x n) none =
    member_valued decls clean x.span.start x n (the_decl decls x.text) refl (λ k d e. decl_has decls x.text k d e) none

pub const_is : (decls : List Decl) → Clean decls → (w : Want) (c : Const) → NoneIn (const_faults decls w c) →
    (v : Value) × Yields decls w c v
const_is decls clean w c none =
    let v = const_valued decls clean c (none_left (own_faults decls c) _ none) in
    let p = const_start c in
    let misfit : NoneIn (sort_misfit w p (Some v.kind)) =
    subst (λ (o : Option Sort). NoneIn (sort_misfit w p o)) (sort_is v.sorted)
    (none_right (own_faults decls c) _ none) in
    (v.val, yields v.sorted (fit_if p (fits_sort w v.kind) _ misfit) v.valued)

pub arguments_are : (decls : List Decl) → Clean decls → (ps : List Param) (cs : List Const) → length cs ≡ length ps →
    NoneIn (argument_faults decls ps cs) → (vs : List Value) × AreArguments decls ps cs vs
arguments_are decls clean [] [] e none = ([], no_constant)
arguments_are decls clean [] (c ∷ cs) e none = absurd (omega (arith, e))
arguments_are decls clean (p ∷ ps) [] e none = absurd (omega (arith, e))
arguments_are decls clean (p ∷ ps) (c ∷ cs) e none =
    let faults = const_faults decls (want_of decls p) c in
    let v = const_is decls clean (want_of decls p) c (none_left faults _ none) in
    let r = arguments_are decls clean ps cs (omega (arith, e)) (none_right faults _ none) in
    (v.0 ∷ r.0, one_constant v.1 r.1)

-- a final reference's constant that isn't null names an object
object_of_reference : (decls : List Decl) (s : ℕ) (c : Const) (k : Sort) (v : Value) → IsOfSort decls c k →
    fits_sort (wanted.Value (Reference s)) k ≡ true → Denotes decls c v → ((at : Span) → c ≡ null_const at → ⊥) →
    (o : ℕ) × (v ≡ Ref (Some o))
object_of_reference decls s c k v h fit (an_object {n = n} {i = i} e l) not_null = (object_of decls i n.value, refl)
object_of_reference decls s c k v h fit (no_object {at = at}) not_null = absurd (not_null at refl)
object_of_reference decls s c k v (number_sort l) fit a_number not_null = cc
object_of_reference decls s c k v (negative_sort l) fit a_negative not_null = cc

pub referred_is : (decls : List Decl) → Clean decls → (s : ℕ) (c : Const) →
    NoneIn (const_faults decls (wanted.Value (Reference s)) c) → ((at : Span) → c ≡ null_const at → ⊥) →
    (o : ℕ) × Yields decls (wanted.Value (Reference s)) c (Ref (Some o))
referred_is decls clean s c none not_null =
    by_rule (const_is decls clean (wanted.Value (Reference s)) c none)
  where
    by_rule : (v : Value) × Yields decls (wanted.Value (Reference s)) c v →
        (o : ℕ) × Yields decls (wanted.Value (Reference s)) c (Ref (Some o))
    by_rule (v, yields {s = k} h fit d) =
        let o = object_of_reference decls s c k v h fit d not_null in
        (o.0, subst (Yields decls (wanted.Value (Reference s)) c) o.1 (yields h fit d))

-- ---- annotations

-- a declaration has a type without a fault, and so a fault if it is not a lock
no_lock : (decls : List Decl) → Clean decls → (p n : ℕ) (d : Decl) → Has decls d →
    NoneIn (unfit decls (told ProtectedByNoLock p why.Plain) (a_decl n d)) → ⊥
no_lock decls clean p n d h none = unfit_not decls ProtectedByNoLock p _ (a_decl n d) (decl_typed decls clean n d h) none

global_lock_is : (decls : List Decl) → Clean decls → (p : ℕ) (o : Option (ℕ × Decl)) (ys : List Ident) →
    ((k : ℕ) (d : Decl) → ◌≡◌ {A = Option (ℕ × Decl)} o (Some (k, d)) → Has decls d) →
    NoneIn (global_lock_faults decls p o ys) → (c : ℕ) × (class_in decls o ys ≡ Some c)
global_lock_is decls clean p None ys up none = absurd (not_one UnknownName p none)
global_lock_is decls clean p (Some (n, lock x)) [] up none = (class_number decls n 0, refl)
global_lock_is decls clean p (Some (n, lock x)) (y ∷ ys) up none = absurd (no_lock decls clean p n (lock x) (up n (lock x) refl) none)
global_lock_is decls clean p (Some (n, struct s)) ys up none = absurd (no_lock decls clean p n (struct s) (up n (struct s) refl) none)
global_lock_is decls clean p (Some (n, global v)) ys up none = absurd (no_lock decls clean p n (global v) (up n (global v) refl) none)
global_lock_is decls clean p (Some (n, array a)) ys up none = absurd (no_lock decls clean p n (array a) (up n (array a) refl) none)
global_lock_is decls clean p (Some (n, pool q)) ys up none = absurd (no_lock decls clean p n (pool q) (up n (pool q) refl) none)
global_lock_is decls clean p (Some (n, init j)) ys up none = absurd (no_lock decls clean p n (init j) (up n (init j) refl) none)
global_lock_is decls clean p (Some (n, atomic s)) ys up none = absurd (no_lock decls clean p n (atomic s) (up n (atomic s) refl) none)
global_lock_is decls clean p (Some (n, helper s)) ys up none = absurd (no_lock decls clean p n (helper s) (up n (helper s) refl) none)
global_lock_is decls clean p (Some (n, thread t)) ys up none = absurd (no_lock decls clean p n (thread t) (up n (thread t) refl) none)

-- the global lock that an annotation names
named_lock : (decls : List Decl) → Clean decls → (p : Protection) →
    NoneIn (global_lock_faults decls p.first.span.start (the_decl decls p.first.text) p.rest) →
    (c : ℕ) × (class_in decls (the_decl decls p.first.text) p.rest ≡ Some c)
named_lock decls clean p none = global_lock_is decls clean p.first.span.start (the_decl decls p.first.text) p.rest (λ k d e. decl_has decls p.first.text k d e) none

pub class_is : (decls : List Decl) → Clean decls → (name : ℕ) (o : Option Protection) →
    NoneIn (lock_faults decls name o) → (c : ℕ) × (class_of decls o ≡ Some c)
class_is decls clean name None none = absurd (not_one NeitherFinalNorProtected name none)
class_is decls clean name (Some p) none = named_lock decls clean p none

-- the struct that a name is found to be
named_struct : (decls : List Decl) (o : Option (ℕ × Decl)) (k : ℕ) →
    scope.struct_meant decls (declared_as o) ≡ Some k →
    (n : ℕ) × (s : Struct) × (◌≡◌ {A = Option (ℕ × Decl)} o (Some (n, struct s)))
named_struct decls (Some (n, struct s)) k e = (n, s, refl)
named_struct decls (Some (n, lock x)) k e = cc
named_struct decls (Some (n, global x)) k e = cc
named_struct decls (Some (n, array x)) k e = cc
named_struct decls (Some (n, pool x)) k e = cc
named_struct decls (Some (n, init x)) k e = cc
named_struct decls (Some (n, atomic x)) k e = cc
named_struct decls (Some (n, helper x)) k e = cc
named_struct decls (Some (n, thread x)) k e = cc
named_struct decls None k e = cc

-- each member has a type
member_typed : (decls : List Decl) → Clean decls → (s : Struct) (m : Member) → Has decls (struct s) →
    Has s.members m → member_has_type decls m ≡ true
member_typed decls clean s (lock_member x) there has = refl
member_typed decls clean s (final_member f) there has = let k = known_named decls clean f.target (of_final there has) in ap is_some k.is
member_typed decls clean s (field_member f) there has = let t = known decls clean (outside decls) f.value_type (of_field there has) in ap is_some t.is

unfit_member_not : (decls : List Decl) (c : Code) (p : ℕ) (m : Member) → member_has_type decls m ≡ true →
    NoneIn (unfit_member decls (told c p why.Plain) m) → ⊥
unfit_member_not decls c p m e h = let f = not_if (member_has_type decls m) c p h in absurd cc

-- a walk is at a struct of the program
abbrev Stands : List Decl → Option AnnotationCursor → Type 0
Stands decls o = (st : AnnotationCursor) × (s : Struct) × (o ≡ Some st) × (slice_get decls st.structure ≡ Some (struct s)) × (st.members ≡ s.members)

pub named_decl : (decls : List Decl) → Clean decls → (x : Ident) → HasType decls (outside decls) (ref_type x) →
    (n : ℕ) × (s : Struct) × (the_decl decls x.text ≡ Some (n, struct s))
named_decl decls clean x h = let k = known_named decls clean x h in named_struct decls (the_decl decls x.text) k.number k.is

on_final : (decls : List Decl) → Clean decls → (through : List ℕ) (n : ℕ) (x : Ident) →
    HasType decls (outside decls) (ref_type x) → Stands decls (at_struct through n (the_decl decls x.text))
on_final decls clean through n x h =
    let r = named_decl decls clean x h in
    let f = named_is scope.bears decls x.text r.0 (struct r.1) r.2 in
    (record { structure = r.0; members = r.1.members; through = through ++ n ∷ [] }, r.1, ap (at_struct through n) r.2, f.here, refl)

on_passed : (decls : List Decl) → Clean decls → (head here : ℕ) (st : AnnotationCursor) (s : Struct) →
    slice_get decls st.structure ≡ Some (struct s) → st.members ≡ s.members → (o : Option (ℕ × Member)) →
    ((n : ℕ) (m : Member) → ◌≡◌ {A = Option (ℕ × Member)} o (Some (n, m)) → Has s.members m) →
    NoneIn (passed_faults decls head here (length st.through) o) → Stands decls (through_member decls st o)
on_passed decls clean head here st s at same None up none = absurd (not_one UnknownName here none)
on_passed decls clean head here st s at same (Some (n, final_member g)) up none =
    on_final decls clean st.through (member_number st.members n (final_member g)) g.target (of_final (at_has decls st.structure (struct s) at) (up n (final_member g) refl))
on_passed decls clean head here st s at same (Some (n, field_member g)) up none =
    absurd (unfit_member_not decls ProtectedByPassesNonFinal here (field_member g) (member_typed decls clean s (field_member g) (at_has decls st.structure (struct s) at) (up n (field_member g) refl)) none)
on_passed decls clean head here st s at same (Some (n, lock_member x)) up none = absurd (not_one ProtectedByPassesNonFinal here none)

on_ended : (decls : List Decl) → Clean decls → (head here : ℕ) (st : AnnotationCursor) (s : Struct) →
    slice_get decls st.structure ≡ Some (struct s) → (o : Option (ℕ × Member)) →
    ((n : ℕ) (m : Member) → ◌≡◌ {A = Option (ℕ × Member)} o (Some (n, m)) → Has s.members m) →
    NoneIn (last_faults decls head here o) → (p : core.Protection) × (ended_at decls st o ≡ Some p)
on_ended decls clean head here st s at None up none = absurd (not_one UnknownName here none)
on_ended decls clean head here st s at (Some (n, lock_member x)) up none = (record { through = st.through; class = class_number decls st.structure (scope.number_in st.members n (lock_member x)) }, refl)
on_ended decls clean head here st s at (Some (n, final_member g)) up none =
    absurd (unfit_member_not decls ProtectedByNoLock head (final_member g) (member_typed decls clean s (final_member g) (at_has decls st.structure (struct s) at) (up n (final_member g) refl)) none)
on_ended decls clean head here st s at (Some (n, field_member g)) up none =
    absurd (unfit_member_not decls ProtectedByNoLock head (field_member g) (member_typed decls clean s (field_member g) (at_has decls st.structure (struct s) at) (up n (field_member g) refl)) none)

-- a member that is found at the place of a walk is one of the struct there
stands_at : (st : AnnotationCursor) (s : Struct) (q : List ℕ) → st.members ≡ s.members → (n : ℕ) (m : Member) →
    the_member st.members q ≡ Some (n, m) → Has s.members m
stands_at st s q same n m e = subst (λ (ms : List Member). Has ms m) same (at_has st.members n m (member_is st.members q n m e).0)

along_is : (decls : List Decl) → Clean decls →
    (head : ℕ) (o : Option AnnotationCursor) (y : Ident) (ys : List Ident) → Stands decls o →
    NoneIn (along_faults decls head o y ys) → (p : core.Protection) × (along decls o y ys ≡ Some p)
along_is decls clean head o y [] st none =
    let ended : NoneIn (last_faults decls head y.span.start (the_member st.0.members y.text)) = subst (λ (x : Option AnnotationCursor). NoneIn (list.ended decls head x y)) st.2 none in
    let e = on_ended decls clean head y.span.start st.0 st.1 st.3 (the_member st.0.members y.text) (stands_at st.0 st.1 y.text st.4) ended in
    (e.0, ap (λ (x : Option AnnotationCursor). annotation.ended decls x y) st.2 ∙ e.1)
along_is decls clean head o y (z ∷ zs) st none =
    let rest = along_faults decls head (stepped_on decls o y) z zs in
    let step : NoneIn (passed_faults decls head y.span.start (length st.0.through) (the_member st.0.members y.text)) = subst (λ (x : Option AnnotationCursor). NoneIn (passed decls head x y)) st.2 (none_left (passed decls head o y) rest none) in
    let next = on_passed decls clean head y.span.start st.0 st.1 st.3 st.4 (the_member st.0.members y.text) (stands_at st.0 st.1 y.text st.4) step in
    along_is decls clean head (stepped_on decls o y) z zs
    (next.0, next.1, ap (λ (x : Option AnnotationCursor). stepped_on decls x y) st.2 ∙ next.2, next.3, next.4)
    (none_right (passed decls head o y) rest none)

pub protection_is : (decls : List Decl) → Clean decls → (n : ℕ) (s : Struct) → slice_get decls n ≡ Some (struct s) →
    (name : ℕ) (o : Option Protection) → NoneIn (protection_faults decls n s.members name o) →
    (p : core.Protection) × (protection_of decls n s.members o ≡ Some p)
protection_is decls clean n s at name None none = absurd (not_one NeitherFinalNorProtected name none)
protection_is decls clean n s at name (Some p) none = by_member (the_member s.members p.first.text) none
  where
    by_member : (o : Option (ℕ × Member)) → NoneIn (annotation_faults decls (cursor_at n s.members) p o) →
        (q : core.Protection) × (protection_by decls (cursor_at n s.members) p o ≡ Some q)
    by_member (Some m) h = along_is decls clean p.first.span.start (Some (cursor_at n s.members)) p.first p.rest (cursor_at n s.members, s, refl, at, refl) h
    by_member None h = let c = named_lock decls clean p h in (record { through = []; class = c.0 }, ap (λ (o : Option ℕ). o >>= λ k. Some (record { through = []; class = k })) c.1)
