-- In a program without faults, each member of a pool's member has its value.
use Rattle.std.proofs.Common.{◌≡◌, ℕ, zero, suc, ◌+◌, ◌<◌, ◌≤◌, List, [], ◌∷◌, ◌++◌, length, Option, Some, None, Bool}
use Rattle.std.proofs.Common.{true, false, if◌then◌else◌, refl, sym, ap, ◌∙◌, subst, arith}
use Rattle.std.specs.Prelude.{is_some, nat_le, slice_get, ◌&&◌}
use Rattle.std.proofs.lemmas.Slice.Eq.{bytes_eq-Decides}
use Rattle.source.specs.declared.span.Span.{Span}
use Rattle.source.specs.declared.fault.Code.TheVariants.{DeclaredTwice, LimitExceeded, FinalWithoutOpeningValue}
use Rattle.syntax.specs.Trees.{Const, null_const, ref_type, Member, lock_member, final_member, field_member, Final}
use Rattle.syntax.specs.Trees.{Field, Struct, Pool, Decl, struct, pool, init}
use Rattle.core_lang.specs.declared.value.Value.{Value}
use Rattle.core_lang.specs.declared.value.Value.TheVariants.{Ref}
use Rattle.core_lang.specs.declared.value.ValueType as core_type
use Rattle.core_lang.specs.declared.value.ValueType.TheVariants.{Reference}
use Rattle.resolution.specs.declared.init_target.InitTarget.{InitTarget}
use Rattle.resolution.specs.declared.wanted.Want.TheVariants as wanted
use Rattle.resolution.specs.Limits.{MEMBER_LIMIT, CLASS_LIMIT}
use Rattle.resolution.specs.Scopes.{◌>>=◌, outside, place_from, place_of, bears, the_decl, member_name, member_bears}
use Rattle.resolution.specs.Scopes.{the_member, type_of, struct_named, count}
use Rattle.resolution.specs.Numbers.{is_lock, new_field, fields_from}
use Rattle.resolution.specs.Expressions.{want}
use Rattle.resolution.specs.Constants.{Yields, members_of, pool_members, initialised, member_want, given, default_of}
use Rattle.resolution.specs.Constants.{Opens, by_default, by_constant}
use Rattle.resolution.specs.Where.{Has, of_final, of_field}
use Rattle.resolution.specs.Faults as fault
use Rattle.resolution.specs.Working.FaultLists.{one_if, again, member_twice_faults, member_counts, lock_count}
use Rattle.resolution.specs.Working.FaultLists.{const_faults, index_faults, named_faults, null_faults, init_faults}
use Rattle.resolution.specs.Theory.Leasts.{IsAmong}
use Rattle.resolution.proofs.Named.{named_is, member_is}
use Rattle.resolution.proofs.Parts.{of_decl}
use Rattle.resolution.proofs.AllFaults.{in_member_twice, missing_in}
use Rattle.resolution.proofs.InitTargets.{Giving, giving, names_it, initialised_is}
use Rattle.resolution.proofs.FaultlessExpressions.{NoneIn, none_left, none_right, not_one, not_if, at_has, Clean, Found}
use Rattle.resolution.proofs.FaultlessExpressions.{Typing, known, known_named}
use Rattle.resolution.proofs.FaultlessConstants.{const_is, referred_is}
use Rattle.resolution.proofs.Tests.{le_false}

-- ---- names of members

place_none : {A : Type 0} (p : A → Bool) (before rest : List A) (x : A) (n : ℕ) → place_from p n before ≡ None →
    p x ≡ true → place_from p n (before ++ x ∷ rest) ≡ Some (n + length before)
place_none p [] rest x n none e = ap (λ (b : Bool). if b then Some n else place_from p (suc n) rest) e ∙ ap Some (let z : n ≡ n + 0 = omega arith in z)
place_none p (b ∷ before) rest x n none e = by_test (p b) refl none (place_none p before rest x (suc n))
  where
    by_test : (t : Bool) → p b ≡ t → (if t then Some n else place_from p (suc n) before) ≡ None →
        (place_from p (suc n) before ≡ None → p x ≡ true →
        place_from p (suc n) (before ++ x ∷ rest) ≡ Some (suc n + length before)) →
        (if t then Some n else place_from p (suc n) (before ++ x ∷ rest)) ≡ Some (n + suc (length before))
    by_test true s h rec = cc
    by_test false s h rec = rec h e ∙ ap Some (let z : suc n + length before ≡ n + suc (length before) = omega arith in z)

again_none : (p : ℕ) (o : Option ℕ) → NoneIn (again p o) → o ≡ None
again_none p None h = refl
again_none p (Some n) h = absurd (not_one DeclaredTwice p h)

-- the parts of a list at a place
pub record Parts_at {A : Type 0} (xs : List A) (n : ℕ) (x : A) : Type 0 where
  pub before : List A
  pub behind : List A
  pub parts : xs ≡ before ++ x ∷ behind
  pub place : length before ≡ n

pub parts_at : {A : Type 0} (xs : List A) (n : ℕ) (x : A) → slice_get xs n ≡ Some x → Parts_at xs n x
parts_at [] n x e = cc
parts_at {A = A} (y ∷ xs) zero x e = record { before = []; behind = xs; parts = (let s : y ≡ x = cc in ap (λ (z : A). z ∷ xs) s); place = refl }
parts_at {A = A} (y ∷ xs) (suc n) x e = let r = parts_at xs n x e in record { before = y ∷ r.before; behind = r.behind; parts = ap (λ (zs : List A). y ∷ zs) r.parts; place = ap suc r.place }

self_bears : (m : Member) → member_bears m (member_name m).text ≡ true
self_bears m = (bytes_eq-Decides (member_name m).text (member_name m).text).1 refl

-- each member is the first of its name
pub first_of_name : (ms : List Member) → NoneIn (member_twice_faults [] ms) → (n : ℕ) (x : Member) →
    slice_get ms n ≡ Some x → the_member ms (member_name x).text ≡ Some (n, x)
first_of_name ms none n x at =
    let r = parts_at ms n x at in
    let before : place_of member_bears r.before (member_name x).text ≡ None =
    again_none (member_name x).span.start (place_of member_bears r.before (member_name x).text) (λ f i. none f (subst (λ (ys : List Member). IsAmong f (member_twice_faults [] ys)) (sym r.parts) (in_member_twice [] r.before r.behind x f i))) in
    let place : place_of member_bears ms (member_name x).text ≡ Some n =
    ap (λ (ys : List Member). place_of member_bears ys (member_name x).text) r.parts ∙ place_none (λ y. member_bears y (member_name x).text) r.before r.behind x 0 before (self_bears x) ∙ ap Some (let l : length r.before ≡ n = r.place in let z : 0 + length r.before ≡ n = omega (arith, l) in z) in
    rw (place, at) refl

-- ---- how many members there are

abbrev pub is_final : Member → Bool
is_final (lock_member x) = false
is_final (final_member f) = true
is_final (field_member f) = false

abbrev pub is_field : Member → Bool
is_field (lock_member x) = false
is_field (final_member f) = false
is_field (field_member f) = true

pub fields_are : (before ms : List Member) → NoneIn (member_twice_faults before ms) →
    fields_from before ms ≡ count is_field ms
fields_are before [] none = refl
fields_are before (m ∷ ms) none =
    let a = again (member_name m).span.start (place_of member_bears before (member_name m).text) in
    let o = again_none (member_name m).span.start (place_of member_bears before (member_name m).text) (none_left a (member_twice_faults (before ++ m ∷ []) ms) none) in
    let rest = fields_are (before ++ m ∷ []) ms (none_right a (member_twice_faults (before ++ m ∷ []) ms) none) in
    ap (λ (x : Option ℕ). new_field x m + fields_from (before ++ m ∷ []) ms) o ∙ by_kind m rest
  where
    by_kind : (x : Member) → fields_from (before ++ m ∷ []) ms ≡ count is_field ms →
        new_field None x + fields_from (before ++ m ∷ []) ms ≡ count is_field (x ∷ ms)
    by_kind (lock_member x) e = omega (arith, e)
    by_kind (final_member x) e = omega (arith, e)
    by_kind (field_member x) e = omega (arith, e)

pub members_few : (classes n : ℕ) (ms : List Member) → NoneIn (member_counts classes n ms) → n ≤ MEMBER_LIMIT →
    n + length ms ≤ MEMBER_LIMIT
members_few classes n [] none le = omega (arith, le)
members_few classes n (m ∷ ms) none le =
    let a = one_if (nat_le MEMBER_LIMIT n) LimitExceeded (member_name m).span.start in
    let b = one_if (is_lock m && nat_le CLASS_LIMIT classes) LimitExceeded (member_name m).span.start in
    let rest = member_counts (classes + lock_count (is_lock m)) (n + 1) ms in
    let less : n < MEMBER_LIMIT = le_false MEMBER_LIMIT n (not_if (nat_le MEMBER_LIMIT n) LimitExceeded (member_name m).span.start (none_left a b (none_left (a ++ b) rest none))) in
    let r = members_few (classes + lock_count (is_lock m)) (n + 1) ms (none_right (a ++ b) rest none) (let z : n + 1 ≤ MEMBER_LIMIT = omega (arith, less) in z) in
    omega (arith, r)

pub count_few : (p : Member → Bool) (ms : List Member) → count p ms ≤ length ms
count_few p [] = omega arith
count_few p (m ∷ ms) = by_test (p m) (count_few p ms)
  where
    by_test : (b : Bool) → count p ms ≤ length ms → (if b then suc (count p ms) else count p ms) ≤ suc (length ms)
    by_test true le = omega (arith, le)
    by_test false le = omega (arith, le)

-- ---- values

-- a member that has its value
abbrev pub Ready : List Decl → InitTarget → Member → Type 0
Ready decls g (lock_member x) = Unit {0}
Ready decls g (final_member f) =
    (s : ℕ) × (c : Const) × (o : ℕ) × (struct_named decls f.target ≡ Some s) × (given decls g ≡ Some c) ×
    Yields decls (wanted.Value (Reference s)) c (Ref (Some o))
Ready decls g (field_member f) =
    (t : core_type.ValueType) × (v : Value) × (type_of (outside decls) f.value_type ≡ Some t) ×
    Opens decls t (given decls g) v

-- what is listed for an `init` that gives a member its value
pub record Judged (decls : List Decl) (x : Member) (m : ℕ) (c : Const) : Type 0 where
  pub fits : NoneIn (const_faults decls (member_want decls (Some (m, x))) c)
  pub not_null : NoneIn (null_faults decls (Some (m, x)) c)

same_pool : (decls : List Decl) (n : ℕ) (p q : Pool) → slice_get decls n ≡ Some (pool p) →
    slice_get decls n ≡ Some (pool q) → p ≡ q
same_pool decls n p q a b = let s : Some (pool p) ≡ Some (pool q) = sym a ∙ b in cc

judged : (decls : List Decl) → Clean decls → (i n m : ℕ) (p : Pool) (ms : List Member) (x : Member) →
    slice_get decls i ≡ Some (pool p) → members_of decls p.target ≡ Some ms → slice_get ms m ≡ Some x → (c : Const) →
    Giving decls (record { pool = i; index = n; member = m }) c → Judged decls x m c
judged decls clean i n m p ms x at are here c by =
    let g : InitTarget = record { pool = i; index = n; member = m } in
    let j = by.by in
    let names = names_it decls j g by.init_target in
    let f = named_is bears decls j.pool.text i (pool names.of) names.named_pool in
    let same = same_pool decls i names.of p f.here at in
    let mss : Some names.members ≡ Some ms = sym names.are ∙ ap (λ (q : Pool). members_of decls q.target) same ∙ are in
    let eq : names.members ≡ ms = cc in
    let there = (member_is names.members j.field.text m names.item names.found).0 in
    let there2 : Some names.item ≡ Some x = sym there ∙ ap (λ (ys : List Member). slice_get ys m) eq ∙ here in
    let item : names.item ≡ x = cc in
    let ini : initialised decls j ≡ Some (m, x) = initialised_is decls j g names ∙ ap (λ (y : Member). Some (m, y)) item in
    let a = index_faults decls j.pool.span.start (the_decl decls j.pool.text) j.index in
    let b = named_faults decls j.field.span.start (pool_members decls (the_decl decls j.pool.text)) j.field.text in
    let d = const_faults decls (member_want decls (initialised decls j)) j.value in
    let e = null_faults decls (initialised decls j) j.value in
    let none : NoneIn (init_faults decls j) = λ f h. clean f (of_decl decls (init j) by.there f (λ k s. h)) in
    record {
      fits = subst (λ (y : Const). NoneIn (const_faults decls (member_want decls (Some (m, x))) y)) by.value (subst (λ (o : Option (ℕ × Member)). NoneIn (const_faults decls (member_want decls o) j.value)) ini (none_right (a ++ b) d (none_left (a ++ b ++ d) e none)));
      not_null = subst (λ (y : Const). NoneIn (null_faults decls (Some (m, x)) y)) by.value (subst (λ (o : Option (ℕ × Member)). NoneIn (null_faults decls o j.value)) ini (none_right (a ++ b ++ d) e none));
    }

field_ready : (decls : List Decl) → Clean decls → (g : InitTarget) (f : Field) →
    Typing decls (type_of (outside decls) f.value_type) → (o : Option Const) → given decls g ≡ o →
    ((c : Const) → o ≡ Some c → NoneIn (const_faults decls (want (type_of (outside decls) f.value_type)) c)) →
    Ready decls g (field_member f)
field_ready decls clean g f t None is up =
    let v = default_of t.value_type in
    (t.value_type, v, t.is, subst (λ (y : Option Const). Opens decls t.value_type y v) (sym is) by_default)
field_ready decls clean g f t (Some c) is up =
    let v = const_is decls clean (wanted.Value t.value_type) c (subst (λ (y : Option core_type.ValueType). NoneIn (const_faults decls (want y) c)) t.is (up c refl)) in
    (t.value_type, v.0, t.is, subst (λ (y : Option Const). Opens decls t.value_type y v.0) (sym is) (by_constant v.1))

no_null : (decls : List Decl) (f : Final) (m s : ℕ) (c : Const) → struct_named decls f.target ≡ Some s →
    NoneIn (null_faults decls (Some (m, final_member f)) c) → (at : Span) → c ≡ null_const at → ⊥
no_null decls f m s c is none at e =
    let n : NoneIn (one_if (is_some (struct_named decls f.target)) FinalWithoutOpeningValue at.start) = subst (λ (y : Const). NoneIn (null_faults decls (Some (m, final_member f)) y)) e none in
    let b = not_if (is_some (struct_named decls f.target)) FinalWithoutOpeningValue at.start n in
    let t : is_some (struct_named decls f.target) ≡ true = ap is_some is in
    cc

final_ready : (decls : List Decl) → Clean decls → (g : InitTarget) (f : Final) →
    Found decls (struct_named decls f.target) → (o : Option Const) → given decls g ≡ o → (o ≡ None → ⊥) →
    ((c : Const) → o ≡ Some c → Judged decls (final_member f) g.member c) → Ready decls g (final_member f)
final_ready decls clean g f k None is missing up = absurd (missing refl)
final_ready decls clean g f k (Some c) is missing up =
    let j = up c refl in
    let ty : type_of (outside decls) (ref_type f.target) ≡ Some (Reference k.number) = ap (λ (o : Option ℕ). o >>= λ n. Some (Reference n)) k.is in
    let fits = subst (λ (y : Option core_type.ValueType). NoneIn (const_faults decls (want y) c)) ty j.fits in
    let r = referred_is decls clean k.number c fits (no_null decls f g.member k.number c k.is j.not_null) in
    (k.number, c, r.0, k.is, is, r.1)

-- each member of each member of a pool is ready
pub ready : (decls : List Decl) → Clean decls → (i n : ℕ) (p : Pool) (s : Struct) →
    slice_get decls i ≡ Some (pool p) → n < p.length.value → members_of decls p.target ≡ Some s.members →
    Has decls (struct s) → NoneIn (member_twice_faults [] s.members) →
    (m : ℕ) (x : Member) → slice_get s.members m ≡ Some x → Ready decls (record { pool = i; index = n; member = m }) x
ready decls clean i n p s at less are has once m (lock_member x) here = tt
ready decls clean i n p s at less are has once m (field_member f) here =
    let g : InitTarget = record { pool = i; index = n; member = m } in
    field_ready decls clean g f (known decls clean (outside decls) f.value_type (of_field has (at_has s.members m (field_member f) here))) (given decls g) refl
    (λ c e. (judged decls clean i n m p s.members (field_member f) at are here c (giving decls g c e)).fits)
ready decls clean i n p s at less are has once m (final_member f) here =
    let g : InitTarget = record { pool = i; index = n; member = m } in
    let k = known_named decls clean f.target (of_final has (at_has s.members m (final_member f) here)) in
    final_ready decls clean g f k (given decls g) refl
    (λ e. clean _ (missing_in decls p.name.span.start (fault.not_given i f.name.text n at are (first_of_name s.members once m (final_member f) here) k.is less e)))
    (λ c e. judged decls clean i n m p s.members (final_member f) at are here c (giving decls g c e))
