-- Each fault that is listed for a declaration by itself is a fault of the program.
use Rattle.std.proofs.Common.{◌≡◌, ℕ, zero, suc, ◌+◌, ◌<◌, List, [], ◌∷◌, ◌++◌, length, Option, Some, None, Bool, true}
use Rattle.std.proofs.Common.{false, refl, ap, ◌∙◌, subst, if◌then◌else◌, arith}
use Rattle.std.specs.Prelude.{nat_le, not, is_some, ◌==◌, ◌&&◌, ◌||◌, slice_get}
use Rattle.std.proofs.lemmas.Bool.{eqb-true}
use Rattle.std.proofs.lemmas.Bool.Decides.{nat_tests}
use Rattle.source.specs.declared.fault.Code.TheVariants.{UnknownName, WrongType, WrongArgumentCount}
use Rattle.source.specs.declared.fault.Code.TheVariants.{NeitherFinalNorProtected, ProtectedByNoLock}
use Rattle.source.specs.declared.fault.Code.TheVariants.{ProtectedByPassesNonFinal, LimitExceeded}
use Rattle.source.specs.declared.fault.Code.TheVariants.{FinalWithoutOpeningValue, InitOutOfRangeOrRepeated}
use Rattle.source.specs.declared.fault.Code.TheVariants.{LockAsValue}
use Rattle.syntax.specs.Trees.{Ident, ref_type, Const, int_const, negative, null_const, member_const, Protection}
use Rattle.syntax.specs.Trees.{Member, lock_member, final_member, field_member, Field, Struct, Variable, Array, Pool}
use Rattle.syntax.specs.Trees.{Init, Section, Call, Item, call, repeat, Items, no_items, item, Decl, lock, struct}
use Rattle.syntax.specs.Trees.{global, array, pool, init, atomic, helper, thread}
use Rattle.resolution.specs.declared.finding.Finding.{Finding}
use Rattle.resolution.specs.declared.why.Why.TheVariants as why
use Rattle.resolution.specs.declared.why.Role.TheVariants as role
use Rattle.resolution.specs.Working.Findings.{told}
use Rattle.resolution.specs.Limits.{FINAL_LIMIT, section_limits, helper_limits}
use Rattle.resolution.specs.Scopes.{outside, a_decl, place_of, the_decl, member_bears, the_member, has_type}
use Rattle.resolution.specs.Scopes.{member_has_type, type_of, struct_named}
use Rattle.resolution.specs.Expressions.{want}
use Rattle.resolution.specs.Constants.{members_of, pool_members, initialised, member_want, given}
use Rattle.resolution.specs.Annotations.{AnnotationCursor, through_member, stepped_on, cursor_at}
use Rattle.resolution.specs.Where.{Has, first, further, of_section, of_helper, InItems, this_call, in_repeat}
use Rattle.resolution.specs.Where.{later_call, HasCall, in_thread, opening, initial, argument, of_variable, of_elements}
use Rattle.resolution.specs.Where.{Annotates, annotates, of_global, of_array, of_pool, of_final, of_field}
use Rattle.resolution.specs.Faults as fault
use Rattle.resolution.specs.Faults.{IsFault, Reaches, stays, goes_on, Walks, walks, NamesGlobal, IsLockDecl, IsSection, unknown}
use Rattle.resolution.specs.Faults.{for_type, for_count, without_lock, ends_at_no_lock, passes_non_final, over_limit}
use Rattle.resolution.specs.Faults.{final_missing, out_of_range, lock_as_value}
use Rattle.resolution.specs.Working.FaultLists as list
use Rattle.resolution.specs.Working.FaultLists.{reasoned, unfit, misnamed, index_faults, const_faults, argument_faults, type_faults}
use Rattle.resolution.specs.Working.FaultLists.{global_lock_faults, lock_faults, passed_faults, last_faults, passed}
use Rattle.resolution.specs.Working.FaultLists.{along_faults, annotation_faults, protection_faults, members_faults}
use Rattle.resolution.specs.Working.FaultLists.{opening_faults, some_lacks, is_at, is_due, lacks, missing_faults}
use Rattle.resolution.specs.Working.FaultLists.{field_faults, named_faults, null_faults, init_faults, call_faults}
use Rattle.resolution.specs.Working.FaultLists.{item_faults, items_faults, decl_faults, each_faults}
use Rattle.resolution.specs.Theory.Leasts.{IsOneOf}
use Rattle.resolution.proofs.Members.{IsTrue_of, both, of_reason, of_reason_if, of_one, of_if}
use Rattle.resolution.proofs.TrueExpressions.{true_type, true_const, true_arguments, none_is}
use Rattle.resolution.proofs.TrueStatements.{true_section}
use Rattle.resolution.proofs.Tests.{le_of}
use Rattle.resolution.specs.Theory.Facts.{and_left, and_right}

-- ---- annotations

true_no_lock : (decls : List Decl) (p : Protection) → NamesGlobal decls p → (n : ℕ) (d : Decl) →
    the_decl decls p.first.text ≡ Some (n, d) → ((IsLockDecl d × (p.rest ≡ [])) → ⊥) → (f : Finding) →
    IsOneOf f (unfit decls (told ProtectedByNoLock p.first.span.start why.Plain) (a_decl n d)) → IsTrue_of decls f
true_no_lock decls p h n d is not_so f i = of_if decls (has_type decls (a_decl n d)) ProtectedByNoLock tt p.first.span.start f (λ t. ends_at_no_lock (fault.names_no_lock h is not_so t)) i

true_global_lock : (decls : List Decl) (p : Protection) → NamesGlobal decls p → (o : Option (ℕ × Decl)) →
    the_decl decls p.first.text ≡ o → (ys : List Ident) → p.rest ≡ ys → (f : Finding) →
    IsOneOf f (global_lock_faults decls p.first.span.start o ys) → IsTrue_of decls f
true_global_lock decls p h None is ys rest f i = of_one decls UnknownName tt p.first.span.start f (unknown (fault.no_lock h is)) i
true_global_lock decls p h (Some (n, lock x)) is [] rest f i = absurd i
true_global_lock decls p h (Some (n, lock x)) is (y ∷ ys) rest f i = true_no_lock decls p h n (lock x) is (λ q. let none : p.rest ≡ [] = q.1 in absurd cc) f i
true_global_lock decls p h (Some (n, struct s)) is ys rest f i = true_no_lock decls p h n (struct s) is (λ q. q.0) f i
true_global_lock decls p h (Some (n, global v)) is ys rest f i = true_no_lock decls p h n (global v) is (λ q. q.0) f i
true_global_lock decls p h (Some (n, array a)) is ys rest f i = true_no_lock decls p h n (array a) is (λ q. q.0) f i
true_global_lock decls p h (Some (n, pool x)) is ys rest f i = true_no_lock decls p h n (pool x) is (λ q. q.0) f i
true_global_lock decls p h (Some (n, init j)) is ys rest f i = true_no_lock decls p h n (init j) is (λ q. q.0) f i
true_global_lock decls p h (Some (n, atomic s)) is ys rest f i = true_no_lock decls p h n (atomic s) is (λ q. q.0) f i
true_global_lock decls p h (Some (n, helper s)) is ys rest f i = true_no_lock decls p h n (helper s) is (λ q. q.0) f i
true_global_lock decls p h (Some (n, thread t)) is ys rest f i = true_no_lock decls p h n (thread t) is (λ q. q.0) f i

true_variable_lock : (decls : List Decl) (v : Variable) → Has decls (global v) → (o : Option Protection) →
    v.protection ≡ o → (f : Finding) → IsOneOf f (lock_faults decls v.name.span.start o) → IsTrue_of decls f
true_variable_lock decls v h None e f i = of_one decls NeitherFinalNorProtected tt v.name.span.start f (without_lock (fault.bare_global h e)) i
true_variable_lock decls v h (Some p) e f i = true_global_lock decls p (fault.of_global (of_variable h e)) (the_decl decls p.first.text) refl p.rest refl f i

true_array_lock : (decls : List Decl) (a : Array) → Has decls (array a) → (o : Option Protection) → a.protection ≡ o →
    (f : Finding) → IsOneOf f (lock_faults decls a.name.span.start o) → IsTrue_of decls f
true_array_lock decls a h None e f i = of_one decls NeitherFinalNorProtected tt a.name.span.start f (without_lock (fault.bare_array h e)) i
true_array_lock decls a h (Some p) e f i = true_global_lock decls p (fault.of_global (of_elements h e)) (the_decl decls p.first.text) refl p.rest refl f i

pub reaches_on : (decls : List Decl) (from st next : AnnotationCursor) (y x z : Ident) (ys zs : List Ident) →
    Reaches decls from y ys st x (z ∷ zs) → through_member decls st (the_member st.members x.text) ≡ Some next →
    Reaches decls from y ys next z zs
reaches_on decls from st next y x z ys zs stays e = goes_on e stays
reaches_on decls from st next y x z (w ∷ ws) zs (goes_on {next = mid} a r) e = goes_on a (reaches_on decls mid st next w x z ws zs r e)

walks_on : (decls : List Decl) (p : Protection) (st next : AnnotationCursor) (x z : Ident) (zs : List Ident) →
    Walks decls p st x (z ∷ zs) → through_member decls st (the_member st.members x.text) ≡ Some next →
    Walks decls p next z zs
walks_on decls p st next x z zs (walks {i = i} {ms = ms} h own r) e = walks h own (reaches_on decls (cursor_at i ms) st next p.first x z p.rest zs r e)

true_passed : (decls : List Decl) (p : Protection) (st : AnnotationCursor) (y z : Ident) (zs : List Ident) →
    Walks decls p st y (z ∷ zs) → (o : Option (ℕ × Member)) → the_member st.members y.text ≡ o →
    (f : Finding) → IsOneOf f (passed_faults decls p.first.span.start y.span.start (length st.through) o) → IsTrue_of decls f
true_passed decls p st y z zs h None is f i = of_one decls UnknownName tt y.span.start f (unknown (fault.no_field_passed h is)) i
true_passed decls p st y z zs h (Some (n, final_member g)) is f i = of_if decls (nat_le FINAL_LIMIT (length st.through)) LimitExceeded tt p.first.span.start f (λ e. over_limit (fault.too_many_finals h is (le_of FINAL_LIMIT (length st.through) e))) i
true_passed decls p st y z zs h (Some (n, field_member g)) is f i = of_if decls (member_has_type decls (field_member g)) ProtectedByPassesNonFinal tt y.span.start f (λ t. passes_non_final (fault.passes h is (λ q. q) t)) i
true_passed decls p st y z zs h (Some (n, lock_member g)) is f i = of_if decls (member_has_type decls (lock_member g)) ProtectedByPassesNonFinal tt y.span.start f (λ t. passes_non_final (fault.passes h is (λ q. q) t)) i

true_last : (decls : List Decl) (p : Protection) (st : AnnotationCursor) (y : Ident) → Walks decls p st y [] →
    (o : Option (ℕ × Member)) → the_member st.members y.text ≡ o →
    (f : Finding) → IsOneOf f (last_faults decls p.first.span.start y.span.start o) → IsTrue_of decls f
true_last decls p st y h None is f i = of_one decls UnknownName tt y.span.start f (unknown (fault.no_field_passed h is)) i
true_last decls p st y h (Some (n, lock_member g)) is f i = absurd i
true_last decls p st y h (Some (n, final_member g)) is f i = of_if decls (member_has_type decls (final_member g)) ProtectedByNoLock tt p.first.span.start f (λ t. ends_at_no_lock (fault.ends_at_member h is (λ q. q) t)) i
true_last decls p st y h (Some (n, field_member g)) is f i = of_if decls (member_has_type decls (field_member g)) ProtectedByNoLock tt p.first.span.start f (λ t. ends_at_no_lock (fault.ends_at_member h is (λ q. q) t)) i

next_walk : (decls : List Decl) (p : Protection) (o : Option AnnotationCursor) (y z : Ident) (zs : List Ident) →
    ((st : AnnotationCursor) → o ≡ Some st → Walks decls p st y (z ∷ zs)) → (next : AnnotationCursor) →
    stepped_on decls o y ≡ Some next → Walks decls p next z zs
next_walk decls p None y z zs up next e = absurd cc
next_walk decls p (Some st) y z zs up next e = walks_on decls p st next y z zs (up st refl) e

passed_is : (decls : List Decl) (p : Protection) (o : Option AnnotationCursor) (y z : Ident) (zs : List Ident) →
    ((st : AnnotationCursor) → o ≡ Some st → Walks decls p st y (z ∷ zs)) → (f : Finding) →
    IsOneOf f (passed decls p.first.span.start o y) → IsTrue_of decls f
passed_is decls p None y z zs up f i = absurd i
passed_is decls p (Some st) y z zs up f i = true_passed decls p st y z zs (up st refl) (the_member st.members y.text) refl f i

ended_is : (decls : List Decl) (p : Protection) (o : Option AnnotationCursor) (y : Ident) →
    ((st : AnnotationCursor) → o ≡ Some st → Walks decls p st y []) → (f : Finding) →
    IsOneOf f (list.ended decls p.first.span.start o y) → IsTrue_of decls f
ended_is decls p None y up f i = absurd i
ended_is decls p (Some st) y up f i = true_last decls p st y (up st refl) (the_member st.members y.text) refl f i

true_along : (decls : List Decl) (p : Protection) (o : Option AnnotationCursor) (y : Ident) (ys : List Ident) →
    ((st : AnnotationCursor) → o ≡ Some st → Walks decls p st y ys) → (f : Finding) →
    IsOneOf f (along_faults decls p.first.span.start o y ys) → IsTrue_of decls f
true_along decls p o y [] up f i = ended_is decls p o y up f i
true_along decls p o y (z ∷ zs) up f i =
    both f (passed decls p.first.span.start o y) (along_faults decls p.first.span.start (stepped_on decls o y) z zs)
    (passed_is decls p o y z zs up f) (true_along decls p (stepped_on decls o y) z zs (next_walk decls p o y z zs up) f) i

first_walk : (decls : List Decl) (n : ℕ) (ms : List Member) (p : Protection) (own : ℕ × Member) →
    Annotates decls n ms p → the_member ms p.first.text ≡ Some own → (st : AnnotationCursor) →
    Some (cursor_at n ms) ≡ Some st → Walks decls p st p.first p.rest
first_walk decls n ms p own h is st e = let same : cursor_at n ms ≡ st = cc in subst (λ (s : AnnotationCursor). Walks decls p s p.first p.rest) same (walks h is stays)

true_annotation : (decls : List Decl) (n : ℕ) (ms : List Member) (p : Protection) → Annotates decls n ms p →
    (o : Option (ℕ × Member)) → the_member ms p.first.text ≡ o → (f : Finding) →
    IsOneOf f (annotation_faults decls (cursor_at n ms) p o) → IsTrue_of decls f
true_annotation decls n ms p h (Some m) is f i = true_along decls p (Some (cursor_at n ms)) p.first p.rest (first_walk decls n ms p m h is) f i
true_annotation decls n ms p h None is f i = true_global_lock decls p (fault.no_member h is) (the_decl decls p.first.text) refl p.rest refl f i

true_protection : (decls : List Decl) (n : ℕ) (s : Struct) (g : Field) → slice_get decls n ≡ Some (struct s) →
    Has decls (struct s) → Has s.members (field_member g) → (o : Option Protection) → g.protection ≡ o →
    (f : Finding) → IsOneOf f (protection_faults decls n s.members g.name.span.start o) → IsTrue_of decls f
true_protection decls n s g at h m None e f i = of_one decls NeitherFinalNorProtected tt g.name.span.start f (without_lock (fault.bare_field h m e)) i
true_protection decls n s g at h m (Some p) e f i = true_annotation decls n s.members p (annotates at m e) (the_member s.members p.first.text) refl f i

-- ---- members

true_members : (decls : List Decl) (n : ℕ) (s : Struct) → slice_get decls n ≡ Some (struct s) → Has decls (struct s) →
    (ms : List Member) → ((m : Member) → Has ms m → Has s.members m) → (f : Finding) →
    IsOneOf f (members_faults decls n s.members ms) → IsTrue_of decls f
true_members decls n s at h [] up f i = absurd i
true_members decls n s at h (lock_member x ∷ ms) up f i = true_members decls n s at h ms (λ m b. up m (further b)) f i
true_members decls n s at h (final_member g ∷ ms) up f i =
    both f (type_faults (outside decls) (ref_type g.target)) (members_faults decls n s.members ms)
    (true_type decls (outside decls) (ref_type g.target) (of_final h (up (final_member g) first)) f) (true_members decls n s at h ms (λ m b. up m (further b)) f) i
true_members decls n s at h (field_member g ∷ ms) up f i =
    both f (type_faults (outside decls) g.value_type ++ protection_faults decls n s.members g.name.span.start g.protection) (members_faults decls n s.members ms)
    (both f (type_faults (outside decls) g.value_type) (protection_faults decls n s.members g.name.span.start g.protection)
    (true_type decls (outside decls) g.value_type (of_field h (up (field_member g) first)) f)
    (true_protection decls n s g at h (up (field_member g) first) g.protection refl f))
    (true_members decls n s at h ms (λ m b. up m (further b)) f) i

-- ---- pools

or_true : {P : Type 0} (a b : Bool) → (a ≡ true → P) → (b ≡ true → P) → (a || b) ≡ true → P
or_true true b p q e = p refl
or_true false b p q e = q e

-- some member of the pool isn't given it
lacking : (decls : List Decl) (n m k : ℕ) → some_lacks decls n m k ≡ true →
    (j : ℕ) × (j < k) × (given decls (record { pool = n; index = j; member = m }) ≡ None)
lacking decls n m zero e = cc
lacking decls n m (suc k) e =
    or_true (not (is_some (given decls (record { pool = n; index = k; member = m })))) (some_lacks decls n m k)
    (λ a. (k, let l : k < suc k = omega arith in l, none_is (given decls (record { pool = n; index = k; member = m })) a))
    (λ a. let r = lacking decls n m k a in (r.0, (let l : r.0 < k = r.1 in let g : r.0 < suc k = omega arith in g), r.2)) e

at_is : (k : ℕ) (o : Option ℕ) → is_at k o ≡ true → o ≡ Some k
at_is k (Some i) e = ap Some (eqb-true i k e)
at_is k None e = cc

some_is : {A : Type 0} (o : Option A) → is_some o ≡ true → (x : A) × (o ≡ Some x)
some_is (Some x) e = (x, refl)
some_is None e = cc

-- the member is the first of its name
pub first_named : (all : List Member) (m : Member) (k : ℕ) (q : List ℕ) → place_of member_bears all q ≡ Some k →
    slice_get all k ≡ Some m → the_member all q ≡ Some (k, m)
first_named all m k q p g = rw (p, g) refl

true_due : (decls : List Decl) (n : ℕ) (p : Pool) (all : List Member) (k : ℕ) (m : Member) →
    slice_get decls n ≡ Some (pool p) → members_of decls p.target ≡ Some all → slice_get all k ≡ Some m →
    is_due decls all k m ≡ true → some_lacks decls n k p.length.value ≡ true → IsFault decls FinalWithoutOpeningValue p.name.span.start
true_due decls n p all k (lock_member x) at is here e l = cc
true_due decls n p all k (field_member g) at is here e l = cc
true_due decls n p all k (final_member g) at is here e l =
    let a = at_is k (place_of member_bears all g.name.text) (and_left (is_at k (place_of member_bears all g.name.text)) (is_some (struct_named decls g.target)) e) in
    let s = some_is (struct_named decls g.target) (and_right (is_at k (place_of member_bears all g.name.text)) (is_some (struct_named decls g.target)) e) in
    let j = lacking decls n k p.length.value l in
    final_missing (fault.not_given n g.name.text j.0 at is (first_named all (final_member g) k g.name.text a here) s.1 j.1 j.2)

true_lacks : (decls : List Decl) (n : ℕ) (p : Pool) (all : List Member) → slice_get decls n ≡ Some (pool p) →
    members_of decls p.target ≡ Some all → (k : ℕ) (ms : List Member) →
    ((j : ℕ) (m : Member) → slice_get ms j ≡ Some m → slice_get all (k + j) ≡ Some m) → lacks decls n p.length.value all k ms ≡ true → IsFault decls FinalWithoutOpeningValue p.name.span.start
true_lacks decls n p all at is k [] up e = cc
true_lacks decls n p all at is k (m ∷ ms) up e =
    or_true (is_due decls all k m && some_lacks decls n k p.length.value) (lacks decls n p.length.value all (k + 1) ms)
    (λ a. true_due decls n p all k m at is (subst (λ (j : ℕ). slice_get all j ≡ Some m) (let z : k + 0 ≡ k = omega arith in z) (up 0 m refl))
    (and_left (is_due decls all k m) (some_lacks decls n k p.length.value) a) (and_right (is_due decls all k m) (some_lacks decls n k p.length.value) a))
    (λ a. true_lacks decls n p all at is (k + 1) ms (λ j x g. subst (λ (c : ℕ). slice_get all c ≡ Some x) (let z : k + suc j ≡ k + 1 + j = omega arith in z) (up (suc j) x g)) a) e

true_missing : (decls : List Decl) (n : ℕ) (p : Pool) → slice_get decls n ≡ Some (pool p) →
    (o : Option (List Member)) → members_of decls p.target ≡ o → (f : Finding) →
    IsOneOf f (missing_faults decls n p o) → IsTrue_of decls f
true_missing decls n p at None is f i = absurd i
true_missing decls n p at (Some ms) is f i = of_if decls (lacks decls n p.length.value ms 0 ms) FinalWithoutOpeningValue tt p.name.span.start f (λ e. true_lacks decls n p ms at is 0 ms (λ j m g. subst (λ (c : ℕ). slice_get ms c ≡ Some m) (let z : j ≡ 0 + j = omega arith in z) g) e) i

-- ---- what is given to members of pools

true_init_index : (decls : List Decl) (x : Init) → Has decls (init x) → (o : Option (ℕ × Decl)) →
    the_decl decls x.pool.text ≡ o → (f : Finding) → IsOneOf f (index_faults decls x.pool.span.start o x.index) →
    IsTrue_of decls f
true_init_index decls x h None is f i = of_one decls UnknownName tt x.pool.span.start f (unknown (fault.in_init h is)) i
true_init_index decls x h (Some (k, pool p)) is f i =
    of_if decls (has_type decls (a_decl k (pool p)) && nat_le p.length.value x.index.value) InitOutOfRangeOrRepeated tt x.index.span.start f
    (λ e. out_of_range (fault.init_beyond h is (and_left (has_type decls (a_decl k (pool p))) (nat_le p.length.value x.index.value) e) (le_of p.length.value x.index.value (and_right (has_type decls (a_decl k (pool p))) (nat_le p.length.value x.index.value) e)))) i
true_init_index decls x h (Some (k, lock y)) is f i = of_reason_if decls true WrongType x.pool.span.start f (λ e. for_type (fault.no_pool_initialised h is (λ q. q) e)) i
true_init_index decls x h (Some (k, struct s)) is f i = of_reason_if decls true WrongType x.pool.span.start f (λ e. for_type (fault.no_pool_initialised h is (λ q. q) e)) i
true_init_index decls x h (Some (k, global v)) is f i = of_reason_if decls (has_type decls (a_decl k (global v))) WrongType x.pool.span.start f (λ e. for_type (fault.no_pool_initialised h is (λ q. q) e)) i
true_init_index decls x h (Some (k, array a)) is f i = of_reason_if decls (has_type decls (a_decl k (array a))) WrongType x.pool.span.start f (λ e. for_type (fault.no_pool_initialised h is (λ q. q) e)) i
true_init_index decls x h (Some (k, init j)) is f i = of_reason_if decls true WrongType x.pool.span.start f (λ e. for_type (fault.no_pool_initialised h is (λ q. q) e)) i
true_init_index decls x h (Some (k, atomic s)) is f i = of_reason_if decls true WrongType x.pool.span.start f (λ e. for_type (fault.no_pool_initialised h is (λ q. q) e)) i
true_init_index decls x h (Some (k, helper s)) is f i = of_reason_if decls true WrongType x.pool.span.start f (λ e. for_type (fault.no_pool_initialised h is (λ q. q) e)) i
true_init_index decls x h (Some (k, thread t)) is f i = of_reason_if decls true WrongType x.pool.span.start f (λ e. for_type (fault.no_pool_initialised h is (λ q. q) e)) i

-- an `init`'s field, by its members
initialised_is : (decls : List Decl) (x : Init) (ms : List Member) →
    pool_members decls (the_decl decls x.pool.text) ≡ Some ms → initialised decls x ≡ the_member ms x.field.text
initialised_is decls x ms e = rw e refl

true_init_field : (decls : List Decl) (x : Init) (ms : List Member) → Has decls (init x) →
    pool_members decls (the_decl decls x.pool.text) ≡ Some ms → (o : Option (ℕ × Member)) →
    the_member ms x.field.text ≡ o → (f : Finding) → IsOneOf f (field_faults x.field.span.start o) → IsTrue_of decls f
true_init_field decls x ms h is None e f i = of_one decls UnknownName tt x.field.span.start f (unknown (fault.no_field_initialised h is e)) i
true_init_field decls x ms h is (Some (m, lock_member y)) e f i = of_one decls LockAsValue tt x.field.span.start f (lock_as_value (fault.lock_initialised h (initialised_is decls x ms is ∙ e))) i
true_init_field decls x ms h is (Some (m, final_member y)) e f i = absurd i
true_init_field decls x ms h is (Some (m, field_member y)) e f i = absurd i

true_init_named : (decls : List Decl) (x : Init) → Has decls (init x) → (o : Option (List Member)) →
    pool_members decls (the_decl decls x.pool.text) ≡ o → (f : Finding) →
    IsOneOf f (named_faults decls x.field.span.start o x.field.text) → IsTrue_of decls f
true_init_named decls x h None is f i = absurd i
true_init_named decls x h (Some ms) is f i = true_init_field decls x ms h is (the_member ms x.field.text) refl f i

true_null : (decls : List Decl) (x : Init) → Has decls (init x) → (o : Option (ℕ × Member)) →
    initialised decls x ≡ o → (c : Const) → x.value ≡ c → (f : Finding) → IsOneOf f (null_faults decls o c) →
    IsTrue_of decls f
true_null decls x h (Some (m, final_member g)) is (null_const at) e f i =
    of_if decls (is_some (struct_named decls g.target)) FinalWithoutOpeningValue tt at.start f (λ b. let s = some_is (struct_named decls g.target) b in final_missing (fault.given_null h is s.1 e)) i
true_null decls x h (Some (m, final_member g)) is (int_const n) e f i = absurd i
true_null decls x h (Some (m, final_member g)) is (negative sign n) e f i = absurd i
true_null decls x h (Some (m, final_member g)) is (member_const p n) e f i = absurd i
true_null decls x h (Some (m, field_member g)) is c e f i = absurd i
true_null decls x h (Some (m, lock_member y)) is c e f i = absurd i
true_null decls x h None is c e f i = absurd i

true_init : (decls : List Decl) (x : Init) → Has decls (init x) → (f : Finding) → IsOneOf f (init_faults decls x) →
    IsTrue_of decls f
true_init decls x h f i =
    let a = index_faults decls x.pool.span.start (the_decl decls x.pool.text) x.index in
    let b = named_faults decls x.field.span.start (pool_members decls (the_decl decls x.pool.text)) x.field.text in
    let c = const_faults decls (member_want decls (initialised decls x)) x.value in
    both f (a ++ b ++ c) (null_faults decls (initialised decls x) x.value)
    (both f (a ++ b) c
    (both f a b (true_init_index decls x h (the_decl decls x.pool.text) refl f) (true_init_named decls x h (pool_members decls (the_decl decls x.pool.text)) refl f))
    (true_const decls (member_want decls (initialised decls x)) x.value (initial h) f))
    (true_null decls x h (initialised decls x) refl x.value refl f) i

-- ---- calls

true_count : (decls : List Decl) (c : Call) (n : ℕ) (s : Section) → HasCall decls c →
    the_decl decls c.section.text ≡ Some (n, atomic s) → (b : Bool) → (length c.arguments == length s.params) ≡ b →
    (f : Finding) → IsOneOf f (if b then argument_faults decls s.params c.arguments
    else reasoned WrongArgumentCount c.section.span.start (why.Counted (length s.params) (length c.arguments))) → IsTrue_of decls f
true_count decls c n s h is true e f i = true_arguments decls s.params c.arguments (λ k p x a b. argument k h is (eqb-true (length c.arguments) (length s.params) e) a b) f i
true_count decls c n s h is false e f i = of_reason decls WrongArgumentCount c.section.span.start f (for_count (fault.wrong_count h is (λ same. let t : (length c.arguments == length c.arguments) ≡ false = ap (λ (k : ℕ). length c.arguments == k) same ∙ e in absurd (grind (arith, nat_tests))))) i

true_no_section : (decls : List Decl) (c : Call) → HasCall decls c → (n : ℕ) (d : Decl) →
    the_decl decls c.section.text ≡ Some (n, d) → (IsSection d → ⊥) → (f : Finding) →
    IsOneOf f (misnamed decls WrongType role.Section c.section.span.start (a_decl n d)) → IsTrue_of decls f
true_no_section decls c h n d is not_so f i = of_reason_if decls (has_type decls (a_decl n d)) WrongType c.section.span.start f (λ t. for_type (fault.no_section h is not_so t)) i

true_call : (decls : List Decl) (c : Call) → HasCall decls c → (o : Option (ℕ × Decl)) →
    the_decl decls c.section.text ≡ o → (f : Finding) →
    IsOneOf f (call_faults decls c.section.span.start o c.arguments) → IsTrue_of decls f
true_call decls c h None is f i = of_one decls UnknownName tt c.section.span.start f (unknown (fault.in_call h is)) i
true_call decls c h (Some (n, atomic s)) is f i = true_count decls c n s h is (length c.arguments == length s.params) refl f i
true_call decls c h (Some (n, helper s)) is f i = true_no_section decls c h n (helper s) is (λ q. q) f i
true_call decls c h (Some (n, lock x)) is f i = true_no_section decls c h n (lock x) is (λ q. q) f i
true_call decls c h (Some (n, struct s)) is f i = true_no_section decls c h n (struct s) is (λ q. q) f i
true_call decls c h (Some (n, global v)) is f i = true_no_section decls c h n (global v) is (λ q. q) f i
true_call decls c h (Some (n, array a)) is f i = true_no_section decls c h n (array a) is (λ q. q) f i
true_call decls c h (Some (n, pool p)) is f i = true_no_section decls c h n (pool p) is (λ q. q) f i
true_call decls c h (Some (n, init j)) is f i = true_no_section decls c h n (init j) is (λ q. q) f i
true_call decls c h (Some (n, thread t)) is f i = true_no_section decls c h n (thread t) is (λ q. q) f i

-- what stands in the first item stands in them all
widened : {i : Item} {is : Items} {c : Call} → InItems (item i no_items) c → InItems (item i is) c
widened this_call = this_call
widened (in_repeat b) = in_repeat b
widened (later_call b) = elim b [ ]

mutual
  true_item : (decls : List Decl) (x : Item) → ((c : Call) → InItems (item x no_items) c → HasCall decls c) →
      (f : Finding) → IsOneOf f (item_faults decls x) → IsTrue_of decls f
  true_item decls (call c) up f i = true_call decls c (up c this_call) (the_decl decls c.section.text) refl f i
  true_item decls (repeat n is) up f i = true_items decls is (λ c b. up c (in_repeat b)) f i

  true_items : (decls : List Decl) (is : Items) → ((c : Call) → InItems is c → HasCall decls c) → (f : Finding) →
      IsOneOf f (items_faults decls is) → IsTrue_of decls f
  true_items decls no_items up f i = absurd i
  true_items decls (item x rest) up f i =
      both f (item_faults decls x) (items_faults decls rest) (true_item decls x (λ c b. up c (widened b)) f) (true_items decls rest (λ c b. up c (later_call b)) f) i

-- ---- declarations

true_opening : (decls : List Decl) (v : Variable) → Has decls (global v) → (o : Option Const) → v.value ≡ o →
    (f : Finding) → IsOneOf f (opening_faults decls (want (type_of (outside decls) v.value_type)) o) →
    IsTrue_of decls f
true_opening decls v h None e f i = absurd i
true_opening decls v h (Some c) e f i = true_const decls (want (type_of (outside decls) v.value_type)) c (opening h e) f i

true_decl : (decls : List Decl) (n : ℕ) (d : Decl) → slice_get decls n ≡ Some d → Has decls d → (f : Finding) →
    IsOneOf f (decl_faults decls n d) → IsTrue_of decls f
true_decl decls n (lock x) at h f i = absurd i
true_decl decls n (struct s) at h f i = true_members decls n s at h s.members (λ m b. b) f i
true_decl decls n (global v) at h f i =
    let a = type_faults (outside decls) v.value_type in
    let b = lock_faults decls v.name.span.start v.protection in
    both f (a ++ b) (opening_faults decls (want (type_of (outside decls) v.value_type)) v.value)
    (both f a b (true_type decls (outside decls) v.value_type (of_global h) f) (true_variable_lock decls v h v.protection refl f))
    (true_opening decls v h v.value refl f) i
true_decl decls n (array a) at h f i =
    both f (type_faults (outside decls) a.value_type) (lock_faults decls a.name.span.start a.protection)
    (true_type decls (outside decls) a.value_type (of_array h) f) (true_array_lock decls a h a.protection refl f) i
true_decl decls n (pool p) at h f i =
    both f (type_faults (outside decls) (ref_type p.target)) (missing_faults decls n p (members_of decls p.target))
    (true_type decls (outside decls) (ref_type p.target) (of_pool h) f) (true_missing decls n p at (members_of decls p.target) refl f) i
true_decl decls n (init x) at h f i = true_init decls x h f i
true_decl decls n (atomic s) at h f i = true_section decls section_limits s (of_section h) f i
true_decl decls n (helper s) at h f i = true_section decls helper_limits s (of_helper h) f i
true_decl decls n (thread t) at h f i = true_items decls t.items (λ c b. in_thread h b) f i

pub true_each : (decls : List Decl) (n : ℕ) (ds : List Decl) →
    ((j : ℕ) (d : Decl) → slice_get ds j ≡ Some d → slice_get decls (n + j) ≡ Some d) →
    ((d : Decl) → Has ds d → Has decls d) → (f : Finding) → IsOneOf f (each_faults decls n ds) → IsTrue_of decls f
true_each decls n [] at up f i = absurd i
true_each decls n (d ∷ ds) at up f i =
    both f (decl_faults decls n d) (each_faults decls (n + 1) ds)
    (true_decl decls n d (subst (λ (j : ℕ). slice_get decls j ≡ Some d) (let z : n + 0 ≡ n = omega arith in z) (at 0 d refl)) (up d first) f)
    (true_each decls (n + 1) ds (λ j x g. subst (λ (c : ℕ). slice_get decls c ≡ Some x) (let z : n + suc j ≡ n + 1 + j = omega arith in z) (at (suc j) x g)) (λ x b. up x (further b)) f) i
