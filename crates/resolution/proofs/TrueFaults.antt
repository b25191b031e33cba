-- Each listed fault is a fault of the program.
use Rattle.std.proofs.Common.{◌≡◌, ℕ, ◌+◌, ◌<◌, ◌≤◌, List, [], ◌∷◌, ◌++◌, length, Option, Some, None, true, refl, sym}
use Rattle.std.proofs.Common.{◌∙◌, subst, append_assoc, arith}
use Rattle.std.specs.Prelude.{nat_le, nat_lt, ◌&&◌, slice_get}
use Rattle.source.specs.declared.fault.Code.TheVariants.{DeclaredTwice, LimitExceeded, InitOutOfRangeOrRepeated}
use Rattle.syntax.specs.Trees.{Ident, Member, lock_member, final_member, field_member, Struct, Init, Decl, lock}
use Rattle.syntax.specs.Trees.{struct, global, array, pool, init, atomic, helper, thread}
use Rattle.resolution.specs.declared.init_target.InitTarget.{InitTarget}
use Rattle.resolution.specs.declared.finding.Finding.{Finding}
use Rattle.resolution.specs.Limits.{STRUCT_LIMIT, MEMBER_LIMIT, CLASS_LIMIT, OBJECT_LIMIT, CELL_LIMIT, SECTION_LIMIT}
use Rattle.resolution.specs.Limits.{THREAD_LIMIT, CALL_LIMIT}
use Rattle.resolution.specs.Scopes.{place_of, count, declared, bears, alike, has_body, member_name, member_bears}
use Rattle.resolution.specs.Numbers.{is_lock, total, classes_of, objects_of, cells_of, calls_of}
use Rattle.resolution.specs.Constants.{init_target_of, giver}
use Rattle.resolution.specs.Where.{Has, first, further}
use Rattle.resolution.specs.Faults as fault
use Rattle.resolution.specs.Faults.{IsFault, declared_twice, over_limit, out_of_range}
use Rattle.resolution.specs.Working.FaultLists.{one_if, again, twice, twice_faults, member_twice_faults}
use Rattle.resolution.specs.Working.FaultLists.{struct_faults, first_too_many, lock_count, member_counts}
use Rattle.resolution.specs.Working.FaultLists.{count_faults, total_faults, given_before, init_target_again, repeated}
use Rattle.resolution.specs.Working.FaultLists.{repeated_faults, each_faults, declaration_faults}
use Rattle.resolution.specs.Theory.Leasts.{IsOneOf}
use Rattle.resolution.proofs.Members.{IsTrue_of, both, of_reason, of_reason_if, of_one, of_if}
use Rattle.resolution.proofs.TrueStatements.{length_push}
use Rattle.resolution.proofs.TrueDeclarations.{true_each}
use Rattle.resolution.proofs.Tests.{lt_of, le_of}
use Rattle.resolution.specs.Theory.Facts.{and_left, and_right}

-- ---- names

true_twice : (decls before rest : List Decl) (d : Decl) → decls ≡ before ++ d ∷ rest → (o : Option Ident) →
    declared d ≡ o → (f : Finding) → IsOneOf f (twice before o) → IsTrue_of decls f
true_twice decls before rest d parts None is f i = absurd i
true_twice decls before rest d parts (Some x) is f i = again_is (place_of bears before x.text) refl i
  where
    again_is : (o : Option ℕ) → place_of bears before x.text ≡ o → IsOneOf f (again x.span.start o) → IsTrue_of decls f
    again_is None e j = absurd j
    again_is (Some k) e j = of_one decls DeclaredTwice tt x.span.start f (declared_twice (fault.two_decls before rest d parts is e)) j

true_names : (decls before ds : List Decl) → decls ≡ before ++ ds → (f : Finding) →
    IsOneOf f (twice_faults before ds) → IsTrue_of decls f
true_names decls before [] parts f i = absurd i
true_names decls before (d ∷ ds) parts f i =
    both f (twice before (declared d)) (twice_faults (before ++ d ∷ []) ds)
    (true_twice decls before ds d parts (declared d) refl f)
    (true_names decls (before ++ d ∷ []) ds (parts ∙ sym (append_assoc before (d ∷ []) ds)) f) i

true_member_again : (decls : List Decl) (s : Struct) → Has decls (struct s) →
    (before rest : List Member) (m : Member) → s.members ≡ before ++ m ∷ rest → (o : Option ℕ) →
    place_of member_bears before (member_name m).text ≡ o → (f : Finding) →
    IsOneOf f (again (member_name m).span.start o) → IsTrue_of decls f
true_member_again decls s h before rest m parts None e f i = absurd i
true_member_again decls s h before rest m parts (Some k) e f i = of_one decls DeclaredTwice tt (member_name m).span.start f (declared_twice (fault.two_members before rest m h parts e)) i

true_member_names : (decls : List Decl) (s : Struct) → Has decls (struct s) → (before ms : List Member) →
    s.members ≡ before ++ ms → (f : Finding) → IsOneOf f (member_twice_faults before ms) → IsTrue_of decls f
true_member_names decls s h before [] parts f i = absurd i
true_member_names decls s h before (m ∷ ms) parts f i =
    both f (again (member_name m).span.start (place_of member_bears before (member_name m).text)) (member_twice_faults (before ++ m ∷ []) ms)
    (true_member_again decls s h before ms m parts (place_of member_bears before (member_name m).text) refl f)
    (true_member_names decls s h (before ++ m ∷ []) ms (parts ∙ sym (append_assoc before (m ∷ []) ms)) f) i

true_structs : (decls ds : List Decl) → ((d : Decl) → Has ds d → Has decls d) → (f : Finding) →
    IsOneOf f (struct_faults ds) → IsTrue_of decls f
true_structs decls [] up f i = absurd i
true_structs decls (struct s ∷ ds) up f i =
    both f (member_twice_faults [] s.members) (struct_faults ds)
    (true_member_names decls s (up (struct s) first) [] s.members refl f) (true_structs decls ds (λ d h. up d (further h)) f) i
true_structs decls (lock x ∷ ds) up f i = true_structs decls ds (λ d h. up d (further h)) f i
true_structs decls (global v ∷ ds) up f i = true_structs decls ds (λ d h. up d (further h)) f i
true_structs decls (array a ∷ ds) up f i = true_structs decls ds (λ d h. up d (further h)) f i
true_structs decls (pool p ∷ ds) up f i = true_structs decls ds (λ d h. up d (further h)) f i
true_structs decls (init j ∷ ds) up f i = true_structs decls ds (λ d h. up d (further h)) f i
true_structs decls (atomic s ∷ ds) up f i = true_structs decls ds (λ d h. up d (further h)) f i
true_structs decls (helper s ∷ ds) up f i = true_structs decls ds (λ d h. up d (further h)) f i
true_structs decls (thread t ∷ ds) up f i = true_structs decls ds (λ d h. up d (further h)) f i

-- ---- counts

passes_is : {P : Type 0} (limit n own : ℕ) → (n ≤ limit → limit < n + own → P) → first_too_many limit n own ≡ true → P
passes_is limit n own go e = go (le_of n limit (and_left (nat_le n limit) (nat_lt limit (n + own)) e)) (lt_of limit (n + own) (and_right (nat_le n limit) (nat_lt limit (n + own)) e))

pub count_push : (ms : List Member) (m : Member) →
    count is_lock (ms ++ m ∷ []) ≡ count is_lock ms + lock_count (is_lock m)
count_push [] (lock_member x) = refl
count_push [] (final_member g) = refl
count_push [] (field_member g) = refl
count_push (lock_member x ∷ ms) m = let r = count_push ms m in omega (arith, r)
count_push (final_member g ∷ ms) m = count_push ms m
count_push (field_member g ∷ ms) m = count_push ms m

true_lock_field : (decls before behind : List Decl) (s : Struct) → decls ≡ before ++ struct s ∷ behind →
    (ahead ms : List Member) (m : Member) → s.members ≡ ahead ++ m ∷ ms → (classes : ℕ) →
    classes ≡ total classes_of before + count is_lock ahead →
    (is_lock m && nat_le CLASS_LIMIT classes) ≡ true → IsFault decls LimitExceeded (member_name m).span.start
true_lock_field decls before behind s parts ahead ms (lock_member x) inner classes len e =
    over_limit (fault.too_many_lock_fields before behind s ahead ms x parts inner (let le = le_of CLASS_LIMIT classes e in omega (arith, le, len)))
true_lock_field decls before behind s parts ahead ms (final_member g) inner classes len e = cc
true_lock_field decls before behind s parts ahead ms (field_member g) inner classes len e = cc

true_member_counts : (decls before behind : List Decl) (s : Struct) → Has decls (struct s) →
    decls ≡ before ++ struct s ∷ behind → (ahead ms : List Member) → s.members ≡ ahead ++ ms → (classes n : ℕ) →
    classes ≡ total classes_of before + count is_lock ahead → n ≡ length ahead → (f : Finding) → IsOneOf f (member_counts classes n ms) → IsTrue_of decls f
true_member_counts decls before behind s h parts ahead [] inner classes n ec en f i = absurd i
true_member_counts decls before behind s h parts ahead (m ∷ ms) inner classes n ec en f i =
    let a = one_if (nat_le MEMBER_LIMIT n) LimitExceeded (member_name m).span.start in
    let b = one_if (is_lock m && nat_le CLASS_LIMIT classes) LimitExceeded (member_name m).span.start in
    both f (a ++ b) (member_counts (classes + lock_count (is_lock m)) (n + 1) ms)
    (both f a b
    (of_if decls (nat_le MEMBER_LIMIT n) LimitExceeded tt (member_name m).span.start f (λ e. over_limit (fault.too_many_members ahead ms m h inner (let le = le_of MEMBER_LIMIT n e in omega (arith, le, en)))))
    (of_if decls (is_lock m && nat_le CLASS_LIMIT classes) LimitExceeded tt (member_name m).span.start f (true_lock_field decls before behind s parts ahead ms m inner classes ec)))
    (true_member_counts decls before behind s h parts (ahead ++ m ∷ []) ms (inner ∙ sym (append_assoc ahead (m ∷ []) ms)) (classes + lock_count (is_lock m)) (n + 1)
    (let c = count_push ahead m in omega (arith, c, ec)) (let c = length_push ahead m in omega (arith, c, en)) f) i

true_counts : (decls before behind : List Decl) (d : Decl) → Has decls d → decls ≡ before ++ d ∷ behind →
    (f : Finding) → IsOneOf f (count_faults decls before d) → IsTrue_of decls f
true_counts decls before behind (lock x) h parts f i = of_if decls (nat_le CLASS_LIMIT (total classes_of before)) LimitExceeded tt x.span.start f (λ e. over_limit (fault.too_many_locks before behind x parts (le_of CLASS_LIMIT (total classes_of before) e))) i
true_counts decls before behind (struct s) h parts f i =
    both f (one_if (nat_le STRUCT_LIMIT (count (alike (struct s)) before)) LimitExceeded s.name.span.start) (member_counts (total classes_of before) 0 s.members)
    (of_if decls (nat_le STRUCT_LIMIT (count (alike (struct s)) before)) LimitExceeded tt s.name.span.start f (λ e. over_limit (fault.too_many before behind (struct s) STRUCT_LIMIT parts refl refl (le_of STRUCT_LIMIT (count (alike (struct s)) before) e))))
    (true_member_counts decls before behind s h parts [] s.members refl (total classes_of before) 0 (omega arith) refl f) i
true_counts decls before behind (global v) h parts f i =
    of_if decls (first_too_many CELL_LIMIT (total (cells_of decls) before) (cells_of decls (global v))) LimitExceeded tt v.name.span.start f (passes_is CELL_LIMIT (total (cells_of decls) before) (cells_of decls (global v)) (λ l g. over_limit (fault.too_many_cells before behind (global v) parts refl l g))) i
true_counts decls before behind (array a) h parts f i =
    of_if decls (first_too_many CELL_LIMIT (total (cells_of decls) before) (cells_of decls (array a))) LimitExceeded tt a.name.span.start f (passes_is CELL_LIMIT (total (cells_of decls) before) (cells_of decls (array a)) (λ l g. over_limit (fault.too_many_cells before behind (array a) parts refl l g))) i
true_counts decls before behind (pool p) h parts f i =
    both f (one_if (first_too_many OBJECT_LIMIT (total objects_of before) (objects_of (pool p))) LimitExceeded p.name.span.start) (one_if (first_too_many CELL_LIMIT (total (cells_of decls) before) (cells_of decls (pool p))) LimitExceeded p.name.span.start)
    (of_if decls (first_too_many OBJECT_LIMIT (total objects_of before) (objects_of (pool p))) LimitExceeded tt p.name.span.start f (passes_is OBJECT_LIMIT (total objects_of before) (objects_of (pool p)) (λ l g. over_limit (fault.too_many_objects before behind (pool p) parts refl l g))))
    (of_if decls (first_too_many CELL_LIMIT (total (cells_of decls) before) (cells_of decls (pool p))) LimitExceeded tt p.name.span.start f (passes_is CELL_LIMIT (total (cells_of decls) before) (cells_of decls (pool p)) (λ l g. over_limit (fault.too_many_cells before behind (pool p) parts refl l g)))) i
true_counts decls before behind (init j) h parts f i = absurd i
true_counts decls before behind (atomic s) h parts f i =
    of_if decls (nat_le SECTION_LIMIT (count has_body before)) LimitExceeded tt s.name.span.start f (λ e. over_limit (fault.too_many_sections before behind (atomic s) parts refl refl (le_of SECTION_LIMIT (count has_body before) e))) i
true_counts decls before behind (helper s) h parts f i =
    of_if decls (nat_le SECTION_LIMIT (count has_body before)) LimitExceeded tt s.name.span.start f (λ e. over_limit (fault.too_many_sections before behind (helper s) parts refl refl (le_of SECTION_LIMIT (count has_body before) e))) i
true_counts decls before behind (thread t) h parts f i =
    both f (one_if (nat_le THREAD_LIMIT (count (alike (thread t)) before)) LimitExceeded t.name.span.start) (one_if (first_too_many CALL_LIMIT (total calls_of before) (calls_of (thread t))) LimitExceeded t.name.span.start)
    (of_if decls (nat_le THREAD_LIMIT (count (alike (thread t)) before)) LimitExceeded tt t.name.span.start f (λ e. over_limit (fault.too_many before behind (thread t) THREAD_LIMIT parts refl refl (le_of THREAD_LIMIT (count (alike (thread t)) before) e))))
    (of_if decls (first_too_many CALL_LIMIT (total calls_of before) (calls_of (thread t))) LimitExceeded tt t.name.span.start f (passes_is CALL_LIMIT (total calls_of before) (calls_of (thread t)) (λ l g. over_limit (fault.too_many_calls before behind (thread t) parts refl l g)))) i

true_totals : (decls before ds : List Decl) → decls ≡ before ++ ds → ((d : Decl) → Has ds d → Has decls d) →
    (f : Finding) → IsOneOf f (total_faults decls before ds) → IsTrue_of decls f
true_totals decls before [] parts up f i = absurd i
true_totals decls before (d ∷ ds) parts up f i =
    both f (count_faults decls before d) (total_faults decls (before ++ d ∷ []) ds)
    (true_counts decls before ds d (up d first) parts f)
    (true_totals decls (before ++ d ∷ []) ds (parts ∙ sym (append_assoc before (d ∷ []) ds)) (λ x h. up x (further h)) f) i

-- ---- what is given again

true_given : (decls before behind : List Decl) (j : Init) → decls ≡ before ++ init j ∷ behind → (g : InitTarget) →
    init_target_of decls j ≡ Some g → (o : Option (ℕ × Decl)) → giver decls before g ≡ o → (f : Finding) →
    IsOneOf f (given_before j.start.start o) → IsTrue_of decls f
true_given decls before behind j parts g is None e f i = absurd i
true_given decls before behind j parts g is (Some d) e f i = of_one decls InitOutOfRangeOrRepeated tt j.start.start f (out_of_range (fault.given_again before behind j parts is e)) i

true_init_target : (decls before behind : List Decl) (j : Init) → decls ≡ before ++ init j ∷ behind →
    (o : Option InitTarget) → init_target_of decls j ≡ o → (f : Finding) →
    IsOneOf f (init_target_again decls before j.start.start o) → IsTrue_of decls f
true_init_target decls before behind j parts None e f i = absurd i
true_init_target decls before behind j parts (Some g) e f i = true_given decls before behind j parts g e (giver decls before g) refl f i

true_again : (decls before behind : List Decl) (d : Decl) → decls ≡ before ++ d ∷ behind → (f : Finding) →
    IsOneOf f (repeated decls before d) → IsTrue_of decls f
true_again decls before behind (init j) parts f i = true_init_target decls before behind j parts (init_target_of decls j) refl f i
true_again decls before behind (lock x) parts f i = absurd i
true_again decls before behind (struct s) parts f i = absurd i
true_again decls before behind (global v) parts f i = absurd i
true_again decls before behind (array a) parts f i = absurd i
true_again decls before behind (pool p) parts f i = absurd i
true_again decls before behind (atomic s) parts f i = absurd i
true_again decls before behind (helper s) parts f i = absurd i
true_again decls before behind (thread t) parts f i = absurd i

true_repeated : (decls before ds : List Decl) → decls ≡ before ++ ds → (f : Finding) →
    IsOneOf f (repeated_faults decls before ds) → IsTrue_of decls f
true_repeated decls before [] parts f i = absurd i
true_repeated decls before (d ∷ ds) parts f i =
    both f (repeated decls before d) (repeated_faults decls (before ++ d ∷ []) ds)
    (true_again decls before ds d parts f)
    (true_repeated decls (before ++ d ∷ []) ds (parts ∙ sym (append_assoc before (d ∷ []) ds)) f) i

-- ---- the whole

pub true_faults : (decls : List Decl) (f : Finding) → IsOneOf f (declaration_faults decls) → IsTrue_of decls f
true_faults decls f i =
    let a = twice_faults [] decls in
    let b = struct_faults decls in
    let c = total_faults decls [] decls in
    let d = repeated_faults decls [] decls in
    both f (a ++ b ++ c ++ d) (each_faults decls 0 decls)
    (both f (a ++ b ++ c) d
    (both f (a ++ b) c
    (both f a b (true_names decls [] decls refl f) (true_structs decls decls (λ x h. h) f))
    (true_totals decls [] decls refl (λ x h. h) f))
    (true_repeated decls [] decls refl f))
    (true_each decls 0 decls (λ j x g. subst (λ (c : ℕ). slice_get decls c ≡ Some x) (let z : j ≡ 0 + j = omega arith in z) g) (λ x h. h) f) i
