-- Sums and products that are capped at one more than their limits.
use Rattle.std.proofs.Common.{◌≡◌, ℕ, zero, suc, ◌+◌, ◌*◌, ◌<◌, ◌≤◌, List, [], ◌∷◌, ◌++◌, Bool, true, false, refl}
use Rattle.std.proofs.Common.{sym, ap, ◌∙◌, arith}
use Rattle.std.specs.Prelude.{min, nat_le, nat_lt, ◌&&◌}
use Rattle.std.proofs.lemmas.Bool.Decides.{nat_tests}
use Rattle.source.specs.declared.fault.Code.TheVariants.{LimitExceeded}
use Rattle.syntax.specs.Trees.{Decl, lock, struct, global, array, pool, init, atomic, helper, thread, Section, Member}
use Rattle.resolution.specs.declared.finding.Finding.{Finding}
use Rattle.resolution.specs.Limits.{CLASS_LIMIT, OBJECT_LIMIT, CELL_LIMIT, SECTION_LIMIT, CALL_LIMIT}
use Rattle.resolution.specs.Scopes.{count, alike, has_body, member_name}
use Rattle.resolution.specs.Theory.Facts.{bodies_counted}
use Rattle.resolution.specs.Numbers.{is_lock, classes_of, objects_of, cells_of, calls_of, total}
use Rattle.resolution.specs.Working.FaultLists.{one_if, lock_count, member_counts, count_faults}
use Rattle.types_symbols.specs.declared.totals.Totals.{Totals}
use Rattle.types_symbols.specs.Working.Counted.{limited}
use Rattle.types_symbols.specs.Working.Capped.{added_by, totals_of, both_totals, faults_by}

-- ---- products

times_pos : (a b : ℕ) → a ≤ a * suc b
times_pos zero b = omega arith
times_pos (suc a) b = let h = times_pos a b in omega (arith, h)

large_left : (L a b : ℕ) → L ≤ a → L ≤ a * suc b
large_left L a b le = let h = times_pos a b in omega (arith, h, le)

pub total_push : (of : Decl → ℕ) (ds : List Decl) (d : Decl) → total of (ds ++ d ∷ []) ≡ total of ds + of d
total_push of [] d = omega arith
total_push of (x ∷ ds) d = omega (arith, total_push of ds d)

capped_sum : (L n m s : ℕ) → s ≡ n + m → min (min n (L + 1) + min m (L + 1)) (L + 1) ≡ min s (L + 1)
capped_sum L n m s e = omega (arith, e)

pub totals_push : (decls ds : List Decl) (d : Decl) →
    both_totals (totals_of decls ds) (added_by decls d) ≡ totals_of decls (ds ++ d ∷ [])
totals_push decls ds d =
    same
    (capped_sum CLASS_LIMIT (total classes_of ds) (classes_of d) (total classes_of (ds ++ d ∷ [])) (total_push classes_of ds d))
    (capped_sum OBJECT_LIMIT (total objects_of ds) (objects_of d) (total objects_of (ds ++ d ∷ [])) (total_push objects_of ds d))
    (capped_sum CELL_LIMIT (total (cells_of decls) ds) (cells_of decls d) (total (cells_of decls) (ds ++ d ∷ [])) (total_push (cells_of decls) ds d))
    (capped_sum CALL_LIMIT (total calls_of ds) (calls_of d) (total calls_of (ds ++ d ∷ [])) (total_push calls_of ds d))
  where
    same : {a b c d a' b' c' d' : ℕ} → a ≡ a' → b ≡ b' → c ≡ c' → d ≡ d' →
        ◌≡◌ {A = Totals} (record { classes = a; objects = b; cells = c; calls = d }) (record { classes = a'; objects = b'; cells = c'; calls = d' })
    same e f g h = cc

-- ---- faults

same_test : (L n m : ℕ) →
    (nat_le (min n (L + 1)) L && nat_lt L (min n (L + 1) + min m (L + 1))) ≡ (nat_le n L && nat_lt L (n + m))
same_test L n m = decide (nat_le (min n (L + 1)) L) (nat_lt L (min n (L + 1) + min m (L + 1))) (nat_le n L) (nat_lt L (n + m)) refl refl refl refl
  where
    decide : (a b c d : Bool) → nat_le (min n (L + 1)) L ≡ a → nat_lt L (min n (L + 1) + min m (L + 1)) ≡ b →
        nat_le n L ≡ c → nat_lt L (n + m) ≡ d → (a && b) ≡ (c && d)
    decide true true true true ea eb ec ed = refl
    decide true true true false ea eb ec ed = grind (arith, nat_tests)
    decide true true false d ea eb ec ed = grind (arith, nat_tests)
    decide true false true true ea eb ec ed = grind (arith, nat_tests)
    decide true false true false ea eb ec ed = refl
    decide true false false d ea eb ec ed = refl
    decide false b true true ea eb ec ed = grind (arith, nat_tests)
    decide false b true false ea eb ec ed = refl
    decide false b false d ea eb ec ed = refl

same_le : (L n : ℕ) → nat_le L (min n (L + 1)) ≡ nat_le L n
same_le L n = decide (nat_le L (min n (L + 1))) (nat_le L n) refl refl
  where
    decide : (a b : Bool) → nat_le L (min n (L + 1)) ≡ a → nat_le L n ≡ b → a ≡ b
    decide true true ea eb = refl
    decide true false ea eb = grind (arith, nat_tests)
    decide false true ea eb = grind (arith, nat_tests)
    decide false false ea eb = refl

more_le : (L n m k : ℕ) → nat_le L n ≡ nat_le L m → n ≡ m → nat_le L (n + k) ≡ nat_le L (m + k)
more_le L n m k e h = ap (λ (x : ℕ). nat_le L (x + k)) h

-- the counts of members look at the lock classes only by whether there are too many
pub counts_same : (a b n : ℕ) (ms : List Member) →
    ((k : ℕ) → nat_le CLASS_LIMIT (a + k) ≡ nat_le CLASS_LIMIT (b + k)) → member_counts a n ms ≡ member_counts b n ms
counts_same a b n [] same = refl
counts_same a b n (m ∷ ms) same =
    ap (λ (t : Bool). one_if (nat_le 32 n) LimitExceeded (member_name m).span.start ++ one_if (is_lock m && t) LimitExceeded (member_name m).span.start ++ member_counts (a + lock_count (is_lock m)) (n + 1) ms) (here (same 0))
    ∙ ap (λ (fs : List Finding). one_if (nat_le 32 n) LimitExceeded (member_name m).span.start ++ one_if (is_lock m && nat_le CLASS_LIMIT b) LimitExceeded (member_name m).span.start ++ fs)
    (counts_same (a + lock_count (is_lock m)) (b + lock_count (is_lock m)) (n + 1) ms (λ k. ap (nat_le CLASS_LIMIT) (omega arith) ∙ same (lock_count (is_lock m) + k) ∙ ap (nat_le CLASS_LIMIT) (omega arith)))
  where
    here : nat_le CLASS_LIMIT (a + 0) ≡ nat_le CLASS_LIMIT (b + 0) → nat_le CLASS_LIMIT a ≡ nat_le CLASS_LIMIT b
    here e = ap (nat_le CLASS_LIMIT) (omega arith) ∙ e ∙ ap (nat_le CLASS_LIMIT) (omega arith)

capped_le : (L n k : ℕ) → nat_le L (min n (L + 1) + k) ≡ nat_le L (n + k)
capped_le L n k = decide (nat_le L (min n (L + 1) + k)) (nat_le L (n + k)) refl refl
  where
    decide : (a b : Bool) → nat_le L (min n (L + 1) + k) ≡ a → nat_le L (n + k) ≡ b → a ≡ b
    decide true true ea eb = refl
    decide true false ea eb = grind (arith, nat_tests)
    decide false true ea eb = grind (arith, nat_tests)
    decide false false ea eb = refl

over_if : (s t : Bool) (p : ℕ) → s ≡ t → one_if s LimitExceeded p ≡ one_if t LimitExceeded p
over_if s t p e = ap (λ (b : Bool). one_if b LimitExceeded p) e

both_lists : (a b c d : List Finding) → a ≡ c → b ≡ d → a ++ b ≡ c ++ d
both_lists a b c d e f = ap (λ (x : List Finding). x ++ b) e ∙ ap (λ (x : List Finding). c ++ x) f

both_full : (L n a b : ℕ) → n ≡ a + b → nat_le L (min a L + min b L) ≡ nat_le L n
both_full L n a b e = decide (nat_le L (min a L + min b L)) (nat_le L n) refl refl
  where
    decide : (x y : Bool) → nat_le L (min a L + min b L) ≡ x → nat_le L n ≡ y → x ≡ y
    decide true true ex ey = refl
    decide true false ex ey = grind (arith, nat_tests)
    decide false true ex ey = grind (arith, nat_tests)
    decide false false ex ey = refl

bodies_full : (ds : List Decl) (s : Section) →
    nat_le SECTION_LIMIT (limited ds (atomic s)) ≡ nat_le SECTION_LIMIT (count has_body ds)
bodies_full ds s = both_full SECTION_LIMIT (count has_body ds) (count (alike (atomic s)) ds) (count (alike (helper s)) ds) (bodies_counted ds s s)

pub faults_are : (decls ds : List Decl) (d : Decl) →
    faults_by (limited ds d) (totals_of decls ds) (added_by decls d) d ≡ count_faults decls ds d
faults_are decls ds (lock x) = over_if _ _ x.span.start (same_le CLASS_LIMIT (total classes_of ds))
faults_are decls ds (struct s) = ap (λ (fs : List Finding). one_if (nat_le 64 (count (alike (struct s)) ds)) LimitExceeded s.name.span.start ++ fs) (counts_same (min (total classes_of ds) (CLASS_LIMIT + 1)) (total classes_of ds) 0 s.members (capped_le CLASS_LIMIT (total classes_of ds)))
faults_are decls ds (global v) = over_if _ _ v.name.span.start (same_test CELL_LIMIT (total (cells_of decls) ds) (cells_of decls (global v)))
faults_are decls ds (array a) = over_if _ _ a.name.span.start (same_test CELL_LIMIT (total (cells_of decls) ds) (cells_of decls (array a)))
faults_are decls ds (pool p) = both_lists _ _ _ _ (over_if _ _ p.name.span.start (same_test OBJECT_LIMIT (total objects_of ds) (objects_of (pool p)))) (over_if _ _ p.name.span.start (same_test CELL_LIMIT (total (cells_of decls) ds) (cells_of decls (pool p))))
faults_are decls ds (init i) = refl
faults_are decls ds (atomic s) = over_if _ _ s.name.span.start (bodies_full ds s)
faults_are decls ds (helper s) = over_if _ _ s.name.span.start (bodies_full ds s)
faults_are decls ds (thread t) = ap (λ (fs : List Finding). one_if (nat_le 64 (count (alike (thread t)) ds)) LimitExceeded t.name.span.start ++ fs) (over_if _ _ t.name.span.start (same_test CALL_LIMIT (total calls_of ds) (calls_of (thread t))))

-- ---- a product of capped numbers

right_pos : (a b : ℕ) → b ≤ suc a * b
right_pos a zero = omega arith
right_pos a (suc b) = let h = right_pos a b in omega (arith, h)

pub product_is : (L n w a b : ℕ) → a ≡ min n (L + 1) → b ≡ min w (L + 1) → min (a * b) (L + 1) ≡ min (n * w) (L + 1)
product_is L zero w a b ha hb = let z : a ≡ 0 = omega (arith, ha) in ap (λ (x : ℕ). min (x * b) (L + 1)) z ∙ omega arith
product_is L (suc n) zero a b ha hb = let z : b ≡ 0 = omega (arith, hb) in ap (λ (x : ℕ). min (a * x) (L + 1)) z ∙ none a (suc n)
  where
    none_times : (x : ℕ) → x * 0 ≡ 0
    none_times x = omega arith

    none : (x y : ℕ) → min (x * 0) (L + 1) ≡ min (y * 0) (L + 1)
    none x y = ap (λ (z : ℕ). min z (L + 1)) (none_times x ∙ sym (none_times y))
product_is L (suc n) (suc w) zero b ha hb = absurd (omega (arith, ha))
product_is L (suc n) (suc w) (suc a) zero ha hb = absurd (omega (arith, hb))
product_is L (suc n) (suc w) (suc a) (suc b) ha hb = decide (nat_le n L) (nat_le w L) refl refl
  where
    decide : (p q : Bool) → nat_le n L ≡ p → nat_le w L ≡ q → min (suc a * suc b) (L + 1) ≡ min (suc n * suc w) (L + 1)
    decide true true ep eq =
        let le : n ≤ L = grind (arith, nat_tests) in
        let le' : w ≤ L = grind (arith, nat_tests) in
        let e : suc a ≡ suc n = omega (arith, ha, le) in
        let f : suc b ≡ suc w = omega (arith, hb, le') in
        ap (λ (x : ℕ). min (x * suc b) (L + 1)) e ∙ ap (λ (x : ℕ). min (suc n * x) (L + 1)) f
    decide false q ep eq =
        let lt : L < n = grind (arith, nat_tests) in
        let h = times_pos (suc a) b in
        let k = times_pos (suc n) w in
        omega (arith, ha, lt, h, k)
    decide true false ep eq =
        let lt : L < w = grind (arith, nat_tests) in
        let h = right_pos a (suc b) in
        let k = right_pos n (suc w) in
        omega (arith, hb, lt, h, k)

again_capped : (L m : ℕ) → min m (L + 1) ≡ min (min m (L + 1)) (L + 1)
again_capped L m = omega arith

pub again_product : (L n m : ℕ) → min (n * min m (L + 1)) (L + 1) ≡ min (n * m) (L + 1)
again_product L n m =
    sym (product_is L n (min m (L + 1)) (min n (L + 1)) (min m (L + 1)) refl (again_capped L m)) ∙ product_is L n m (min n (L + 1)) (min m (L + 1)) refl refl
