-- What comes before each place, and the numbers of declarations and members.
use Rattle.std.proofs.Common.{◌≡◌, ℕ, zero, suc, ◌+◌, List, [], ◌∷◌, ◌++◌, Option, Some, None, Bool, true, false}
use Rattle.std.proofs.Common.{length, take, refl, sym, ap, ◌∙◌, arith, if◌then◌else◌}
use Rattle.std.specs.Prelude.{slice_get, nat_le, min}
use Rattle.std.proofs.lemmas.Bool.Decides.{nat_tests}
use Rattle.std.specs.Borrow.{Bor}
use Rattle.std.specs.Slice.{IsItemAt}
use Rattle.syntax.specs.Trees.{Decl, lock, struct, global, array, pool, init, atomic, helper, thread, Section, Member}
use Rattle.syntax.specs.Trees.{lock_member, final_member, field_member}
use Rattle.resolution.specs.Limits.{SECTION_LIMIT}
use Rattle.resolution.specs.Scopes.{count, alike, number_at, members_alike, number_in}
use Rattle.types_symbols.specs.declared.declarations.Counts.{Counts}
use Rattle.types_symbols.specs.declared.members.MemberCounts.{MemberCounts}
use Rattle.types_symbols.specs.Working.Found.{or_else, AreAhead}
use Rattle.types_symbols.proofs.Items.{item_here, item_past}
use Rattle.types_symbols.specs.Working.Counted.{count_of, counted, no_counts, counts_from, limited_of, limited}
use Rattle.types_symbols.specs.Working.Counted.{member_count, member_counted, no_members, member_counts_from}

-- ---- one place more

if_no : {A : Type 0} (b : Bool) (x y : A) → b ≡ false → (if b then x else y) ≡ y
if_no true x y e = absurd (cc)
if_no false x y e = refl

if_yes : {A : Type 0} (b : Bool) (x y : A) → b ≡ true → (if b then x else y) ≡ x
if_yes true x y e = refl
if_yes false x y e = absurd (cc)

le_more : (n m : ℕ) → nat_le n m ≡ nat_le (suc n) (suc m)
le_more n m = decide (nat_le n m) (nat_le (suc n) (suc m)) refl refl
  where
    decide : (a b : Bool) → nat_le n m ≡ a → nat_le (suc n) (suc m) ≡ b → a ≡ b
    decide true true ea eb = refl
    decide true false ea eb = grind (arith, nat_tests)
    decide false true ea eb = grind (arith, nat_tests)
    decide false false ea eb = refl

at_push : {C : Type 0} (ahead : List C) (all new : C) (i : ℕ) →
    or_else (slice_get (ahead ++ all ∷ []) i) new ≡ (if nat_le i (length ahead) then or_else (slice_get ahead i) all else new)
at_push [] all new zero = refl
at_push [] all new (suc i) = sym (if_no (nat_le (suc i) 0) all new (grind (arith, nat_tests)))
at_push (c ∷ cs) all new zero = sym (if_yes (nat_le 0 (suc (length cs))) c new (grind (arith, nat_tests)))
at_push (c ∷ cs) all new (suc i) = at_push cs all new i ∙ ap (λ (b : Bool). if b then or_else (slice_get cs i) all else new) (le_more i (length cs))

take_none : {A : Type 0} (xs : List A) → xs ≡ [] → (k : ℕ) → take k xs ≡ []
take_none [] e zero = refl
take_none [] e (suc k) = refl
take_none (x ∷ xs) e k = absurd (cc)

take_push : {A : Type 0} (xs : List A) (x : A) (i : ℕ) →
    take i (xs ++ x ∷ []) ≡ (if nat_le i (length xs) then take i xs else xs ++ x ∷ [])
take_push [] x zero = refl
take_push [] x (suc i) = ap (λ (l : List _). x ∷ l) (take_none [] refl i) ∙ sym (if_no (nat_le (suc i) 0) (take (suc i) []) (x ∷ []) (grind (arith, nat_tests)))
take_push (y ∷ ys) x zero = sym (if_yes (nat_le 0 (suc (length ys))) [] (y ∷ ys ++ x ∷ []) (grind (arith, nat_tests)))
take_push (y ∷ ys) x (suc i) = ap (λ (l : List _). y ∷ l) (take_push ys x i) ∙ behind (nat_le i (length ys)) y (take i ys) (ys ++ x ∷ []) ∙ ap (λ (b : Bool). if b then y ∷ take i ys else y ∷ (ys ++ x ∷ [])) (le_more i (length ys))
  where
    behind : {A : Type 0} (b : Bool) (y : A) (a c : List A) → (y ∷ (if b then a else c)) ≡ (if b then y ∷ a else y ∷ c)
    behind true y a c = refl
    behind false y a c = refl

made_if : {A C : Type 0} (b : Bool) (made : List A → C) (u v : List A) (p q : C) → p ≡ made u → q ≡ made v →
    (if b then p else q) ≡ made (if b then u else v)
made_if true made u v p q hp hq = hp
made_if false made u v p q hp hq = hq

-- ahead of the first
pub ahead_none : {A C : Type 0} (made : List A → C) (ahead : List C) (all : C) → ahead ≡ [] → all ≡ made [] →
    AreAhead made [] ahead all
ahead_none made ahead all none is = λ i. ap (λ (cs : List _). or_else (slice_get cs i) all) none ∙ is ∙ ap made (sym (take_none [] refl i))

pub ahead_more : {A C : Type 0} (made : List A → C) (xs : List A) (x : A) (ahead : List C) (all new : C) →
    length ahead ≡ length xs → new ≡ made (xs ++ x ∷ []) → AreAhead made xs ahead all →
    AreAhead made (xs ++ x ∷ []) (ahead ++ all ∷ []) new
ahead_more made xs x ahead all new len is table = λ i.
    at_push ahead all new i
    ∙ ap (λ (n : ℕ). if nat_le i n then or_else (slice_get ahead i) all else new) len
    ∙ made_if (nat_le i (length xs)) made (take i xs) (xs ++ x ∷ []) (or_else (slice_get ahead i) all) new (table i) is
    ∙ ap made (sym (take_push xs x i))

-- ---- counts

one_more : (b : Bool) (n : ℕ) → (if b then suc n else n) ≡ (if b then suc zero else zero) + n
one_more true n = omega arith
one_more false n = omega arith

counted_is : (c : Counts) (d x : Decl) → count_of (counted c d) x ≡ count_of c x + count (alike x) (d ∷ [])
counted_is c (lock a) (lock b) = omega arith
counted_is c (lock a) (struct b) = omega arith
counted_is c (lock a) (global b) = omega arith
counted_is c (lock a) (array b) = omega arith
counted_is c (lock a) (pool b) = omega arith
counted_is c (lock a) (init b) = omega arith
counted_is c (lock a) (atomic b) = omega arith
counted_is c (lock a) (helper b) = omega arith
counted_is c (lock a) (thread b) = omega arith
counted_is c (struct a) (lock b) = omega arith
counted_is c (struct a) (struct b) = omega arith
counted_is c (struct a) (global b) = omega arith
counted_is c (struct a) (array b) = omega arith
counted_is c (struct a) (pool b) = omega arith
counted_is c (struct a) (init b) = omega arith
counted_is c (struct a) (atomic b) = omega arith
counted_is c (struct a) (helper b) = omega arith
counted_is c (struct a) (thread b) = omega arith
counted_is c (global a) (lock b) = omega arith
counted_is c (global a) (struct b) = omega arith
counted_is c (global a) (global b) = omega arith
counted_is c (global a) (array b) = omega arith
counted_is c (global a) (pool b) = omega arith
counted_is c (global a) (init b) = omega arith
counted_is c (global a) (atomic b) = omega arith
counted_is c (global a) (helper b) = omega arith
counted_is c (global a) (thread b) = omega arith
counted_is c (array a) (lock b) = omega arith
counted_is c (array a) (struct b) = omega arith
counted_is c (array a) (global b) = omega arith
counted_is c (array a) (array b) = omega arith
counted_is c (array a) (pool b) = omega arith
counted_is c (array a) (init b) = omega arith
counted_is c (array a) (atomic b) = omega arith
counted_is c (array a) (helper b) = omega arith
counted_is c (array a) (thread b) = omega arith
counted_is c (pool a) (lock b) = omega arith
counted_is c (pool a) (struct b) = omega arith
counted_is c (pool a) (global b) = omega arith
counted_is c (pool a) (array b) = omega arith
counted_is c (pool a) (pool b) = omega arith
counted_is c (pool a) (init b) = omega arith
counted_is c (pool a) (atomic b) = omega arith
counted_is c (pool a) (helper b) = omega arith
counted_is c (pool a) (thread b) = omega arith
counted_is c (init a) (lock b) = omega arith
counted_is c (init a) (struct b) = omega arith
counted_is c (init a) (global b) = omega arith
counted_is c (init a) (array b) = omega arith
counted_is c (init a) (pool b) = omega arith
counted_is c (init a) (init b) = omega arith
counted_is c (init a) (atomic b) = omega arith
counted_is c (init a) (helper b) = omega arith
counted_is c (init a) (thread b) = omega arith
counted_is c (atomic a) (lock b) = omega arith
counted_is c (atomic a) (struct b) = omega arith
counted_is c (atomic a) (global b) = omega arith
counted_is c (atomic a) (array b) = omega arith
counted_is c (atomic a) (pool b) = omega arith
counted_is c (atomic a) (init b) = omega arith
counted_is c (atomic a) (atomic b) = omega arith
counted_is c (atomic a) (helper b) = omega arith
counted_is c (atomic a) (thread b) = omega arith
counted_is c (helper a) (lock b) = omega arith
counted_is c (helper a) (struct b) = omega arith
counted_is c (helper a) (global b) = omega arith
counted_is c (helper a) (array b) = omega arith
counted_is c (helper a) (pool b) = omega arith
counted_is c (helper a) (init b) = omega arith
counted_is c (helper a) (atomic b) = omega arith
counted_is c (helper a) (helper b) = omega arith
counted_is c (helper a) (thread b) = omega arith
counted_is c (thread a) (lock b) = omega arith
counted_is c (thread a) (struct b) = omega arith
counted_is c (thread a) (global b) = omega arith
counted_is c (thread a) (array b) = omega arith
counted_is c (thread a) (pool b) = omega arith
counted_is c (thread a) (init b) = omega arith
counted_is c (thread a) (atomic b) = omega arith
counted_is c (thread a) (helper b) = omega arith
counted_is c (thread a) (thread b) = omega arith

pub counts_append : (c : Counts) (ds : List Decl) (d : Decl) →
    counts_from c (ds ++ d ∷ []) ≡ counted (counts_from c ds) d
counts_append c [] d = refl
counts_append c (x ∷ ds) d = counts_append (counted c x) ds d

counts_are : (c : Counts) (ds : List Decl) (x : Decl) →
    count_of (counts_from c ds) x ≡ count_of c x + count (alike x) ds
counts_are c [] x = omega arith
counts_are c (d ∷ ds) x = let a = counts_are (counted c d) ds x in let b = counted_is c d x in let e = one_more (alike x d) (count (alike x) ds) in omega (arith, a, b, e)

no_count : (x : Decl) → count_of no_counts x ≡ 0
no_count (lock a) = refl
no_count (struct a) = refl
no_count (global a) = refl
no_count (array a) = refl
no_count (pool a) = refl
no_count (init a) = refl
no_count (atomic a) = refl
no_count (helper a) = refl
no_count (thread a) = refl

pub counts_none : (ds : List Decl) (x : Decl) → count_of (counts_from no_counts ds) x ≡ count (alike x) ds
counts_none ds x = let a = counts_are no_counts ds x in let b = no_count x in omega (arith, a, b)

bodies_none : (ds : List Decl) (s : Section) →
    min (counts_from no_counts ds).sections SECTION_LIMIT + min (counts_from no_counts ds).helpers SECTION_LIMIT ≡ min (count (alike (atomic s)) ds) SECTION_LIMIT + min (count (alike (helper s)) ds) SECTION_LIMIT
bodies_none ds s = ap (λ (n : ℕ). min n SECTION_LIMIT + min (counts_from no_counts ds).helpers SECTION_LIMIT) (counts_none ds (atomic s)) ∙ ap (λ (n : ℕ). min (count (alike (atomic s)) ds) SECTION_LIMIT + min n SECTION_LIMIT) (counts_none ds (helper s))

pub limited_none : (ds : List Decl) (x : Decl) → limited_of (counts_from no_counts ds) x ≡ limited ds x
limited_none ds (lock a) = counts_none ds (lock a)
limited_none ds (struct a) = counts_none ds (struct a)
limited_none ds (global a) = counts_none ds (global a)
limited_none ds (array a) = counts_none ds (array a)
limited_none ds (pool a) = counts_none ds (pool a)
limited_none ds (init a) = counts_none ds (init a)
limited_none ds (atomic a) = bodies_none ds a
limited_none ds (helper a) = bodies_none ds a
limited_none ds (thread a) = counts_none ds (thread a)

-- the number that the table gives
pub number_is : (decls : List Decl) (ahead : List Counts) (all c : Counts) (place : ℕ) (d : Decl) →
    AreAhead (counts_from no_counts) decls ahead all → c ≡ or_else (slice_get ahead place) all →
    count_of c d ≡ number_at decls place d
number_is decls ahead all c place d table is = ap (λ (k : Counts). count_of k d) (is ∙ table place) ∙ counts_none (take place decls) d

pub or_some : {C : Type 0} (o : Option C) (c all : C) → o ≡ Some c → c ≡ or_else o all
or_some o c all is = sym (ap (λ x. or_else x all) is)

pub or_none : {C : Type 0} (o : Option C) (all : C) → o ≡ None → all ≡ or_else o all
or_none o all is = sym (ap (λ x. or_else x all) is)

-- what the table gives, at a place and after its end
module _ {A C : Type 0} (made : List A → C) (xs : List A) (ahead : List C) (all : C) (place : ℕ) (table : AreAhead made xs ahead all) where
  pub ahead_here : (b : Bor C) → IsItemAt ahead place (Some b) → b.now ≡ made (take place xs)
  ahead_here b here = or_some (slice_get ahead place) b.now all (item_here ahead place b here) ∙ table place

  pub ahead_past : IsItemAt ahead place None → all ≡ made (take place xs)
  ahead_past past = or_none (slice_get ahead place) all (item_past ahead place past) ∙ table place

-- ---- members

member_counted_is : (c : MemberCounts) (d x : Member) →
    member_count (member_counted c d) x ≡ member_count c x + count (members_alike x) (d ∷ [])
member_counted_is c (lock_member a) (lock_member b) = omega arith
member_counted_is c (lock_member a) (final_member b) = omega arith
member_counted_is c (lock_member a) (field_member b) = omega arith
member_counted_is c (final_member a) (lock_member b) = omega arith
member_counted_is c (final_member a) (final_member b) = omega arith
member_counted_is c (final_member a) (field_member b) = omega arith
member_counted_is c (field_member a) (lock_member b) = omega arith
member_counted_is c (field_member a) (final_member b) = omega arith
member_counted_is c (field_member a) (field_member b) = omega arith

pub member_counts_append : (c : MemberCounts) (ds : List Member) (d : Member) →
    member_counts_from c (ds ++ d ∷ []) ≡ member_counted (member_counts_from c ds) d
member_counts_append c [] d = refl
member_counts_append c (x ∷ ds) d = member_counts_append (member_counted c x) ds d

member_counts_are : (c : MemberCounts) (ds : List Member) (x : Member) →
    member_count (member_counts_from c ds) x ≡ member_count c x + count (members_alike x) ds
member_counts_are c [] x = omega arith
member_counts_are c (d ∷ ds) x = let a = member_counts_are (member_counted c d) ds x in let b = member_counted_is c d x in let e = one_more (members_alike x d) (count (members_alike x) ds) in omega (arith, a, b, e)

no_member_count : (x : Member) → member_count no_members x ≡ 0
no_member_count (lock_member a) = refl
no_member_count (final_member a) = refl
no_member_count (field_member a) = refl

pub member_counts_none : (ds : List Member) (x : Member) →
    member_count (member_counts_from no_members ds) x ≡ count (members_alike x) ds
member_counts_none ds x = let a = member_counts_are no_members ds x in let b = no_member_count x in omega (arith, a, b)

pub member_number_is : (ms : List Member) (ahead : List MemberCounts) (all c : MemberCounts) (place : ℕ) (m : Member) → AreAhead (member_counts_from no_members) ms ahead all → c ≡ or_else (slice_get ahead place) all → member_count c m ≡ number_in ms place m
member_number_is ms ahead all c place m table is = ap (λ (k : MemberCounts). member_count k m) (is ∙ table place) ∙ member_counts_none (take place ms) m
