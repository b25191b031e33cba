-- The locks that are taken of a class are those to ask for, in their order, class after class.
use Rattle.std.proofs.Common.{◌≡◌, ℕ, ◌<◌, List, [], ◌∷◌, ◌++◌, Option, Some, None, Bool, true, false}
use Rattle.std.proofs.Common.{refl, sym, ap, ◌∙◌, subst, arith}
use Rattle.std.specs.Prelude.{nat_lt, ◌||◌, ◌&&◌, ◌==◌, if◌then◌else◌, slice_index, ⊤}
use Rattle.std.proofs.lemmas.Bool.Decides.{nat_tests}
use Rattle.locks.specs.declared.lock.Lock.{Lock}
use Rattle.locks.specs.Locks.{same_lock, among}
use Rattle.locks.specs.Order.{precedes}
use Rattle.worlds.specs.Asking.{insert}

-- the locks with one that is not held inserted; NULL is no lock
abbrev pub insert_one : List ℕ → List Lock → Option Lock → List Lock → List Lock
insert_one ranks held None locks = locks
insert_one ranks held (Some lock) locks = if among held lock then locks else insert ranks lock locks

-- ---- what is taken of the locks that paths of one class ask for

abbrev pub is_same : Lock → Option Lock → Bool
is_same lock None = false
is_same lock (Some other) = same_lock lock other

abbrev pub any_same : Lock → List (Option Lock) → Bool
any_same lock [] = false
any_same lock (m ∷ ms) = is_same lock m || any_same lock ms

-- one that is held, or asked for later, becomes NULL
abbrev pub dropped : List Lock → List (Option Lock) → Option Lock → Option Lock
dropped held later None = None
dropped held later (Some lock) = if among held lock then None else if any_same lock later then None else Some lock

-- from the last to the first
abbrev pub aimed : List Lock → List (Option Lock) → List (Option Lock)
aimed held [] = []
aimed held (m ∷ ms) = dropped held (aimed held ms) m ∷ aimed held ms

-- within a class
abbrev pub is_below : Option Lock → Option Lock → Bool
is_below a None = false
is_below None (Some b) = true
is_below (Some a) (Some b) = nat_lt a.object b.object

-- exchanged with the next one, then that with the one after it, and so on
abbrev pub passed_up : Option Lock → List (Option Lock) → List (Option Lock)
passed_up m [] = m ∷ []
passed_up m (n ∷ ns) = if is_below n m then n ∷ passed_up m ns else m ∷ passed_up n ns

abbrev pub ordered : List (Option Lock) → List (Option Lock)
ordered [] = []
ordered (m ∷ ms) = passed_up m (ordered ms)

-- the calls that are made
abbrev pub called : List (Option Lock) → List Lock
called [] = []
called (None ∷ ms) = called ms
called (Some lock ∷ ms) = lock ∷ called ms

abbrev pub taken : List Lock → List (Option Lock) → List Lock
taken held ms = called (ordered (aimed held ms))

-- ---- class after class

abbrev pub IsOf : ℕ → Option Lock → Type 0
IsOf class None = ⊤
IsOf class (Some lock) = lock.class ≡ class

abbrev pub AreOf : ℕ → List (Option Lock) → Type 0
AreOf class [] = ⊤
AreOf class (m ∷ ms) = IsOf class m × AreOf class ms

abbrev pub IsAbove : List ℕ → ℕ → Option Lock → Type 0
IsAbove ranks class None = ⊤
IsAbove ranks class (Some lock) = slice_index ranks class < slice_index ranks lock.class

abbrev pub AreAbove : List ℕ → ℕ → List (Option Lock) → Type 0
AreAbove ranks class [] = ⊤
AreAbove ranks class (m ∷ ms) = IsAbove ranks class m × AreAbove ranks class ms

-- ---- order within a class

-- nothing of these is below a first one
abbrev NoneBelow : Option Lock → List (Option Lock) → Type 0
NoneBelow m [] = ⊤
NoneBelow m (n ∷ ns) = (is_below n m ≡ false) × NoneBelow m ns

abbrev IsSorted : List (Option Lock) → Type 0
IsSorted [] = ⊤
IsSorted (m ∷ ms) = NoneBelow m ms × IsSorted ms

not_below : (a b c : Option Lock) → is_below b a ≡ false → is_below c b ≡ false → is_below c a ≡ false
not_below None None None h k = refl
not_below None None (Some c) h k = refl
not_below None (Some b) None h k = refl
not_below None (Some b) (Some c) h k = refl
not_below (Some a) None c h k = absurd (let bad : true ≡ false = h in cc)
not_below (Some a) (Some b) None h k = absurd (let bad : true ≡ false = k in cc)
not_below (Some a) (Some b) (Some c) h k = grind (arith, nat_tests)

-- if b is below a, a is not below b
other_way : (a b : Option Lock) → is_below b a ≡ true → is_below a b ≡ false
other_way None None h = refl
other_way None (Some b) h = absurd (let bad : false ≡ true = h in cc)
other_way (Some a) None h = refl
other_way (Some a) (Some b) h = grind (arith, nat_tests)

none_below : (a b : Option Lock) (ms : List (Option Lock)) → is_below b a ≡ false → NoneBelow b ms → NoneBelow a ms
none_below a b [] h k = tt
none_below a b (m ∷ ms) h k = (not_below a b m h k.0, none_below a b ms h k.1)

-- both ways of a choice
either_by : (b : Bool) (P : List (Option Lock) → Type 0) (x y : List (Option Lock)) → P x → P y → P (if b then x else y)
either_by true P x y h k = h
either_by false P x y h k = k

-- a list through which a lock was passed up: a lock that none was below has none below it still
none_below_passed : (a m : Option Lock) (ns : List (Option Lock)) → is_below m a ≡ false → NoneBelow a ns → NoneBelow a (passed_up m ns)
none_below_passed a m [] h k = (h, tt)
none_below_passed a m (n ∷ ns) h k =
    either_by (is_below n m) (NoneBelow a) (n ∷ passed_up m ns) (m ∷ passed_up n ns)
    (k.0, none_below_passed a m ns h k.1) (h, none_below_passed a n ns k.0 k.1)

passed_stays : (m : Option Lock) (ns : List (Option Lock)) → NoneBelow m ns → IsSorted ns → passed_up m ns ≡ m ∷ ns
passed_stays m [] h s = refl
passed_stays m (n ∷ ns) h s =
    ap (λ b. if b then n ∷ passed_up m ns else m ∷ passed_up n ns) h.0 ∙ ap (λ t. m ∷ t) (passed_stays n ns s.0 s.1)

passed_sorted_by : (b : Bool) (m n : Option Lock) (ns : List (Option Lock)) → is_below n m ≡ b → IsSorted (n ∷ ns) →
    IsSorted (passed_up m ns) → IsSorted (passed_up n ns) → IsSorted (if b then n ∷ passed_up m ns else m ∷ passed_up n ns)
passed_sorted_by true m n ns e s h k = (none_below_passed n m ns (other_way m n e) s.0, h)
passed_sorted_by false m n ns e s h k = (none_below_passed m n ns e (none_below m n ns e s.0), k)

passed_sorted : (m : Option Lock) (ns : List (Option Lock)) → IsSorted ns → IsSorted (passed_up m ns)
passed_sorted m [] s = (tt, tt)
passed_sorted m (n ∷ ns) s =
    passed_sorted_by (is_below n m) m n ns refl s (passed_sorted m ns s.1) (passed_sorted n ns s.1)

ordered_sorted : (ms : List (Option Lock)) → IsSorted (ordered ms)
ordered_sorted [] = tt
ordered_sorted (m ∷ ms) = passed_sorted m (ordered ms) (ordered_sorted ms)

-- ---- NULL goes first, and makes no call

null_passes : (ns : List (Option Lock)) → IsSorted ns → called (passed_up None ns) ≡ called ns
null_passes ns s = ap called (passed_stays None ns (nothing ns) s)
  where
    nothing : (ms : List (Option Lock)) → NoneBelow None ms
    nothing [] = tt
    nothing (m ∷ ms) = (refl, nothing ms)

-- ---- a lock goes where it is asked for

lt_self : (k : ℕ) → nat_lt k k ≡ false
lt_self k = grind (arith, nat_tests)

eq_self : (k : ℕ) → (k == k) ≡ true
eq_self k = grind (arith, nat_tests)

-- what is known of two locks of one class, one of which is another
pub same_class : (ranks : List ℕ) (a b : Lock) → a.class ≡ b.class → precedes ranks a b ≡ nat_lt a.object b.object
same_class ranks a b e =
    ap (λ c. nat_lt (slice_index ranks c) (slice_index ranks b.class) || ((c == b.class) && nat_lt a.object b.object)) e
    ∙ ap (λ x. x || ((b.class == b.class) && nat_lt a.object b.object)) (lt_self (slice_index ranks b.class))
    ∙ ap (λ x. x && nat_lt a.object b.object) (eq_self b.class)

pub same_object : (a b : Lock) → a.class ≡ b.class → same_lock a b ≡ (a.object == b.object)
same_object a b e = ap (λ c. (c == b.class) && (a.object == b.object)) e ∙ ap (λ x. x && (a.object == b.object)) (eq_self b.class)

numbers_apart : (a b : ℕ) → (a == b) ≡ false → nat_lt b a ≡ false → nat_lt a b ≡ true
numbers_apart a b e h = grind (arith, nat_tests)

is_other : (a b : Lock) → same_lock a b ≡ false → a.class ≡ b.class → nat_lt b.object a.object ≡ false → nat_lt a.object b.object ≡ true
is_other a b e c h = numbers_apart a.object b.object (sym (same_object a b c) ∙ e) h

numbers_turned : (a b : ℕ) → nat_lt b a ≡ true → nat_lt a b ≡ false
numbers_turned a b h = grind (arith, nat_tests)

or_left : (a b : Bool) → (a || b) ≡ false → a ≡ false
or_left true b h = h
or_left false b h = refl

or_right : (a b : Bool) → (a || b) ≡ false → b ≡ false
or_right true b h = absurd (let bad : true ≡ false = h in cc)
or_right false b h = h

module _ (ranks : List ℕ) (class : ℕ) (lock : Lock) (of_class : lock.class ≡ class) where
  lock_passes_by : (b : Bool) (n : Lock) (ns : List (Option Lock)) → nat_lt n.object lock.object ≡ b → IsSorted (Some n ∷ ns) →
      lock.class ≡ n.class → same_lock lock n ≡ false →
      called (passed_up (Some lock) ns) ≡ insert ranks lock (called ns) →
      called (if b then Some n ∷ passed_up (Some lock) ns else Some lock ∷ passed_up (Some n) ns)
      ≡ (if same_lock lock n then n ∷ called ns else if precedes ranks lock n then lock ∷ n ∷ called ns else n ∷ insert ranks lock (called ns))
  lock_passes_by true n ns e s c d ih =
      let after : precedes ranks lock n ≡ false = same_class ranks lock n c ∙ numbers_turned lock.object n.object e in
      ap (λ t. n ∷ t) ih
      ∙ sym (ap (λ x. if x then n ∷ called ns else if precedes ranks lock n then lock ∷ n ∷ called ns else n ∷ insert ranks lock (called ns)) d
      ∙ ap (λ x. if x then lock ∷ n ∷ called ns else n ∷ insert ranks lock (called ns)) after)
  lock_passes_by false n ns e s c d ih =
      let before : precedes ranks lock n ≡ true = same_class ranks lock n c ∙ is_other lock n d c e in
      ap (λ t. lock ∷ called t) (passed_stays (Some n) ns s.0 s.1)
      ∙ sym (ap (λ x. if x then n ∷ called ns else if precedes ranks lock n then lock ∷ n ∷ called ns else n ∷ insert ranks lock (called ns)) d
      ∙ ap (λ x. if x then lock ∷ n ∷ called ns else n ∷ insert ranks lock (called ns)) before)

  lock_passes : (ns : List (Option Lock)) → IsSorted ns → AreOf class ns → any_same lock ns ≡ false →
      called (passed_up (Some lock) ns) ≡ insert ranks lock (called ns)
  lock_passes [] s are e = refl
  lock_passes (None ∷ ns) s are e = lock_passes ns s.1 are.1 e
  lock_passes (Some n ∷ ns) s are e =
      lock_passes_by (nat_lt n.object lock.object) n ns refl s (of_class ∙ sym are.0) (or_left (same_lock lock n) (any_same lock ns) e)
      (lock_passes ns s.1 are.1 (or_right (same_lock lock n) (any_same lock ns) e))

  -- one that is there isn't put in again
  object_is : (n : Lock) → n.class ≡ class → same_lock lock n ≡ true → lock.object ≡ n.object
  object_is n c e =
      let q : (lock.object == n.object) ≡ true = sym (same_object lock n (of_class ∙ sym c)) ∙ e in
      grind (arith, nat_tests)

  not_before : (n : Lock) (ns : List (Option Lock)) → NoneBelow (Some n) ns → AreOf class ns → any_same lock ns ≡ true →
      nat_lt lock.object n.object ≡ false
  not_before n [] h are e = absurd (let bad : false ≡ true = e in cc)
  not_before n (None ∷ ns) h are e = not_before n ns h.1 are.1 e
  not_before n (Some k ∷ ns) h are e = by (same_lock lock k) refl e (λ e'. not_before n ns h.1 are.1 e')
    where
      by : (b : Bool) → same_lock lock k ≡ b → (b || any_same lock ns) ≡ true → (any_same lock ns ≡ true → nat_lt lock.object n.object ≡ false) →
          nat_lt lock.object n.object ≡ false
      by true q e rest = ap (λ o. nat_lt o n.object) (object_is k are.0 q) ∙ h.0
      by false q e rest = rest e

  there_by : (b : Bool) (n : Lock) (ns : List (Option Lock)) → same_lock lock n ≡ b → NoneBelow (Some n) ns → AreOf class ns → lock.class ≡ n.class →
      (b || any_same lock ns) ≡ true → (any_same lock ns ≡ true → insert ranks lock (called ns) ≡ called ns) →
      (if b then n ∷ called ns else if precedes ranks lock n then lock ∷ n ∷ called ns else n ∷ insert ranks lock (called ns)) ≡ n ∷ called ns
  there_by true n ns q h are c e ih = refl
  there_by false n ns q h are c e ih =
      let after : precedes ranks lock n ≡ false = same_class ranks lock n c ∙ not_before n ns h are e in
      ap (λ x. if x then lock ∷ n ∷ called ns else n ∷ insert ranks lock (called ns)) after ∙ ap (λ t. n ∷ t) (ih e)

  there : (ns : List (Option Lock)) → IsSorted ns → AreOf class ns → any_same lock ns ≡ true → insert ranks lock (called ns) ≡ called ns
  there [] s are e = absurd (let bad : false ≡ true = e in cc)
  there (None ∷ ns) s are e = there ns s.1 are.1 e
  there (Some n ∷ ns) s are e =
      there_by (same_lock lock n) n ns refl s.0 are.1 (of_class ∙ sym are.0) e (there ns s.1 are.1)

-- ---- the same locks, whatever their order

or_swap : (a b c : Bool) → (a || (b || c)) ≡ (b || (a || c))
or_swap true true c = refl
or_swap true false c = refl
or_swap false b c = refl

any_by : (b : Bool) (lock : Lock) (m n : Option Lock) (ns : List (Option Lock)) →
    any_same lock (passed_up m ns) ≡ any_same lock (m ∷ ns) → any_same lock (passed_up n ns) ≡ any_same lock (n ∷ ns) →
    any_same lock (if b then n ∷ passed_up m ns else m ∷ passed_up n ns) ≡ any_same lock (m ∷ n ∷ ns)
any_by true lock m n ns h k = ap (λ x. is_same lock n || x) h ∙ or_swap (is_same lock n) (is_same lock m) (any_same lock ns)
any_by false lock m n ns h k = ap (λ x. is_same lock m || x) k

any_passed : (lock : Lock) (m : Option Lock) (ns : List (Option Lock)) → any_same lock (passed_up m ns) ≡ any_same lock (m ∷ ns)
any_passed lock m [] = refl
any_passed lock m (n ∷ ns) = any_by (is_below n m) lock m n ns (any_passed lock m ns) (any_passed lock n ns)

pub any_ordered : (lock : Lock) (ms : List (Option Lock)) → any_same lock (ordered ms) ≡ any_same lock ms
any_ordered lock [] = refl
any_ordered lock (m ∷ ms) = any_passed lock m (ordered ms) ∙ ap (λ x. is_same lock m || x) (any_ordered lock ms)

pub of_passed : (class : ℕ) (m : Option Lock) (ns : List (Option Lock)) → IsOf class m → AreOf class ns → AreOf class (passed_up m ns)
of_passed class m [] h k = (h, tt)
of_passed class m (n ∷ ns) h k =
    either_by (is_below n m) (AreOf class) (n ∷ passed_up m ns) (m ∷ passed_up n ns)
    (k.0, of_passed class m ns h k.1) (h, of_passed class n ns k.0 k.1)

pub of_ordered : (class : ℕ) (ms : List (Option Lock)) → AreOf class ms → AreOf class (ordered ms)
of_ordered class [] are = tt
of_ordered class (m ∷ ms) are = of_passed class m (ordered ms) are.0 (of_ordered class ms are.1)

of_dropped : (class : ℕ) (held : List Lock) (later : List (Option Lock)) (m : Option Lock) → IsOf class m → IsOf class (dropped held later m)
of_dropped class held later None h = tt
of_dropped class held later (Some lock) h = by (among held lock) (any_same lock later)
  where
    by : (a b : Bool) → IsOf class (if a then None else if b then None else Some lock)
    by true b = tt
    by false true = tt
    by false false = h

pub of_aimed : (class : ℕ) (held : List Lock) (ms : List (Option Lock)) → AreOf class ms → AreOf class (aimed held ms)
of_aimed class held [] are = tt
of_aimed class held (m ∷ ms) are = (of_dropped class held (aimed held ms) m are.0, of_aimed class held ms are.1)

-- ---- one class

module _ (ranks : List ℕ) (held : List Lock) where
  -- the locks to ask for, by what the paths name
  abbrev pub asked : List (Option Lock) → List Lock
  asked [] = []
  asked (m ∷ ms) = insert_one ranks held m (asked ms)

  one_class_by : (class : ℕ) (lock : Lock) (later : List (Option Lock)) (a b : Bool) → lock.class ≡ class → AreOf class later →
      any_same lock later ≡ b →
      called (passed_up (if a then None else if b then None else Some lock) (ordered later)) ≡ (if a then called (ordered later) else insert ranks lock (called (ordered later)))
  one_class_by class lock later true b c are e = null_passes (ordered later) (ordered_sorted later)
  one_class_by class lock later false true c are e =
      null_passes (ordered later) (ordered_sorted later)
      ∙ sym (there ranks class lock c (ordered later) (ordered_sorted later) (of_ordered class later are) (any_ordered lock later ∙ e))
  one_class_by class lock later false false c are e =
      lock_passes ranks class lock c (ordered later) (ordered_sorted later) (of_ordered class later are) (any_ordered lock later ∙ e)

  pub one_class : (class : ℕ) (ms : List (Option Lock)) → AreOf class ms → taken held ms ≡ asked ms
  one_class class [] are = refl
  one_class class (None ∷ ms) are =
      null_passes (ordered (aimed held ms)) (ordered_sorted (aimed held ms)) ∙ one_class class ms are.1
  one_class class (Some lock ∷ ms) are =
      one_class_by class lock (aimed held ms) (among held lock) (any_same lock (aimed held ms)) are.0 (of_aimed class held ms are.1) refl
      ∙ ap (λ t. if among held lock then t else insert ranks lock t) (one_class class ms are.1)

  -- ---- class after class

  abbrev AllAbove : ℕ → List Lock → Type 0
  AllAbove class [] = ⊤
  AllAbove class (l ∷ ls) = (slice_index ranks class < slice_index ranks l.class) × AllAbove class ls

  above_insert : (class : ℕ) (lock : Lock) (ls : List Lock) → slice_index ranks class < slice_index ranks lock.class → AllAbove class ls →
      AllAbove class (insert ranks lock ls)
  above_insert class lock [] h k = (h, tt)
  above_insert class lock (l ∷ ls) h k = by (same_lock lock l) (precedes ranks lock l) (above_insert class lock ls h k.1)
    where
      by : (a b : Bool) → AllAbove class (insert ranks lock ls) →
          AllAbove class (if a then l ∷ ls else if b then lock ∷ l ∷ ls else l ∷ insert ranks lock ls)
      by true b rest = k
      by false true rest = (h, k)
      by false false rest = (k.0, rest)

  above_asked : (class : ℕ) (ms : List (Option Lock)) → AreAbove ranks class ms → AllAbove class (asked ms)
  above_asked class [] h = tt
  above_asked class (None ∷ ms) h = above_asked class ms h.1
  above_asked class (Some lock ∷ ms) h = by (among held lock) (above_asked class ms h.1)
    where
      by : (b : Bool) → AllAbove class (asked ms) → AllAbove class (if b then asked ms else insert ranks lock (asked ms))
      by true rest = rest
      by false rest = above_insert class lock (asked ms) h.0 rest

  -- a lock of a lesser class goes before those of greater ones
  apart : (a b : Lock) → slice_index ranks a.class < slice_index ranks b.class → same_lock a b ≡ false
  apart a b lt = ap (λ x. x && (a.object == b.object)) (classes a.class b.class lt)
    where
      classes : (c d : ℕ) → slice_index ranks c < slice_index ranks d → (c == d) ≡ false
      classes c d h = by (c == d) refl
        where
          by : (b : Bool) → (c == d) ≡ b → b ≡ false
          by false e = refl
          by true e =
              let q : c ≡ d = equal c d e in
              absurd (omega (arith, h, ap (slice_index ranks) q))
            where
              equal : (c d : ℕ) → (c == d) ≡ true → c ≡ d
              equal c d e = grind (arith, nat_tests)

  lesser : (a b : Lock) → slice_index ranks a.class < slice_index ranks b.class → precedes ranks a b ≡ true
  lesser a b lt = ap (λ x. x || ((a.class == b.class) && nat_lt a.object b.object)) (below (slice_index ranks a.class) (slice_index ranks b.class) lt)
    where
      below : (m n : ℕ) → m < n → nat_lt m n ≡ true
      below m n h = grind (arith, nat_tests)

  insert_front : (class : ℕ) (lock : Lock) (ls rs : List Lock) → lock.class ≡ class → AllAbove class rs →
      insert ranks lock (ls ++ rs) ≡ insert ranks lock ls ++ rs
  insert_front class lock [] [] c above = refl
  insert_front class lock [] (r ∷ rs) c above =
      let lt : slice_index ranks lock.class < slice_index ranks r.class = subst (λ k. slice_index ranks k < slice_index ranks r.class) (sym c) above.0 in
      ap (λ x. if x then r ∷ rs else if precedes ranks lock r then lock ∷ r ∷ rs else r ∷ insert ranks lock rs) (apart lock r lt)
      ∙ ap (λ x. if x then lock ∷ r ∷ rs else r ∷ insert ranks lock rs) (lesser lock r lt)
  insert_front class lock (l ∷ ls) rs c above = by (same_lock lock l) (precedes ranks lock l) (insert_front class lock ls rs c above)
    where
      by : (a b : Bool) → insert ranks lock (ls ++ rs) ≡ insert ranks lock ls ++ rs →
          (if a then l ∷ (ls ++ rs) else if b then lock ∷ l ∷ (ls ++ rs) else l ∷ insert ranks lock (ls ++ rs))
          ≡ (if a then l ∷ ls else if b then lock ∷ l ∷ ls else l ∷ insert ranks lock ls) ++ rs
      by true b ih = refl
      by false true ih = refl
      by false false ih = ap (λ t. l ∷ t) ih

  pub asked_append : (class : ℕ) (g rest : List (Option Lock)) → AreOf class g → AreAbove ranks class rest →
      asked (g ++ rest) ≡ asked g ++ asked rest
  asked_append class [] rest are above = refl
  asked_append class (None ∷ g) rest are above = asked_append class g rest are.1 above
  asked_append class (Some lock ∷ g) rest are above =
      ap (insert_one ranks held (Some lock)) (asked_append class g rest are.1 above) ∙ by (among held lock)
    where
      by : (b : Bool) →
          (if b then asked g ++ asked rest else insert ranks lock (asked g ++ asked rest)) ≡ (if b then asked g else insert ranks lock (asked g)) ++ asked rest
      by true = refl
      by false = insert_front class lock (asked g) (asked rest) are.0 (above_asked class rest above)
