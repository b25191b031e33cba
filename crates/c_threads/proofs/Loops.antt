-- The variables after each part of an acquire.
use Rattle.std.proofs.Common.{◌≡◌, ◌<◌, ◌≤◌, ℕ, zero, suc, ◌+◌, ◌-◌, List, [], ◌∷◌, ◌++◌, map, length, Option, Some, None}
use Rattle.std.proofs.Common.{Bool, true, false, slice_get, set, refl, sym, ap, ◌∙◌, subst, arith, if◌then◌else◌, append_assoc}
use Rattle.std.proofs.lemmas.Bool.{eq-eqb}
use Rattle.std.proofs.lemmas.List.{append-nil}
use Rattle.std.specs.Prelude.{◌||◌, nat_lt}
use Rattle.std.specs.List.{Contains, range_with_len, flat_map}
use Rattle.core_lang.specs.declared.value.Value.{Value}
use Rattle.core_lang.specs.declared.tree.Section.{Section}
use Rattle.core_lang.specs.declared.typed.Typed.{Typed}
use Rattle.core_lang.specs.Typing.{lookup}
use Rattle.core_lang.specs.Theory.Items.{in_first, in_rest}
use Rattle.locks.specs.declared.lock.Lock.{Lock}
use Rattle.locks.specs.Locks.{same_lock, among}
use Rattle.c_threads.specs.Locking.{Pointer, Locking, LockStatement, Ask, Note, Exchange, same_pointer, is_less, h_at, m_at}
use Rattle.c_threads.specs.Locking.{set_m, call, for_each, up, down, equals_one, drop_lock, note_if, exchange, take_lock}
use Rattle.c_threads.specs.Locking.{in_turn, does, do_all, address_at}
use Rattle.c_threads.proofs.Arrays.{turned, first_turned, set_first, second_turned, set_second, filled, holding, m_holds}
use Rattle.c_threads.proofs.Arrays.{m_set, each_one, each_same, read_behind, length_turned}
use Rattle.c_threads.proofs.Orders.{any_same, dropped, aimed, is_below, passed_up, ordered, called, IsOf, AreOf}
use Rattle.c_threads.proofs.Orders.{of_passed}

-- ---- lists

head_is : {A : Type 0} (x y : A) (xs ys : List A) → x ∷ xs ≡ y ∷ ys → x ≡ y
head_is x y xs ys e = cc

tail_is : {A : Type 0} (x y : A) (xs ys : List A) → x ∷ xs ≡ y ∷ ys → xs ≡ ys
tail_is x y xs ys e = cc

map_append : {A B : Type 0} (f : A → B) (xs ys : List A) → map f (xs ++ ys) ≡ map f xs ++ map f ys
map_append f [] ys = refl
map_append f (x ∷ xs) ys = ap (λ t. f x ∷ t) (map_append f xs ys)

abbrev some : Pointer → Option Pointer
some p = Some p

-- ---- equal pointers

abbrev pub equals_any : Pointer → List Pointer → Bool
equals_any p [] = false
equals_any p (q ∷ qs) = if same_pointer p q then true else equals_any p qs

equals_read : (p : Pointer) (qs : List Pointer) → equals_one p (map some qs) ≡ Some (equals_any p qs)
equals_read p [] = refl
equals_read p (q ∷ qs) = by (same_pointer p q) (equals_read p qs) where
  by : (b : Bool) → equals_one p (map some qs) ≡ Some (equals_any p qs) →
      (if b then Some true else equals_one p (map some qs)) ≡ Some (if b then true else equals_any p qs)
  by true rest = refl
  by false rest = rest

equals_append : (p : Pointer) (qs rs : List Pointer) →
    equals_any p (qs ++ rs) ≡ (if equals_any p qs then true else equals_any p rs)
equals_append p [] rs = refl
equals_append p (q ∷ qs) rs = by (same_pointer p q) (equals_append p qs rs) where
  by : (b : Bool) → equals_any p (qs ++ rs) ≡ (if equals_any p qs then true else equals_any p rs) →
      (if b then true else equals_any p (qs ++ rs))
      ≡ (if (if b then true else equals_any p qs) then true else equals_any p rs)
  by true rest = refl
  by false rest = rest

pub equals_lock : (lock : Lock) (qs : List Pointer) → equals_any (Some lock) qs ≡ any_same lock qs
equals_lock lock [] = refl
equals_lock lock (None ∷ qs) = equals_lock lock qs
equals_lock lock (Some q ∷ qs) = by (same_lock lock q) (equals_lock lock qs) where
  by : (b : Bool) → equals_any (Some lock) qs ≡ any_same lock qs →
      (if b then true else equals_any (Some lock) qs) ≡ (b || any_same lock qs)
  by true rest = refl
  by false rest = rest

abbrev null : Pointer
null = None

-- a pointer that is equal to one of these becomes NULL
abbrev pub dropped_by : List Pointer → Pointer → Pointer
dropped_by os p = if equals_any p os then None else p

none_dropped : (os : List Pointer) → dropped_by os None ≡ None
none_dropped os = by (equals_any None os) where
  by : (b : Bool) → (if b then null else null) ≡ null
  by true = refl
  by false = refl

dropped_twice : (os rs : List Pointer) (p : Pointer) → dropped_by rs (dropped_by os p) ≡ dropped_by (os ++ rs) p
dropped_twice os rs p = by (equals_any p os) ∙ sym (ap (λ b. if b then None else p) (equals_append p os rs)) where
  by : (b : Bool) → dropped_by rs (if b then None else p) ≡ (if (if b then true else equals_any p rs) then None else p)
  by true = none_dropped rs
  by false = refl

-- pointers that are dropped from the last to the first; `front` is reversed
abbrev pub kept : List Pointer → List Pointer → List Pointer → List Pointer
kept os [] back = back
kept os (p ∷ front) back = kept os front (dropped_by (os ++ back) p ∷ back)

abbrev pub aims : List Pointer → List Pointer → List Pointer → List Pointer
aims os [] back = back
aims os (p ∷ ps) back = dropped_by (os ++ aims os ps back) p ∷ aims os ps back

kept_turned : (os ps front back : List Pointer) → kept os (turned ps front) back ≡ kept os front (aims os ps back)
kept_turned os [] front back = refl
kept_turned os (p ∷ ps) front back = kept_turned os ps (p ∷ front) back

pub turned_twice : {A : Type 0} (xs front back : List A) → turned (turned xs front) back ≡ turned front (xs ++ back)
turned_twice [] front back = refl
turned_twice (x ∷ xs) front back = turned_twice xs (x ∷ front) back

-- the pointers `os` stand for the held locks of a class
module _ (class : ℕ) (held : List Lock) (os : List Pointer)
    (same : (lock : Lock) → lock.class ≡ class → equals_any (Some lock) os ≡ among held lock) where
  dropped_is : (later : List Pointer) (p : Pointer) → IsOf class p → dropped_by (os ++ later) p ≡ dropped held later p
  dropped_is later None h = none_dropped (os ++ later)
  dropped_is later (Some lock) h =
      ap (λ b. if b then None else Some lock) (equals_append (Some lock) os later)
      ∙ ap (λ b. if (if b then true else equals_any (Some lock) later) then None else Some lock) (same lock h)
      ∙ ap (λ b. if (if among held lock then true else b) then None else Some lock) (equals_lock lock later)
      ∙ by (among held lock)
    where
      by : (b : Bool) → (if (if b then true else any_same lock later) then None else Some lock)
          ≡ (if b then None else if any_same lock later then None else Some lock)
      by true = refl
      by false = refl

  pub aims_are : (ps : List Pointer) → AreOf class ps → aims os ps [] ≡ aimed held ps
  aims_are [] are = refl
  aims_are (p ∷ ps) are =
      ap (λ t. dropped_by (os ++ t) p ∷ t) (aims_are ps are.1)
      ∙ ap (λ q. q ∷ aimed held ps) (dropped_is (aimed held ps) p are.0)

-- ---- the pointers that are dropped

module _ (notes : List Pointer) (rest : List (Option Pointer)) (calls : List Lock) where
  abbrev st : List Pointer → Locking
  st ps = holding notes ps rest calls

  abbrev ends : ℕ → Locking → Bool → Option Locking
  ends j x b = if b then set_m x j None else Some x

  abbrev tested : ℕ → Locking → List (Option Pointer) → Pointer → Option Locking
  tested j x others p = lookup (equals_one p others) (ends j x)

  drop_here : (class later : List ℕ) (os ls front back : List Pointer) (p : Pointer) →
      map (slice_get notes) class ≡ map some os →
      map (m_at (st (turned front (p ∷ back)))) later ≡ map some ls →
      drop_lock (length front) class later (st (turned front (p ∷ back)))
      ≡ Some (st (turned front (dropped_by (os ++ ls) p ∷ back)))
  drop_here class later os ls front back p held others =
      let ps = turned front (p ∷ back) in
      let j = length front in
      let x = st ps in
      ap (λ o. lookup o (tested j x (map (h_at x) class ++ map (m_at x) later)))
      (m_holds notes ps rest calls j p (first_turned front p back))
      ∙ ap (λ t. tested j x (t ++ map (m_at x) later) p) held
      ∙ ap (λ t. tested j x (map some os ++ t) p) others
      ∙ ap (λ t. tested j x t p) (sym (map_append some os ls))
      ∙ ap (λ o. lookup o (ends j x)) (equals_read p (os ++ ls))
      ∙ by (equals_any p (os ++ ls))
    where
      by : (b : Bool) → ends (length front) (st (turned front (p ∷ back))) b
          ≡ Some (st (turned front ((if b then None else p) ∷ back)))
      by true =
          m_set notes (turned front (p ∷ back)) rest calls (length front) p None (first_turned front p back)
          ∙ ap (λ ps. Some (st ps)) (set_first front p None back)
      by false = refl

  -- the places after a given one
  later_are : (front back : List Pointer) (p q : Pointer) (n : ℕ) → n ≡ length (p ∷ front) + length back →
      map (m_at (st (turned front (q ∷ back)))) (up (length front + 1) n) ≡ map some back
  later_are front back p q n e =
      let x = st (turned front (q ∷ back)) in
      let first : length front + 1 ≡ length (q ∷ front) = omega arith in
      let count : n - (length front + 1) ≡ length back = omega (arith, e) in
      ap (λ k. map (m_at x) (range_with_len (length front + 1) k)) count
      ∙ ap (λ k. map (m_at x) (range_with_len k (length back))) first
      ∙ read_behind notes (q ∷ front) back rest calls

  pub few_drops : (class : List ℕ) (os : List Pointer) → map (slice_get notes) class ≡ map some os → (n : ℕ)
      (front back : List Pointer) → n ≡ length front + length back →
      for_each (λ j. drop_lock j class (up (j + 1) n)) (down (length front)) (st (turned front back))
      ≡ Some (st (kept os front back))
  few_drops class os held n [] back e = refl
  few_drops class os held n (p ∷ front) back e =
      let next = dropped_by (os ++ back) p ∷ back in
      each_one (λ j. drop_lock j class (up (j + 1) n)) (length front) (down (length front)) (st (turned front (p ∷ back)))
      (st (turned front next))
      (drop_here class (up (length front + 1) n) os back front back p held (later_are front back p p n e))
      ∙ few_drops class os held n front next (omega (arith, e))

  held_drops : (front back : List Pointer) (is : List ℕ) (os : List Pointer) (p : Pointer) →
      map (slice_get notes) is ≡ map some os →
      for_each (λ i. drop_lock (length front) (i ∷ []) []) is (st (turned front (p ∷ back)))
      ≡ Some (st (turned front (dropped_by os p ∷ back)))
  held_drops front back [] [] p e = refl
  held_drops front back [] (o ∷ os) p e = absurd cc
  held_drops front back (i ∷ is) [] p e = absurd cc
  held_drops front back (i ∷ is) (o ∷ os) p e =
      let one = head_is (slice_get notes i) (Some o) (map (slice_get notes) is) (map some os) e in
      let more = tail_is (slice_get notes i) (Some o) (map (slice_get notes) is) (map some os) e in
      let next = dropped_by (o ∷ []) p in
      each_one (λ i. drop_lock (length front) (i ∷ []) []) i is (st (turned front (p ∷ back))) (st (turned front (next ∷ back)))
      (drop_here (i ∷ []) [] (o ∷ []) [] front back p (ap (λ t. t ∷ []) one) refl)
      ∙ held_drops front back is os next more
      ∙ ap (λ q. Some (st (turned front (q ∷ back)))) (dropped_twice (o ∷ []) os p)

  later_drops : (front back : List Pointer) (is : List ℕ) (os : List Pointer) (p : Pointer) →
      ((q : Pointer) → map (m_at (st (turned front (q ∷ back)))) is ≡ map some os) →
      for_each (λ i. drop_lock (length front) [] (i ∷ [])) is (st (turned front (p ∷ back)))
      ≡ Some (st (turned front (dropped_by os p ∷ back)))
  later_drops front back [] [] p e = refl
  later_drops front back [] (o ∷ os) p e = absurd (let bad : [] ≡ some o ∷ map some os = e p in cc bad)
  later_drops front back (i ∷ is) [] p e =
      absurd (let bad : m_at (st (turned front (p ∷ back))) i ∷ map (m_at (st (turned front (p ∷ back)))) is ≡ [] = e p in cc bad)
  later_drops front back (i ∷ is) (o ∷ os) p e =
      let at : Pointer → Locking = λ q. st (turned front (q ∷ back)) in
      let one = head_is (m_at (at p) i) (Some o) (map (m_at (at p)) is) (map some os) (e p) in
      let next = dropped_by (o ∷ []) p in
      each_one (λ i. drop_lock (length front) [] (i ∷ [])) i is (st (turned front (p ∷ back))) (st (turned front (next ∷ back)))
      (drop_here [] (i ∷ []) [] (o ∷ []) front back p refl (ap (λ t. t ∷ []) one))
      ∙ later_drops front back is os next
      (λ q. tail_is (m_at (at q) i) (Some o) (map (m_at (at q)) is) (map some os) (e q))
      ∙ ap (λ q. Some (st (turned front (q ∷ back)))) (dropped_twice (o ∷ []) os p)

  -- all places of h
  all_notes : (front back : List Pointer) → notes ≡ turned front back →
      map (slice_get notes) (range_with_len (length front) (length back)) ≡ map some back
  all_notes front [] e = refl
  all_notes front (p ∷ back) e =
      let next : length front + 1 ≡ length (p ∷ front) = omega arith in
      ap (λ o. o ∷ map (slice_get notes) (range_with_len (length front + 1) (length back)))
      (ap (λ h. slice_get h (length front)) e ∙ first_turned front p back)
      ∙ ap (λ k. Some p ∷ map (slice_get notes) (range_with_len k (length back))) next
      ∙ ap (λ t. Some p ∷ t) (all_notes (p ∷ front) back e)

  pub many_drops : (count : ℕ) → count ≡ length notes → (n : ℕ) (front back : List Pointer) →
      n ≡ length front + length back →
      for_each (λ j x. lookup (for_each (λ i. drop_lock j (i ∷ []) []) (up 0 count) x)
      (for_each (λ i. drop_lock j [] (i ∷ [])) (up (j + 1) n))) (down (length front)) (st (turned front back))
      ≡ Some (st (kept notes front back))
  many_drops count c n [] back e = refl
  many_drops count c n (p ∷ front) back e =
      let go : ℕ → Locking → Option Locking =
      λ j x. lookup (for_each (λ i. drop_lock j (i ∷ []) []) (up 0 count) x)
      (for_each (λ i. drop_lock j [] (i ∷ [])) (up (j + 1) n)) in
      let j = length front in
      let one = dropped_by notes p in
      let two = dropped_by (notes ++ back) p in
      let all : count - 0 ≡ length notes = omega (arith, c) in
      let reads : map (slice_get notes) (up 0 count) ≡ map some notes =
      ap (λ k. map (slice_get notes) (range_with_len 0 k)) all ∙ all_notes [] notes refl in
      let step : go j (st (turned front (p ∷ back))) ≡ Some (st (turned front (two ∷ back))) =
      ap (λ o. lookup o (for_each (λ i. drop_lock j [] (i ∷ [])) (up (j + 1) n))) (held_drops front back (up 0 count) notes p reads)
      ∙ later_drops front back (up (j + 1) n) back one (λ q. later_are front back p q n e)
      ∙ ap (λ q. Some (st (turned front (q ∷ back)))) (dropped_twice notes back p) in
      each_one go j (down j) (st (turned front (p ∷ back))) (st (turned front (two ∷ back))) step
      ∙ many_drops count c n front (two ∷ back) (omega (arith, e))

-- ---- the order of the pointers

less_is : (class : ℕ) (a b : Pointer) → IsOf class a → IsOf class b → is_less a b ≡ Some (is_below a b)
less_is class a None ha hb = refl
less_is class None (Some b) ha hb = refl
less_is class (Some a) (Some b) ha hb =
    ap (λ t. if t then Some (nat_lt a.object b.object) else None) (eq-eqb a.class b.class (ha ∙ sym hb))

abbrev pub sorted : List Pointer → List Pointer → List Pointer
sorted [] back = back
sorted (p ∷ front) back = sorted front (passed_up p back)

abbrev pub puts : List Pointer → List Pointer → List Pointer
puts [] back = back
puts (p ∷ ps) back = passed_up p (puts ps back)

sorted_turned : (ps front back : List Pointer) → sorted (turned ps front) back ≡ sorted front (puts ps back)
sorted_turned [] front back = refl
sorted_turned (p ∷ ps) front back = sorted_turned ps (p ∷ front) back

puts_are : (ps : List Pointer) → puts ps [] ≡ ordered ps
puts_are [] = refl
puts_are (p ∷ ps) = ap (passed_up p) (puts_are ps)

length_passed : (p : Pointer) (ps : List Pointer) → length (passed_up p ps) ≡ suc (length ps)
length_passed p [] = refl
length_passed p (q ∷ ps) = by (is_below q p) (length_passed p ps) (length_passed q ps) where
  by : (b : Bool) → length (passed_up p ps) ≡ suc (length ps) → length (passed_up q ps) ≡ suc (length ps) →
      length (if b then q ∷ passed_up p ps else p ∷ passed_up q ps) ≡ suc (length (q ∷ ps))
  by true e f = ap suc e
  by false e f = ap suc f

module _ (notes : List Pointer) (rest : List (Option Pointer)) (calls : List Lock) (class : ℕ) where
  abbrev at : List Pointer → Locking
  at ps = holding notes ps rest calls

  abbrev exchanged : Bool → Pointer → Pointer → List Pointer → List Pointer
  exchanged b p q back = if b then q ∷ p ∷ back else p ∷ q ∷ back

  exchange_here : (front back : List Pointer) (p q : Pointer) → IsOf class p → IsOf class q →
      exchange (length front) (at (turned front (p ∷ q ∷ back)))
      ≡ Some (at (turned front (exchanged (is_below q p) p q back)))
  exchange_here front back p q hp hq =
      let ps = turned front (p ∷ q ∷ back) in
      let j = length front in
      let x = at ps in
      let last : Pointer → Pointer → Bool → Option Locking =
      λ p q less. if less then lookup (set_m x j q) (λ y. set_m y (j + 1) p) else Some x in
      ap (λ o. lookup o (λ p. lookup (m_at x (j + 1)) (λ q. lookup (is_less q p) (last p q))))
      (m_holds notes ps rest calls j p (first_turned front p (q ∷ back)))
      ∙ ap (λ o. lookup o (λ q. lookup (is_less q p) (last p q)))
      (m_holds notes ps rest calls (j + 1) q (second_turned front p q back))
      ∙ ap (λ o. lookup o (last p q)) (less_is class q p hq hp)
      ∙ by (is_below q p)
    where
      by : (b : Bool) →
          (if b then lookup (set_m (at (turned front (p ∷ q ∷ back))) (length front) q) (λ y. set_m y (length front + 1) p)
          else Some (at (turned front (p ∷ q ∷ back))))
          ≡ Some (at (turned front (exchanged b p q back)))
      by true =
          ap (λ o. lookup o (λ y. set_m y (length front + 1) p))
          (m_set notes (turned front (p ∷ q ∷ back)) rest calls (length front) p q (first_turned front p (q ∷ back))
          ∙ ap (λ ps. Some (at ps)) (set_first front p q (q ∷ back)))
          ∙ m_set notes (turned front (q ∷ q ∷ back)) rest calls (length front + 1) q p (second_turned front q q back)
          ∙ ap (λ ps. Some (at ps)) (set_second front q q p back)
      by false = refl

  abbrev Passed : List Pointer → List Pointer → Pointer → Type 0
  Passed ns front p =
      for_each exchange (range_with_len (length front) (length ns)) (at (turned front (p ∷ ns)))
      ≡ Some (at (turned front (passed_up p ns)))

  passes : (front ns : List Pointer) (m : Pointer) → IsOf class m → AreOf class ns →
      for_each exchange (range_with_len (length front) (length ns)) (at (turned front (m ∷ ns)))
      ≡ Some (at (turned front (passed_up m ns)))
  passes front [] m hm are = refl
  passes front (n ∷ ns) m hm are =
      each_one exchange (length front) (range_with_len (length front + 1) (length ns)) (at (turned front (m ∷ n ∷ ns)))
      (at (turned front (exchanged (is_below n m) m n ns))) (exchange_here front ns m n hm are.0)
      ∙ by (is_below n m) (passes (n ∷ front) ns m hm are.1) (passes (m ∷ front) ns n are.0 are.1)
    where
      by : (b : Bool) → Passed ns (n ∷ front) m → Passed ns (m ∷ front) n →
          for_each exchange (range_with_len (length front + 1) (length ns)) (at (turned front (exchanged b m n ns)))
          ≡ Some (at (turned front (if b then n ∷ passed_up m ns else m ∷ passed_up n ns)))
      by true h k =
          let e : length front + 1 ≡ length (n ∷ front) = omega arith in
          ap (λ k. for_each exchange (range_with_len k (length ns)) (at (turned front (n ∷ m ∷ ns)))) e ∙ h
      by false h k =
          let e : length front + 1 ≡ length (m ∷ front) = omega arith in
          ap (λ k. for_each exchange (range_with_len k (length ns)) (at (turned front (m ∷ n ∷ ns)))) e ∙ k

  pub orders : (n : ℕ) (front back : List Pointer) → n ≡ length front + length back → AreOf class front →
      AreOf class back → for_each (λ j. for_each exchange (up j (n - 1))) (down (length front)) (at (turned front back))
      ≡ Some (at (sorted front back))
  orders n [] back e hf hb = refl
  orders n (p ∷ front) back e hf hb =
      let go : ℕ → Locking → Option Locking = λ j. for_each exchange (up j (n - 1)) in
      let count : n - 1 - length front ≡ length back = omega (arith, e) in
      let many = length_passed p back in
      each_one go (length front) (down (length front)) (at (turned front (p ∷ back)))
      (at (turned front (passed_up p back)))
      (ap (λ k. for_each exchange (range_with_len (length front) k) (at (turned front (p ∷ back)))) count
      ∙ passes front back p hf.0 hb)
      ∙ orders n front (passed_up p back) (omega (arith, e, many)) hf.1 (of_passed class p back hf.0 hb)

-- ---- the pointers that are taken and noted

abbrev pub put : List Pointer → ℕ → Pointer → List Pointer
put notes k None = notes
put notes k (Some lock) = set notes k (Some lock)

abbrev pub noted : List ℕ → List Pointer → List Pointer → List Pointer
noted [] ps notes = notes
noted (k ∷ ks) [] notes = notes
noted (k ∷ ks) (p ∷ ps) notes = noted ks ps (put notes k p)

pub takes : (notes : List Pointer) (rest : List (Option Pointer)) (calls : List Lock) (front ps : List Pointer) →
    for_each take_lock (range_with_len (length front) (length ps)) (holding notes (turned front ps) rest calls)
    ≡ Some (holding notes (turned front ps) rest (calls ++ called ps))
takes notes rest calls front [] =
    ap (λ c. Some (holding notes (turned front []) rest c)) (sym (append-nil calls))
takes notes rest calls front (p ∷ ps) =
    let all = turned front (p ∷ ps) in
    let e : length front + 1 ≡ length (p ∷ front) = omega arith in
    let here : take_lock (length front) (holding notes all rest calls) ≡ Some (call (holding notes all rest calls) p) =
    ap (λ o. lookup o (λ q. Some (call (holding notes all rest calls) q)))
    (m_holds notes all rest calls (length front) p (first_turned front p ps)) in
    each_one take_lock (length front) (range_with_len (length front + 1) (length ps)) (holding notes all rest calls)
    (call (holding notes all rest calls) p) here
    ∙ ap (λ k. for_each take_lock (range_with_len k (length ps)) (call (holding notes all rest calls) p)) e
    ∙ by p (λ c q. takes notes rest c (q ∷ front) ps)
  where
    by : (p : Pointer) →
        ((c : List Lock) (q : Pointer) →
        for_each take_lock (range_with_len (length (q ∷ front)) (length ps)) (holding notes (turned (q ∷ front) ps) rest c)
        ≡ Some (holding notes (turned (q ∷ front) ps) rest (c ++ called ps))) →
        for_each take_lock (range_with_len (length (p ∷ front)) (length ps)) (call (holding notes (turned front (p ∷ ps)) rest calls) p)
        ≡ Some (holding notes (turned front (p ∷ ps)) rest (calls ++ called (p ∷ ps)))
    by None more = more calls None
    by (Some lock) more =
        more (calls ++ lock ∷ []) (Some lock)
        ∙ ap (λ c. Some (holding notes (turned front (Some lock ∷ ps)) rest c)) (append_assoc calls (lock ∷ []) (called ps))

-- ---- the places after those of some paths

abbrev pub past : List ℕ → List (Option Pointer) → List (Option Pointer)
past [] os = os
past (k ∷ ks) [] = []
past (k ∷ ks) (o ∷ os) = past ks os

pub length_past : (ks : List ℕ) (os : List (Option Pointer)) → length ks ≤ length os →
    length ks + length (past ks os) ≡ length os
length_past [] os fits = omega arith
length_past (k ∷ ks) [] fits = absurd (omega (arith, fits))
length_past (k ∷ ks) (o ∷ os) fits = let e = length_past ks os (omega (arith, fits)) in omega (arith, e)

-- ---- the note of a path

length_set : (notes : List Pointer) (k : ℕ) (p : Pointer) → length (set notes k p) ≡ length notes
length_set [] k p = refl
length_set (x ∷ notes) zero p = refl
length_set (x ∷ notes) (suc k) p = ap suc (length_set notes k p)

pub length_put : (notes : List Pointer) (k : ℕ) (p : Pointer) → length (put notes k p) ≡ length notes
length_put notes k None = refl
length_put notes k (Some lock) = length_set notes k (Some lock)

there : (notes : List Pointer) (k : ℕ) → k < length notes → (p : Pointer) × (slice_get notes k ≡ Some p)
there [] k lt = absurd (omega (arith, lt))
there (x ∷ notes) zero lt = (x, refl)
there (x ∷ notes) (suc k) lt = there notes k (omega (arith, lt))

-- h[k] after the lock of its path is noted
pub note_is : (notes : List Pointer) (asked : List (Option Pointer)) (calls : List Lock) (k : ℕ) (p : Pointer) →
    k < length notes →
    note_if p k (record { notes = notes; asked = asked; calls = calls })
    ≡ Some (record { notes = put notes k p; asked = asked; calls = calls })
note_is notes asked calls k None lt = refl
note_is notes asked calls k (Some lock) lt =
    let x : Locking = record { notes = notes; asked = asked; calls = calls } in
    let t = there notes k lt in
    ap (λ o. lookup o (λ (old : Pointer). Some (record x { notes = set notes k (Some lock) }))) t.1

-- ---- statements one after another

module _ (program : Typed) (section : Section) (locals : List Value) where
  abbrev do_these : List LockStatement → Locking → Option Locking
  do_these = do_all program section locals

  abbrev do_one : LockStatement → Locking → Option Locking
  do_one = does program section locals

  pub do_append : (ss ts : List LockStatement) (x y : Locking) → do_these ss x ≡ Some y →
      do_these (ss ++ ts) x ≡ do_these ts y
  do_append [] ts x y e = let same : x ≡ y = cc e in ap (do_these ts) same
  do_append (s ∷ ss) ts x y e = on (do_one s x) e (λ z. do_append ss ts z y) where
    on : (o : Option Locking) → lookup o (do_these ss) ≡ Some y →
        ((z : Locking) → do_these ss z ≡ Some y → do_these (ss ++ ts) z ≡ do_these ts y) →
        lookup o (do_these (ss ++ ts)) ≡ do_these ts y
    on (Some z) e more = more z e
    on None e more = absurd cc

  pub do_mapped : (statement : ℕ → LockStatement) (is : List ℕ) (x : Locking) →
      do_these (map statement is) x ≡ for_each (λ i. do_one (statement i)) is x
  do_mapped statement [] x = refl
  do_mapped statement (i ∷ is) x = on (do_one (statement i) x) (do_mapped statement is) where
    on : (o : Option Locking) →
        ((y : Locking) → do_these (map statement is) y ≡ for_each (λ i. do_one (statement i)) is y) →
        lookup o (do_these (map statement is)) ≡ lookup o (for_each (λ i. do_one (statement i)) is)
    on (Some y) more = more y
    on None more = refl

  do_both : (ss ts : List LockStatement) (y : Locking) → do_these (ss ++ ts) y ≡ lookup (do_these ss y) (do_these ts)
  do_both [] ts y = refl
  do_both (s ∷ ss) ts y = on (do_one s y) (do_both ss ts) where
    on : (o : Option Locking) → ((z : Locking) → do_these (ss ++ ts) z ≡ lookup (do_these ss z) (do_these ts)) →
        lookup o (do_these (ss ++ ts)) ≡ lookup (lookup o (do_these ss)) (do_these ts)
    on (Some z) more = more z
    on None more = refl

  -- a loop within a loop
  do_nested : (statements : ℕ → List LockStatement) (is : List ℕ) (x : Locking) →
      do_these (flat_map statements is) x ≡ for_each (λ i. do_these (statements i)) is x
  do_nested statements [] x = refl
  do_nested statements (i ∷ is) x =
      do_both (statements i) (flat_map statements is) x ∙ rest (do_these (statements i) x) (do_nested statements is)
    where
      rest : (o : Option Locking) →
          ((y : Locking) → do_these (flat_map statements is) y ≡ for_each (λ i. do_these (statements i)) is y) →
          lookup o (do_these (flat_map statements is)) ≡ lookup o (for_each (λ i. do_these (statements i)) is)
      rest (Some y) more = more y
      rest None more = refl

  pub do_exchanges : (n : ℕ) (js : List ℕ) (x : Locking) →
      do_these (flat_map (λ j. map Exchange (up j (n - 1))) js) x ≡ for_each (λ j. for_each exchange (up j (n - 1))) js x
  do_exchanges n js x =
      do_nested (λ j. map Exchange (up j (n - 1))) js x
      ∙ each_same (λ j. do_these (map Exchange (up j (n - 1)))) (λ j. for_each exchange (up j (n - 1)))
      (λ j y. do_mapped Exchange (up j (n - 1)) y) js x

  -- ---- the requested locks

  next_at : (ps : List Pointer) (o : Option Pointer) (os : List (Option Pointer)) →
      slice_get (filled ps (o ∷ os)) (length ps) ≡ Some o
  next_at [] o os = refl
  next_at (p ∷ ps) o os = next_at ps o os

  next_set : (ps : List Pointer) (o : Option Pointer) (os : List (Option Pointer)) (q : Pointer) →
      set (filled ps (o ∷ os)) (length ps) (Some q) ≡ filled (ps ++ q ∷ []) os
  next_set [] o os q = refl
  next_set (p ∷ ps) o os q = ap (λ t. Some p ∷ t) (next_set ps o os q)

  length_more : (ps : List Pointer) (q : Pointer) → length (ps ++ q ∷ []) ≡ length ps + 1
  length_more [] q = omega arith
  length_more (p ∷ ps) q = let e = length_more ps q in omega (arith, e)

  pub asks : (name : ℕ → Pointer) (notes ps : List Pointer) (ks : List ℕ) (os : List (Option Pointer)) (calls : List Lock) →
      length ks ≤ length os →
      ((k : ℕ) → Contains ks k → address_at program section locals k ≡ Some (name k)) →
      do_these (in_turn Ask (length ps) ks) (holding notes ps os calls)
      ≡ Some (holding notes (ps ++ map name ks) (past ks os) calls)
  asks name notes ps [] os calls fits addresses =
      ap (λ qs. Some (holding notes qs os calls)) (sym (append-nil ps))
  asks name notes ps (k ∷ ks) [] calls fits addresses = absurd (omega (arith, fits))
  asks name notes ps (k ∷ ks) (o ∷ os) calls fits addresses =
      let x = holding notes ps (o ∷ os) calls in
      let q = name k in
      let more = length_more ps q in
      ap (λ a. lookup (lookup a (set_m x (length ps))) (do_these (in_turn Ask (length ps + 1) ks)))
      (addresses k (in_first k ks))
      ∙ ap (λ r. lookup (lookup r (λ (old : Option Pointer). Some (record x { asked = set (filled ps (o ∷ os)) (length ps) (Some q) })))
      (do_these (in_turn Ask (length ps + 1) ks))) (next_at ps o os)
      ∙ ap (λ m. do_these (in_turn Ask (length ps + 1) ks) (record x { asked = m })) (next_set ps o os q)
      ∙ ap (λ j. do_these (in_turn Ask j ks) (holding notes (ps ++ q ∷ []) os calls)) (sym more)
      ∙ asks name notes (ps ++ q ∷ []) ks os calls (omega (arith, fits)) (λ i c. addresses i (in_rest k i ks c))
      ∙ ap (λ qs. Some (holding notes qs (past ks os) calls)) (append_assoc ps (q ∷ []) (map name ks))

  -- ---- the notes

  pub notings : (front ps notes : List Pointer) (ks : List ℕ) (rest : List (Option Pointer)) (calls : List Lock) →
      length ks ≡ length ps → ((k : ℕ) → Contains ks k → k < length notes) →
      do_these (in_turn Note (length front) ks) (holding notes (turned front ps) rest calls)
      ≡ Some (holding (noted ks ps notes) (turned front ps) rest calls)
  notings front ps notes [] rest calls same within = refl
  notings front [] notes (k ∷ ks) rest calls same within = absurd (omega (arith, same))
  notings front (p ∷ ps) notes (k ∷ ks) rest calls same within =
      let all = turned front (p ∷ ps) in
      let x = holding notes all rest calls in
      let j = length front in
      let e : j + 1 ≡ length (p ∷ front) = omega arith in
      let many = length_put notes k p in
      ap (λ o. lookup (lookup o (λ q. note_if q k x)) (do_these (in_turn Note (j + 1) ks)))
      (m_holds notes all rest calls j p (first_turned front p ps))
      ∙ ap (λ o. lookup o (do_these (in_turn Note (j + 1) ks)))
      (note_is notes (filled all rest) calls k p (within k (in_first k ks)))
      ∙ ap (λ i. do_these (in_turn Note i ks) (holding (put notes k p) all rest calls)) e
      ∙ notings (p ∷ front) ps (put notes k p) ks rest calls (omega (arith, same))
      (λ i c. subst (λ n. i < n) (sym many) (within i (in_rest k i ks c)))

-- ---- the results, in the order of the paths

pub kept_all : (os ps : List Pointer) → kept os (turned ps []) [] ≡ aims os ps []
kept_all os ps = kept_turned os ps [] []

pub turned_back : {A : Type 0} (ps : List A) → turned (turned ps []) [] ≡ ps
turned_back ps = turned_twice ps [] [] ∙ append-nil ps

pub sorted_all : (ps : List Pointer) → sorted (turned ps []) [] ≡ ordered ps
sorted_all ps = sorted_turned ps [] [] ∙ puts_are ps

-- ---- how many there are

pub length_aimed : (held : List Lock) (ps : List Pointer) → length (aimed held ps) ≡ length ps
length_aimed held [] = refl
length_aimed held (p ∷ ps) = ap suc (length_aimed held ps)

pub length_ordered : (ps : List Pointer) → length (ordered ps) ≡ length ps
length_ordered [] = refl
length_ordered (p ∷ ps) = length_passed p (ordered ps) ∙ ap suc (length_ordered ps)

pub length_back : {A : Type 0} (ps : List A) → length ps ≡ length (turned ps [])
length_back ps = let e = length_turned ps [] in omega (arith, e)

pub of_turned : (class : ℕ) (ps back : List Pointer) → AreOf class ps → AreOf class back → AreOf class (turned ps back)
of_turned class [] back are behind = behind
of_turned class (p ∷ ps) back are behind = of_turned class ps (p ∷ back) are.1 (are.0, behind)
