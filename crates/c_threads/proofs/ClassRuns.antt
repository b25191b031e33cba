-- The state after a run of paths of one class.
use Rattle.std.proofs.Common.{◌≡◌, ◌<◌, ◌≤◌, ℕ, suc, ◌+◌, ◌-◌, List, [], ◌∷◌, ◌++◌, map, length, Option}
use Rattle.std.proofs.Common.{Some, None, false, slice_get, refl, sym, ap, ◌∙◌, subst, arith}
use Rattle.std.proofs.Common.{if◌then◌else◌, set, zero, append_assoc}
use Rattle.std.specs.List.{Contains, flat_map, range_with_len}
use Rattle.std.proofs.lemmas.List.{append-nil}
use Rattle.core_lang.specs.declared.value.Value.{Value}
use Rattle.core_lang.specs.declared.tree.Section.{Section}
use Rattle.core_lang.specs.declared.typed.Typed.{Typed}
use Rattle.core_lang.specs.Typing.{lookup}
use Rattle.core_lang.specs.Theory.Items.{none_at, in_first, in_rest}
use Rattle.locks.specs.declared.lock.Lock.{Lock}
use Rattle.locks.specs.Locks.{among}
use Rattle.locks.specs.Theory.Order.{contains_among}
use Rattle.worlds.specs.Asking.{locks_numbered}
use Rattle.c_threads.specs.Locking.{Pointer, Locking, LockStatement, Ask, Drop, Note, Exchange, Take, TakeAlone, OrderAll, TakeAll}
use Rattle.c_threads.specs.Locking.{DropAll, up, down, in_turn, few, many, for_each, drop_lock, exchange, take_lock, order_all, take_all}
use Rattle.c_threads.specs.Locking.{drop_all, take_each, take_unless, call, do_all, address_at, addresses_at}
use Rattle.c_threads.proofs.Arrays.{turned, holding}
use Rattle.c_threads.proofs.Orders.{dropped, aimed, ordered, called, AreOf, of_aimed}
use Rattle.c_threads.proofs.Loops.{equals_any, aims_are, few_drops, many_drops, orders, takes, noted, note_is, do_append}
use Rattle.c_threads.proofs.Loops.{do_mapped, do_exchanges, past, asks, notings, kept_all, turned_back, sorted, sorted_all}
use Rattle.c_threads.proofs.Loops.{length_aimed, length_ordered, length_back, of_turned, length_put}
use Rattle.c_threads.proofs.Noting.{not_among}

-- the first lock, or NULL
abbrev pub first_of : List Lock → Pointer
first_of [] = None
first_of (l ∷ ls) = Some l

pub length_names : {A : Type 0} (f : ℕ → A) (ks : List ℕ) → length (map f ks) ≡ length ks
length_names f [] = refl
length_names f (k ∷ ks) = ap suc (length_names f ks)

-- ---- the order, and the calls

sorted_does : (class : ℕ) (notes : List Pointer) (rest : List (Option Pointer)) (calls : List Lock) (kps : List Pointer)
    (n : ℕ) → n ≡ length kps → AreOf class kps → order_all n (holding notes kps rest calls)
    ≡ Some (holding notes (ordered kps) rest calls)
sorted_does class notes rest calls kps n e are =
    ap (λ ps. order_all n (holding notes ps rest calls)) (sym (turned_back kps))
    ∙ by (turned kps []) (of_turned class kps [] are tt) (e ∙ length_back kps)
    ∙ ap (λ ps. Some (holding notes ps rest calls)) (sorted_all kps)
  where
    by : (front : List Pointer) → AreOf class front → n ≡ length front →
        order_all n (holding notes (turned front []) rest calls) ≡ Some (holding notes (sorted front []) rest calls)
    by [] are c =
        let none : n - 1 ≡ 0 = omega (arith, c) in
        ap (λ k. for_each (λ j. for_each exchange (up j (n - 1))) (down k) (holding notes [] rest calls)) none
    by (p ∷ front) are c =
        let less : n - 1 ≡ length front = omega (arith, c) in
        ap (λ k. for_each (λ j. for_each exchange (up j (n - 1))) (down k) (holding notes (turned front (p ∷ [])) rest calls)) less
        ∙ orders notes rest calls class n front (p ∷ []) (omega (arith, c)) are.1 (are.0, tt)

taken_does : (notes : List Pointer) (rest : List (Option Pointer)) (calls : List Lock) (ps : List Pointer) (n : ℕ) →
    n ≡ length ps → take_all n (holding notes ps rest calls) ≡ Some (holding notes ps rest (calls ++ called ps))
taken_does notes rest calls ps n e =
    let count : n - 0 ≡ length ps = omega (arith, e) in
    ap (λ k. for_each take_lock (range_with_len 0 k) (holding notes ps rest calls)) count ∙ takes notes rest calls [] ps

module _ (program : Typed) (section : Section) (locals : List Value) where
  abbrev name : ℕ → Pointer
  name k = first_of (locks_numbered program section locals k)

  abbrev pub names : List ℕ → List Pointer
  names ks = map name ks

  abbrev go : List LockStatement → Locking → Option Locking
  go = do_all program section locals

  abbrev pub HaveAddresses : List ℕ → Type 0
  HaveAddresses ks = (k : ℕ) → Contains ks k → address_at program section locals k ≡ Some (name k)

  module _ (class : ℕ) (held : List Lock) (g : List ℕ) (notes : List Pointer) (asked : List (Option Pointer))
      (calls : List Lock) where
    abbrev pub kps : List Pointer
    kps = aimed held (names g)

    abbrev rest : List (Option Pointer)
    rest = past g asked

    -- the variables after the run
    abbrev pub leaves : Locking
    leaves = holding (noted g kps notes) (ordered kps) rest (calls ++ called (ordered kps))

    module _ (are : AreOf class (names g)) (addresses : HaveAddresses g) (fits : length g ≤ length asked)
        (within : (k : ℕ) → Contains g k → k < length notes) where
      abbrev n : ℕ
      n = length g

      many_kept : n ≡ length kps
      many_kept = sym (length_aimed held (names g) ∙ length_names name g)

      are_kept : AreOf class kps
      are_kept = of_aimed class held (names g) are

      asked_first : go (in_turn Ask 0 g) (holding notes [] asked calls) ≡ Some (holding notes (names g) rest calls)
      asked_first = asks program section locals name notes [] g asked calls fits addresses

      noted_then : go (in_turn Note 0 g) (holding notes kps rest calls)
          ≡ Some (holding (noted g kps notes) kps rest calls)
      noted_then = notings program section locals [] kps notes g rest calls many_kept within

      ordered_then : order_all n (holding (noted g kps notes) kps rest calls)
          ≡ Some (holding (noted g kps notes) (ordered kps) rest calls)
      ordered_then = sorted_does class (noted g kps notes) rest calls kps n many_kept are_kept

      taken_last : take_all n (holding (noted g kps notes) (ordered kps) rest calls) ≡ Some leaves
      taken_last = taken_does (noted g kps notes) rest calls (ordered kps) n (many_kept ∙ sym (length_ordered kps))

      front_is : n ≡ length (turned (names g) []) + 0
      front_is = let e = sym (length_names name g) ∙ length_back (names g) in omega (arith, e)

      front_many : n ≡ length (turned (names g) [])
      front_many = sym (length_names name g) ∙ length_back (names g)

      abbrev drops : List ℕ → List LockStatement
      drops cls = map (λ j. Drop j cls (up (j + 1) n)) (down n)

      abbrev notings_of : List LockStatement
      notings_of = in_turn Note 0 g

      abbrev inserts : List LockStatement
      inserts = flat_map (λ j. map Exchange (up j (n - 1))) (down (n - 1))

      abbrev takes_of : List LockStatement
      takes_of = map Take (up 0 n)

      abbrev lasts : List LockStatement
      lasts = OrderAll n ∷ TakeAll n ∷ []

      -- two lists of statements run in turn
      both : (ss ts : List LockStatement) (x y z : Locking) → go ss x ≡ Some y → go ts y ≡ Some z → go (ss ++ ts) x ≡ Some z
      both ss ts x y z ex ey = do_append program section locals ss ts x y ex ∙ ey

      pub few_does : (cls : List ℕ) (os : List Pointer) →
          map (slice_get notes) cls ≡ map (λ (p : Pointer). Some p) os →
          ((lock : Lock) → lock.class ≡ class → equals_any (Some lock) os ≡ among held lock) →
          go (few cls g) (holding notes [] asked calls) ≡ Some leaves
      few_does cls os reads same =
          both (in_turn Ask 0 g ++ drops cls ++ notings_of ++ inserts) takes_of (holding notes [] asked calls)
          (holding (noted g kps notes) (ordered kps) rest calls) leaves
          (both (in_turn Ask 0 g ++ drops cls ++ notings_of) inserts (holding notes [] asked calls)
          (holding (noted g kps notes) kps rest calls) (holding (noted g kps notes) (ordered kps) rest calls)
          (both (in_turn Ask 0 g ++ drops cls) notings_of (holding notes [] asked calls)
          (holding notes kps rest calls) (holding (noted g kps notes) kps rest calls)
          (both (in_turn Ask 0 g) (drops cls) (holding notes [] asked calls) (holding notes (names g) rest calls)
          (holding notes kps rest calls) asked_first dropped_then)
          noted_then)
          (do_exchanges program section locals n (down (n - 1)) (holding (noted g kps notes) kps rest calls) ∙ ordered_then))
          (do_mapped program section locals Take (up 0 n) (holding (noted g kps notes) (ordered kps) rest calls) ∙ taken_last)
        where
          dropped_then : go (drops cls) (holding notes (names g) rest calls) ≡ Some (holding notes kps rest calls)
          dropped_then =
              let body : ℕ → Locking → Option Locking = λ j. drop_lock j cls (up (j + 1) n) in
              do_mapped program section locals (λ j. Drop j cls (up (j + 1) n)) (down n) (holding notes (names g) rest calls)
              ∙ ap (λ ps. for_each body (down n) (holding notes ps rest calls)) (sym (turned_back (names g)))
              ∙ ap (λ k. for_each body (down k) (holding notes (turned (turned (names g) []) []) rest calls)) front_many
              ∙ few_drops notes rest calls cls os reads n (turned (names g) []) [] front_is
              ∙ ap (λ ps. Some (holding notes ps rest calls)) (kept_all os (names g) ∙ aims_are class held os same (names g) are)

      pub many_does : (count : ℕ) → count ≡ length notes →
          ((lock : Lock) → lock.class ≡ class → equals_any (Some lock) notes ≡ among held lock) →
          go (many count g) (holding notes [] asked calls) ≡ Some leaves
      many_does count c same =
          both (in_turn Ask 0 g ++ DropAll n count ∷ notings_of) lasts (holding notes [] asked calls)
          (holding (noted g kps notes) kps rest calls) leaves
          (both (in_turn Ask 0 g) (DropAll n count ∷ notings_of) (holding notes [] asked calls)
          (holding notes (names g) rest calls) (holding (noted g kps notes) kps rest calls) asked_first
          (ap (λ o. lookup o (go notings_of)) dropped_then ∙ noted_then))
          (ap (λ o. lookup o (go (TakeAll n ∷ []))) ordered_then ∙ ap (λ o. lookup o (go [])) taken_last)
        where
          dropped_then : drop_all n count (holding notes (names g) rest calls) ≡ Some (holding notes kps rest calls)
          dropped_then =
              let body : ℕ → Locking → Option Locking =
              λ j x. lookup (for_each (λ i. drop_lock j (i ∷ []) []) (up 0 count) x)
              (for_each (λ i. drop_lock j [] (i ∷ [])) (up (j + 1) n)) in
              ap (λ ps. for_each body (down n) (holding notes ps rest calls)) (sym (turned_back (names g)))
              ∙ ap (λ k. for_each body (down k) (holding notes (turned (turned (names g) []) []) rest calls)) front_many
              ∙ many_drops notes rest calls count c n (turned (names g) []) [] front_is
              ∙ ap (λ ps. Some (holding notes ps rest calls))
              (kept_all notes (names g) ∙ aims_are class held notes same (names g) are)

  -- ---- the one path of its class

  module _ (held : List Lock) (k : ℕ) (notes : List Pointer) (asked : List (Option Pointer)) (calls : List Lock) where
    abbrev alone : Locking
    alone = record { notes = notes; asked = asked; calls = calls }

    abbrev made : Pointer → Locking
    made p = record { notes = noted (k ∷ []) (p ∷ []) notes; asked = asked; calls = calls ++ called (ordered (p ∷ [])) }

    abbrev tested : Option Pointer → Option Locking
    tested o = lookup o (λ noted. take_unless (addresses_at program section locals k) noted k alone)

    -- the variables after the run, by what is noted and what the path names
    abbrev Left : Option Pointer → Pointer → Type 0
    Left o p = lookup (tested o) (go []) ≡ Some (made (dropped held [] p))

    nothing : (o : Option Pointer) → tested o ≡ Some alone → lookup (tested o) (go []) ≡ Some (made None)
    nothing o e =
        ap (λ r. lookup r (go [])) e
        ∙ ap (λ c. Some (record { notes = notes; asked = asked; calls = c })) (sym (append-nil calls))

    pub alone_does : addresses_at program section locals k ≡ Some (name k ∷ []) → k < length notes →
        ((lock : Lock) → slice_get notes k ≡ Some (Some lock) → (name k ≡ Some lock) × Contains held lock) →
        ((lock : Lock) → name k ≡ Some lock → Contains held lock → slice_get notes k ≡ Some (Some lock)) →
        go (TakeAlone k ∷ []) alone ≡ Some (made (dropped held [] (name k)))
    alone_does address less fit there = found (slice_get notes k) refl where
      at_null : (p : Pointer) → name k ≡ p → slice_get notes k ≡ Some None → Left (Some None) p
      at_null None named e =
          nothing (Some None) (ap (λ a. take_unless a None k alone) (address ∙ ap (λ q. Some (q ∷ [])) named))
      at_null (Some lock) named e =
          let new : among held lock ≡ false =
          not_among held lock (λ c. (let bad : Some None ≡ Some (Some lock) = sym e ∙ there lock named c in cc bad)) in
          ap (λ a. lookup (take_unless a None k alone) (go [])) (address ∙ ap (λ q. Some (q ∷ [])) named)
          ∙ ap (λ r. lookup (lookup r (λ y. Some (call y (Some lock)))) (go [])) (note_is notes asked calls k (Some lock) less)
          ∙ ap (λ b. Some (made (if b then None else Some lock))) (sym new)

      at_lock : (lock : Lock) → slice_get notes k ≡ Some (Some lock) → Left (Some (Some lock)) (name k)
      at_lock lock e =
          let f = fit lock e in
          subst (Left (Some (Some lock))) (sym f.0)
          (nothing (Some (Some lock)) refl
          ∙ ap (λ b. Some (made (if b then None else Some lock))) (sym (contains_among held lock f.1)))

      none_there : (xs : List Pointer) (i : ℕ) → i < length xs → slice_get xs i ≡ None → ⊥
      none_there xs i lt e = (let past = none_at xs i e in omega (arith, lt, past))

      found : (o : Option Pointer) → slice_get notes k ≡ o → Left o (name k)
      found None e = absurd (none_there notes k less e)
      found (Some None) e = at_null (name k) refl e
      found (Some (Some lock)) e = at_lock lock e

-- ---- a whole class

-- the notes after path k has taken these locks in turn
abbrev pub marked : ℕ → List Lock → List Pointer → List Pointer
marked k [] notes = notes
marked k (l ∷ ls) notes = marked k ls (set notes k (Some l))

set_twice : {X : Type 0} (xs : List X) (i : ℕ) (x y : X) → set (set xs i x) i y ≡ set xs i y
set_twice [] i x y = refl
set_twice (z ∷ xs) zero x y = refl
set_twice (z ∷ xs) (suc i) x y = ap (λ t. z ∷ t) (set_twice xs i x y)

-- the last of them is noted
pub last_marked : (k : ℕ) (l : Lock) (ls : List Lock) (notes : List Pointer) →
    (last : Lock) × Contains (l ∷ ls) last × (marked k (l ∷ ls) notes ≡ set notes k (Some last))
last_marked k l [] notes = (l, in_first l [], refl)
last_marked k l (m ∷ ls) notes =
    let r = last_marked k m ls (set notes k (Some l)) in
    (r.0, in_rest l r.0 (m ∷ ls) r.1, r.2 ∙ set_twice notes k (Some l) (Some r.0))

pub each_taken : (k : ℕ) (ls : List Lock) (notes : List Pointer) (asked : List (Option Pointer)) (calls : List Lock) →
    k < length notes →
    take_each k (map (λ (l : Lock). Some l) ls) (record { notes = notes; asked = asked; calls = calls })
    ≡ Some (record { notes = marked k ls notes; asked = asked; calls = calls ++ ls })
each_taken k [] notes asked calls less =
    ap (λ c. Some (record { notes = notes; asked = asked; calls = c })) (sym (append-nil calls))
each_taken k (l ∷ ls) notes asked calls less =
    let many = length_put notes k (Some l) in
    ap (λ o. lookup o (λ y. take_each k (map (λ (x : Lock). Some x) ls) (call y (Some l)))) (note_is notes asked calls k (Some l) less)
    ∙ each_taken k ls (set notes k (Some l)) asked (calls ++ l ∷ []) (omega (arith, less, many))
    ∙ ap (λ c. Some (record { notes = marked k ls (set notes k (Some l)); asked = asked; calls = c })) (append_assoc calls (l ∷ []) ls)
