-- The first of each class of equal things, when one thing more is seen.
use Rattle.std.proofs.Common.{◌≡◌, ℕ, suc, ◌+◌, ◌<◌, Bool, true, false, true≢false, cond, List, [], ◌∷◌, ◌++◌, length}
use Rattle.std.proofs.Common.{get_or, refl, sym, ap, ◌∙◌, arith, set}
use Rattle.std.specs.Prelude.{map, if◌then◌else◌, ◌||◌, not}
use Rattle.std.specs.List.{list_any, position_or_len, count_by, IsDistinct, AllByRecursion}
use Rattle.std.specs.Cmp.{IsEquivalence}
use Rattle.std.proofs.lemmas.Bool.Decides.{nat_tests}
use Rattle.std.proofs.lemmas.List.{map-append}
use Rattle.std.proofs.lemmas.List.Folds.{list_any-append, position_or_len_push}
use Rattle.std.proofs.lemmas.List.Sums.{sum_by-append}
use Rattle.std.proofs.lemmas.Map.Keys.{IsDistinct-push, IsDistinct-head, IsDistinct-tail}
use Rattle.indexmap.specs.IndexSet.{insert_key}
use Rattle.report_runs.specs.Runs.{with_first}

-- ---- tests of each of a list

pub any_of_same : {X : Type 0} (p q : X → Bool) → ((x : X) → p x ≡ q x) → (xs : List X) → list_any p xs ≡ list_any q xs
any_of_same p q same xs = λ i. list_any (λ x. same x i) xs

pub place_of_same : {X : Type 0} (p q : X → Bool) → ((x : X) → p x ≡ q x) → (xs : List X) → position_or_len p xs ≡ position_or_len q xs
place_of_same p q same xs = λ i. position_or_len (λ x. same x i) xs

pub any-map : {X Y : Type 0} (p : Y → Bool) (f : X → Y) (xs : List X) → list_any p (map f xs) ≡ list_any (λ x. p (f x)) xs
any-map p f [] = refl
any-map p f (x ∷ xs) = ap (λ (b : Bool). p (f x) || b) (any-map p f xs)

pub place-map : {X Y : Type 0} (p : Y → Bool) (f : X → Y) (xs : List X) → position_or_len p (map f xs) ≡ position_or_len (λ x. p (f x)) xs
place-map p f [] = refl
place-map p f (x ∷ xs) = ap (λ (n : ℕ). cond (not (p (f x))) (1 + n) 0) (place-map p f xs)

-- the index of an element that passes is within the list
pub place_within : {X : Type 0} (p : X → Bool) (xs : List X) → list_any p xs ≡ true → position_or_len p xs < length xs
place_within p [] h = absurd (true≢false (sym h))
place_within p (x ∷ xs) h = by (p x) refl (place_within p xs)
  where
    by : (b : Bool) → p x ≡ b → (list_any p xs ≡ true → position_or_len p xs < length xs) → position_or_len p (x ∷ xs) < length (x ∷ xs)
    by true e rest = rw e (omega arith)
    by false e rest = let lt = rest (rw e at h) in rw e (omega arith)

pub counted_push : {X : Type 0} (p : X → Bool) (xs : List X) (x : X) → count_by p (xs ++ x ∷ []) ≡ count_by p xs + cond (p x) 1 0
counted_push p xs x = sum_by-append (λ y. cond (p y) 1 0) xs (x ∷ []) ∙ ap (λ (n : ℕ). count_by p xs + n) (omega arith)

pub none_counted : {X : Type 0} (p : X → Bool) (xs : List X) → list_any p xs ≡ false → count_by p xs ≡ 0
none_counted p [] h = refl
none_counted p (x ∷ xs) h = by (p x) refl (none_counted p xs)
  where
    by : (b : Bool) → p x ≡ b → (list_any p xs ≡ false → count_by p xs ≡ 0) → count_by p (x ∷ xs) ≡ 0
    by true e rest = absurd (true≢false (rw e at h))
    by false e rest =
        let none = rest (rw e at h) in
        let parts = sum_by-append (λ y. cond (p y) 1 0) (x ∷ []) xs in
        parts ∙ rw e (omega arith)

-- a weaker property of each element
pub all_weaker : {X : Type 0} (P Q : X → Type 0) → ((x : X) → P x → Q x) → (xs : List X) → AllByRecursion P xs → AllByRecursion Q xs
all_weaker P Q f [] all = tt
all_weaker P Q f (x ∷ xs) all = (f x all.0, all_weaker P Q f xs all.1)

pub all_push : {X : Type 0} (P : X → Type 0) (xs : List X) (x : X) → AllByRecursion P xs → P x → AllByRecursion P (xs ++ x ∷ [])
all_push P [] x all one = (one, tt)
all_push P (y ∷ ys) x all one = (all.0, all_push P ys x all.1 one)

module _ {X : Type 0} {same : X → X → Bool} (laws : IsEquivalence same) where
  -- the things that were seen, with one more
  pub any_with : (seen : List X) (x y : X) → list_any (same y) (with_first same seen x) ≡ (list_any (same y) seen || same y x)
  any_with seen x y = by (list_any (same x) seen) refl (same y x) refl
    where
      by : (b : Bool) → list_any (same x) seen ≡ b → (c : Bool) → same y x ≡ c →
          list_any (same y) (if b then seen else seen ++ x ∷ []) ≡ (list_any (same y) seen || same y x)
      by true e true d = any_of_same (same y) (same x) (λ z. laws.congr y x z d) seen ∙ e ∙ grind (arith, nat_tests)
      by true e false d = grind (arith, nat_tests)
      by false e c d = list_any-append (same y) seen (x ∷ []) ∙ grind (arith, nat_tests)

  pub place_kept : (seen : List X) (x y : X) → (list_any (same y) seen || same y x) ≡ true →
      position_or_len (same y) (with_first same seen x) ≡ position_or_len (same y) seen
  place_kept seen x y there = by (list_any (same x) seen) refl (list_any (same y) seen) refl
    where
      by : (b : Bool) → list_any (same x) seen ≡ b → (c : Bool) → list_any (same y) seen ≡ c →
          position_or_len (same y) (if b then seen else seen ++ x ∷ []) ≡ position_or_len (same y) seen
      by true e c d = refl
      by false e true d = let lt = place_within (same y) seen d in position_or_len_push (same y) seen x ∙ grind (arith, nat_tests)
      by false e false d = position_or_len_push (same y) seen x ∙ grind (arith, nat_tests)

  pub distinct_with : (seen : List X) (x : X) → IsDistinct same seen → IsDistinct same (with_first same seen x)
  distinct_with seen x distinct = by (list_any (same x) seen) refl
    where
      by : (b : Bool) → list_any (same x) seen ≡ b → IsDistinct same (if b then seen else seen ++ x ∷ [])
      by true e = distinct
      by false e = IsDistinct-push laws seen x distinct e

-- keys that show the things, where equal things show the same
module _ {K V X : Type 0} (eq : V → V → Bool) (shown : K → V) (view : X → V) (same : X → X → Bool) (agree : (x y : X) → same x y ≡ eq (view x) (view y))
    (key_eq : K → K → Bool) (shows : (a b : K) → key_eq a b ≡ eq (shown a) (shown b)) where
  -- a key is among the keys exactly if a thing equal to its own was seen
  pub any_shown : (keys : List K) (xs : List X) (k : K) (x : X) → map shown keys ≡ map view xs → shown k ≡ view x →
      list_any (key_eq k) keys ≡ list_any (same x) xs
  any_shown keys xs k x keyed is =
      any_of_same (key_eq k) (λ key. eq (shown k) (shown key)) (shows k) keys
      ∙ sym (any-map (eq (shown k)) shown keys)
      ∙ (λ i. list_any (eq (is i)) (keyed i))
      ∙ any-map (eq (view x)) view xs
      ∙ any_of_same (λ y. eq (view x) (view y)) (same x) (λ y. sym (agree x y)) xs

  -- the key is at the same index as the thing
  pub place_shown : (keys : List K) (xs : List X) (k : K) (x : X) → map shown keys ≡ map view xs → shown k ≡ view x →
      position_or_len (key_eq k) keys ≡ position_or_len (same x) xs
  place_shown keys xs k x keyed is =
      place_of_same (key_eq k) (λ key. eq (shown k) (shown key)) (shows k) keys
      ∙ sym (place-map (eq (shown k)) shown keys)
      ∙ (λ i. position_or_len (eq (is i)) (keyed i))
      ∙ place-map (eq (view x)) view xs
      ∙ place_of_same (λ y. eq (view x) (view y)) (same x) (λ y. sym (agree x y)) xs

  -- one more key shows one more thing
  pub keyed_with : (keys : List K) (xs : List X) (k : K) (x : X) → map shown keys ≡ map view xs → shown k ≡ view x →
      map shown (insert_key key_eq keys k) ≡ map view (with_first same xs x)
  keyed_with keys xs k x keyed is =
      by (list_any (same x) xs) (any_shown keys xs k x keyed is)
    where
      by : (b : Bool) → list_any (key_eq k) keys ≡ b →
          map shown (if list_any (key_eq k) keys then keys else keys ++ k ∷ []) ≡ map view (if b then xs else xs ++ x ∷ [])
      by true e = rw e keyed
      by false e = rw e (map-append shown keys (k ∷ []) ∙ (λ i. keyed i ++ is i ∷ []) ∙ sym (map-append view xs (x ∷ [])))

-- ---- the row of each thing

-- one more thing changes only the row of the first thing equal to it
module _ {X T : Type 0} {same : X → X → Bool} (laws : IsEquivalence same) (row new : X → T) (up : T → T) (x : X)
    (raised : (y : X) → same x y ≡ true → new y ≡ up (row y)) where
  pub row_raised : (seen : List X) (d : T) → IsDistinct same seen → list_any (same x) seen ≡ true →
      AllByRecursion (λ y. same x y ≡ false → new y ≡ row y) seen →
      set (map row seen) (position_or_len (same x) seen) (up (get_or (map row seen) (position_or_len (same x) seen) d)) ≡ map new seen
  row_raised [] d distinct there kept = absurd (true≢false (sym there))
  row_raised (y ∷ ys) d distinct there kept =
      by (same x y) refl (row_raised ys d (IsDistinct-tail same y ys distinct))
    where
      later : (zs : List X) → AllByRecursion (λ z. same y z ≡ false) zs → same x y ≡ true → AllByRecursion (λ z. same x z ≡ false → new z ≡ row z) zs → map row zs ≡ map new zs
      later [] apart e stay = refl
      later (z ∷ zs) apart e stay = λ i. sym (stay.0 (laws.congr x y z e ∙ apart.0)) i ∷ later zs apart.1 e stay.1 i

      by : (b : Bool) → same x y ≡ b →
          (list_any (same x) ys ≡ true → AllByRecursion (λ z. same x z ≡ false → new z ≡ row z) ys →
          set (map row ys) (position_or_len (same x) ys) (up (get_or (map row ys) (position_or_len (same x) ys) d)) ≡ map new ys) →
          set (map row (y ∷ ys)) (position_or_len (same x) (y ∷ ys)) (up (get_or (map row (y ∷ ys)) (position_or_len (same x) (y ∷ ys)) d)) ≡ map new (y ∷ ys)
      by true e rest = rw e (λ i. sym (raised y e) i ∷ later ys (IsDistinct-head same y ys distinct) e kept.1 i)
      by false e rest =
          let n = position_or_len (same x) ys in
          let next : 1 + n ≡ suc n = omega arith in
          let there_too : list_any (same x) ys ≡ true = rw e at there in
          rw (e, next) (λ i. sym (kept.0 e) i ∷ rest there_too kept.1 i)

  pub rows_kept : (seen : List X) → list_any (same x) seen ≡ false → AllByRecursion (λ y. same x y ≡ false → new y ≡ row y) seen → map row seen ≡ map new seen
  rows_kept [] none kept = refl
  rows_kept (y ∷ ys) none kept = by (same x y) refl (rows_kept ys)
    where
      by : (b : Bool) → same x y ≡ b →
          (list_any (same x) ys ≡ false → AllByRecursion (λ z. same x z ≡ false → new z ≡ row z) ys → map row ys ≡ map new ys) →
          map row (y ∷ ys) ≡ map new (y ∷ ys)
      by true e rest = absurd (true≢false (rw e at none))
      by false e rest =
          let none_too : list_any (same x) ys ≡ false = rw e at none in
          λ i. sym (kept.0 e) i ∷ rest none_too kept.1 i
