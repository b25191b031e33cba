-- The items of lists, and their places. Nobody has to believe these facts: they are proved here, for proofs of this
-- crate and of those above.
use Rattle.std.proofs.Common.{◌≡◌, ◌≢◌, ◌⊎◌, ◌∙◌, ◌+◌, ◌<◌, ◌≤◌, ℕ, zero, suc, Bool, true, false, IsTrue, List, [], ◌∷◌}
use Rattle.std.proofs.Common.{◌++◌, length, map, set, drop, drop-cons, get_or, Option, Some, None, slice_get, inl, inr}
use Rattle.std.proofs.Common.{refl, sym, ap, subst, add-one, arith, if◌then◌else◌}
use Rattle.std.specs.Option.{option_map}
use Rattle.std.specs.List.{All, AllPairs, AllZip, Contains}
use Rattle.std.proofs.lemmas.List.Elements.{Contains-append_cases}
use Rattle.std.proofs.lemmas.Option.{none-some, same_Some, slice_get_within, get_or_from_slice_get, slice_get-get_or}
use Rattle.core_lang.specs.Typing.{lookup}
use Rattle.core_lang.specs.Scopes.{numbers_from}

-- ---- what is in a list

pub not_in_none : {X : Type 0} (x : X) → Contains [] x → ⊥
not_in_none x c = omega (arith, c.1)

pub in_first : {X : Type 0} (x : X) (xs : List X) → Contains (x ∷ xs) x
in_first x xs = (0, omega arith, refl)

pub in_rest : {X : Type 0} (x y : X) (xs : List X) → Contains xs y → Contains (x ∷ xs) y
in_rest x y xs c = (suc c.0, omega (arith, c.1), c.2)

pub in_cases : {X : Type 0} (x y : X) (xs : List X) → Contains (x ∷ xs) y → (x ≡ y) ⊎ Contains xs y
in_cases x y xs (zero, lt, e) = inl e
in_cases x y xs (suc i, lt, e) = inr (i, omega (arith, lt), e)

pub contains_at : {X : Type 0} (xs : List X) (i : ℕ) (x : X) → slice_get xs i ≡ Some x → Contains xs x
contains_at xs i x e = (i, slice_get_within xs i x e, get_or_from_slice_get xs i x x e)

pub at_contained : {X : Type 0} (xs : List X) (x : X) → Contains xs x → (i : ℕ) × (slice_get xs i ≡ Some x)
at_contained xs x c = (c.0, slice_get-get_or xs c.0 x c.1 ∙ ap Some c.2)

pub one_contained : {X : Type 0} (y x : X) → Contains (y ∷ []) x → y ≡ x
one_contained y x (zero, lt, e) = e
one_contained y x (suc k, lt, e) = absurd (omega (arith, lt))

pub push_cases : {X : Type 0} (xs : List X) (y x : X) → Contains (xs ++ y ∷ []) x → Contains xs x ⊎ (y ≡ x)
push_cases xs y x c = elim (Contains-append_cases xs (y ∷ []) x c) [ inl h ↦ inl h | inr h ↦ inr (one_contained y x h) ]

pub distinct_first : {X : Type 0} (x : X) (xs : List X) → AllPairs ◌≢◌ (x ∷ xs) → Contains xs x → ⊥
distinct_first x xs d c = d 0 (suc c.0) x (omega arith) (omega (arith, c.1)) (sym c.2)

pub all_contained : {X : Type 0} (P : X → Type 0) (xs : List X) (x : X) → All P xs → Contains xs x → P x
all_contained P xs x all c = subst P c.2 (all c.0 x c.1)

pub all_from : {X : Type 0} (P : X → Type 0) (xs : List X) → ((x : X) → Contains xs x → P x) → All P xs
all_from P xs f k d lt = f (get_or xs k d) (contains_at xs k (get_or xs k d) (slice_get-get_or xs k d lt))

-- ---- what is at a place

pub get_some : {X : Type 0} (xs : List X) (k : ℕ) → k < length xs → (x : X) × (slice_get xs k ≡ Some x)
get_some [] k lt = absurd (omega (arith, lt))
get_some (x ∷ xs) zero lt = (x, refl)
get_some (x ∷ xs) (suc k) lt = get_some xs k (omega (arith, lt))

pub get_mapped : {A B : Type 0} (f : A → B) (xs : List A) (k : ℕ) →
    slice_get (map f xs) k ≡ option_map f (slice_get xs k)
get_mapped f [] k = refl
get_mapped f (x ∷ xs) zero = refl
get_mapped f (x ∷ xs) (suc k) = get_mapped f xs k

pub set_same : {X : Type 0} (xs : List X) (i : ℕ) (x : X) → i < length xs → slice_get (set xs i x) i ≡ Some x
set_same [] i x lt = absurd (omega (arith, lt))
set_same (z ∷ xs) zero x lt = refl
set_same (z ∷ xs) (suc i) x lt = set_same xs i x (omega (arith, lt))

pub set_other : {X : Type 0} (xs : List X) (i j : ℕ) (x : X) → i ≢ j → slice_get (set xs i x) j ≡ slice_get xs j
set_other [] i j x ne = refl
set_other (z ∷ xs) zero zero x ne = absurd (ne refl)
set_other (z ∷ xs) zero (suc j) x ne = refl
set_other (z ∷ xs) (suc i) zero x ne = refl
set_other (z ∷ xs) (suc i) (suc j) x ne = set_other xs i j x (λ e. ne (ap suc e))

pub still_other : {X : Type 0} (xs : List X) (i j : ℕ) (x y : X) → j ≢ i → slice_get xs j ≡ Some y →
    slice_get (set xs i x) j ≡ Some y
still_other xs i j x y ne e = set_other xs i j x (λ same. ne (sym same)) ∙ e

pub set_itself : {X : Type 0} (xs : List X) (i : ℕ) (x : X) → slice_get xs i ≡ Some x → set xs i x ≡ xs
set_itself [] i x e = refl
set_itself (z ∷ xs) zero x e = let same : z ≡ x = cc in ap (λ y. y ∷ xs) (sym same)
set_itself (z ∷ xs) (suc i) x e = ap (λ zs. z ∷ zs) (set_itself xs i x e)

pub map_at : {A B : Type 0} (f : A → B) (xs : List A) (k : ℕ) (x : A) → slice_get xs k ≡ Some x →
    slice_get (map f xs) k ≡ Some (f x)
map_at f xs k x e = get_mapped f xs k ∙ ap (option_map f) e

pub map_back : {A B : Type 0} (f : A → B) (xs : List A) (k : ℕ) (y : B) → slice_get (map f xs) k ≡ Some y →
    (x : A) × (slice_get xs k ≡ Some x) × (f x ≡ y)
map_back f [] k y e = absurd (none-some y e)
map_back f (x ∷ xs) zero y e = (x, refl, cc)
map_back f (x ∷ xs) (suc k) y e = map_back f xs k y e

pub in_map : {A B : Type 0} (f : A → B) (xs : List A) (x : A) → Contains xs x → Contains (map f xs) (f x)
in_map f xs x c = let at = at_contained xs x c in contains_at (map f xs) at.0 (f x) (map_at f xs at.0 x at.1)

pub from_map : {A B : Type 0} (f : A → B) (xs : List A) (y : B) → Contains (map f xs) y →
    (x : A) × Contains xs x × (f x ≡ y)
from_map f xs y c =
    let at = at_contained (map f xs) y c in
    let r = map_back f xs at.0 y at.1 in
    (r.0, contains_at xs at.0 r.0 r.1, r.2)

pub still_at : {X : Type 0} (xs ys : List X) (k : ℕ) (x : X) → slice_get xs k ≡ Some x → slice_get (xs ++ ys) k ≡ Some x
still_at [] ys k x e = absurd (none-some x e)
still_at (z ∷ xs) ys zero x e = e
still_at (z ∷ xs) ys (suc k) x e = still_at xs ys k x e

pub behind_at : {X : Type 0} (xs : List X) (y : X) (ys : List X) → slice_get (xs ++ y ∷ ys) (length xs) ≡ Some y
behind_at [] y ys = refl
behind_at (z ∷ xs) y ys = behind_at xs y ys

pub last_at : {X : Type 0} (xs : List X) (y : X) → slice_get (xs ++ y ∷ []) (length xs) ≡ Some y
last_at xs y = behind_at xs y []

pub none_at : {X : Type 0} (xs : List X) (k : ℕ) → slice_get xs k ≡ None → length xs ≤ k
none_at [] k e = omega arith
none_at (x ∷ xs) zero e = absurd (none-some x (sym e))
none_at (x ∷ xs) (suc k) e = omega (arith, none_at xs k e)

pub pushed_at : {X : Type 0} (xs : List X) (y : X) (k : ℕ) (x : X) → slice_get (xs ++ y ∷ []) k ≡ Some x →
    (slice_get xs k ≡ Some x) ⊎ ((k ≡ length xs) × (y ≡ x))
pushed_at [] y zero x e = inr (refl, cc)
pushed_at [] y (suc k) x e = absurd (none-some x e)
pushed_at (z ∷ xs) y zero x e = inl e
pushed_at (z ∷ xs) y (suc k) x e = elim (pushed_at xs y k x e) [ inl h ↦ inl h | inr h ↦ inr (ap suc h.0, h.1) ]

pub read_at : {X : Type 0} (xs : List X) (k : ℕ) (x : X) → k < length xs → x ≡ get_or xs k x → slice_get xs k ≡ Some x
read_at xs k x lt e = slice_get-get_or xs k x lt ∙ ap Some (sym e)

pub next_of : {A : Type 0} (xs : List A) (i : ℕ) (x : A) → i < length xs → x ≡ get_or xs i x →
    drop i xs ≡ x ∷ drop (i + 1) xs
next_of {A = A} xs i x lt is =
    drop-cons xs i x lt ∙ ap (λ (y : A). y ∷ drop (suc i) xs) (sym is) ∙ ap (λ (k : ℕ). x ∷ drop k xs) (sym (add-one i))

pub drop_past : {A : Type 0} (xs : List A) (i : ℕ) → length xs ≤ i → drop i xs ≡ []
drop_past [] zero h = refl
drop_past [] (suc i) h = refl
drop_past (x ∷ xs) zero h = absurd (omega arith)
drop_past (x ∷ xs) (suc i) h = drop_past xs i (omega arith)

pub lookup_some : {A B : Type 0} (r : Option A) (go : A → Option B) (b : B) → lookup r go ≡ Some b →
    (a : A) × (r ≡ Some a) × (go a ≡ Some b)
lookup_some (Some a) go b e = (a, refl, e)
lookup_some None go b e = absurd (none-some b e)

pub lookup_at : {A B : Type 0} (r : Option A) (a : A) (go : A → Option B) → r ≡ Some a → lookup r go ≡ go a
lookup_at r a go e = ap (λ o. lookup o go) e

pub lookup_none : {A B : Type 0} (r : Option A) (go : A → Option B) → r ≡ None → lookup r go ≡ None
lookup_none r go e = ap (λ o. lookup o go) e

pub map_some : {A B : Type 0} (f : A → B) (o : Option A) (b : B) → option_map f o ≡ Some b →
    (a : A) × (o ≡ Some a) × (f a ≡ b)
map_some f None b e = absurd (none-some b e)
map_some f (Some a) b e = (a, refl, cc)

pub same_value : {A : Type 0} (o : Option A) (a b : A) → o ≡ Some a → o ≡ Some b → a ≡ b
same_value o a b e f = same_Some a b (sym e ∙ f)

pub if_some : {A : Type 0} (b : Bool) (o : Option A) (a : A) → (if b then o else None) ≡ Some a →
    (b ≡ true) × (o ≡ Some a)
if_some true o a e = (refl, e)
if_some false o a e = absurd (none-some a e)

pub some_same : {A : Type 0} (a b : A) → Some a ≡ Some b → a ≡ b
some_same a b e = cc

pub both_false : {P : Type 0} → (P → ⊥) → (IsTrue false → P) × (P → IsTrue false)
both_false {P} fails = (λ e. absurd (let bad : false ≡ true = e in cc), λ p. absurd (fails p))

-- ---- two lists, place by place

pub zip_same : {X : Type 0} (R : X → X → Type 0) → ((x y : X) → R x y → y ≡ x) → (xs ys : List X) → AllZip R xs ys → ys ≡ xs
zip_same R each [] [] h = refl
zip_same R each [] (y ∷ ys) h = absurd h
zip_same R each (x ∷ xs) [] h = absurd h
zip_same R each (x ∷ xs) (y ∷ ys) h =
    ap (λ z. z ∷ ys) (each x y h.0) ∙ ap (λ zs. x ∷ zs) (zip_same R each xs ys h.1)

pub zip_map : {A B : Type 0} (R : A → A → Type 0) (f : A → B) → ((x y : A) → R x y → f y ≡ f x) → (xs ys : List A) →
    AllZip R xs ys → map f ys ≡ map f xs
zip_map R f each [] [] h = refl
zip_map R f each [] (y ∷ ys) h = absurd h
zip_map R f each (x ∷ xs) [] h = absurd h
zip_map R f each (x ∷ xs) (y ∷ ys) h =
    ap (λ d. d ∷ map f ys) (each x y h.0) ∙ ap (λ ds. f x ∷ ds) (zip_map R f each xs ys h.1)

-- ---- numbers

pub numbers_many : (first count : ℕ) → length (numbers_from first count) ≡ count
numbers_many first zero = refl
numbers_many first (suc count) = let h = numbers_many (first + 1) count in omega arith
