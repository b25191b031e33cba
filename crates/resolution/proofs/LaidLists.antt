-- Lists that match each other, and lists that grow.
use Rattle.std.proofs.Common.{◌≡◌, ℕ, zero, suc, ◌+◌, ◌≤◌, List, [], ◌∷◌, ◌++◌, length, Option, Some, None, Bool, true}
use Rattle.std.proofs.Common.{false, if◌then◌else◌, refl, ap, subst, arith}
use Rattle.std.specs.Prelude.{slice_get, take, ⊤, nat_le}
use Rattle.resolution.specs.Limits.{up_to}
use Rattle.resolution.specs.Scopes.{◌>>=◌, count}
use Rattle.resolution.proofs.Tests.{le_of}

-- ---- rows: each of one list with the one at its place in another

abbrev pub Rows : {A B : Type 0} → (ℕ → A → B → Type 0) → ℕ → List A → List B → Type 0
Rows R n [] [] = ⊤
Rows R n [] (y ∷ ys) = ⊥
Rows R n (x ∷ xs) [] = ⊥
Rows R n (x ∷ xs) (y ∷ ys) = R n x y × Rows R (suc n) xs ys

pub rows_left : {A B : Type 0} (R : ℕ → A → B → Type 0) (n : ℕ) (xs : List A) (ys : List B) → Rows R n xs ys →
    (k : ℕ) (x : A) → slice_get xs k ≡ Some x → (y : B) × (slice_get ys k ≡ Some y) × R (n + k) x y
rows_left R n [] ys h k x e = cc
rows_left R n (a ∷ xs) [] h k x e = absurd h
rows_left {A = A} R n (a ∷ xs) (b ∷ ys) h zero x e =
    let same : a ≡ x = cc in
    (b, refl, subst (λ (z : A). R (n + 0) z b) same (subst (λ (j : ℕ). R j a b) (let z : n ≡ n + 0 = omega arith in z) h.0))
rows_left R n (a ∷ xs) (b ∷ ys) h (suc k) x e =
    let r = rows_left R (suc n) xs ys h.1 k x e in
    (r.0, r.1, subst (λ (j : ℕ). R j x r.0) (let z : suc n + k ≡ n + suc k = omega arith in z) r.2)

pub rows_right : {A B : Type 0} (R : ℕ → A → B → Type 0) (n : ℕ) (xs : List A) (ys : List B) → Rows R n xs ys →
    (k : ℕ) (y : B) → slice_get ys k ≡ Some y → (x : A) × (slice_get xs k ≡ Some x) × R (n + k) x y
rows_right R n xs [] h k y e = cc
rows_right R n [] (b ∷ ys) h k y e = absurd h
rows_right {B = B} R n (a ∷ xs) (b ∷ ys) h zero y e =
    let same : b ≡ y = cc in
    (a, refl, subst (λ (z : B). R (n + 0) a z) same (subst (λ (j : ℕ). R j a b) (let z : n ≡ n + 0 = omega arith in z) h.0))
rows_right R n (a ∷ xs) (b ∷ ys) h (suc k) y e =
    let r = rows_right R (suc n) xs ys h.1 k y e in
    (r.0, r.1, subst (λ (j : ℕ). R j r.0 y) (let z : suc n + k ≡ n + suc k = omega arith in z) r.2)

-- of rows from the first on
pub row_left : {A B : Type 0} (R : ℕ → A → B → Type 0) (xs : List A) (ys : List B) → Rows R 0 xs ys → (k : ℕ) (x : A) →
    slice_get xs k ≡ Some x → (y : B) × (slice_get ys k ≡ Some y) × R k x y
row_left R xs ys h k x e =
    let r = rows_left R 0 xs ys h k x e in
    (r.0, r.1, subst (λ (j : ℕ). R j x r.0) (let z : 0 + k ≡ k = omega arith in z) r.2)

pub row_right : {A B : Type 0} (R : ℕ → A → B → Type 0) (xs : List A) (ys : List B) → Rows R 0 xs ys → (k : ℕ) (y : B) →
    slice_get ys k ≡ Some y → (x : A) × (slice_get xs k ≡ Some x) × R k x y
row_right R xs ys h k y e =
    let r = rows_right R 0 xs ys h k y e in
    (r.0, r.1, subst (λ (j : ℕ). R j r.0 y) (let z : 0 + k ≡ k = omega arith in z) r.2)

pub rows_length : {A B : Type 0} (R : ℕ → A → B → Type 0) (n : ℕ) (xs : List A) (ys : List B) → Rows R n xs ys →
    length ys ≡ length xs
rows_length R n [] [] h = refl
rows_length R n [] (y ∷ ys) h = absurd h
rows_length R n (x ∷ xs) [] h = absurd h
rows_length R n (x ∷ xs) (y ∷ ys) h = ap suc (rows_length R (suc n) xs ys h.1)

-- rows after rows
pub rows_append : {A B : Type 0} (R : ℕ → A → B → Type 0) (n : ℕ) (xs : List A) (ys : List B) (us : List A)
    (vs : List B) → Rows R n xs ys → Rows R (n + length ys) us vs → Rows R n (xs ++ us) (ys ++ vs)
rows_append R n [] [] us vs h r = subst (λ (j : ℕ). Rows R j us vs) (let z : n + 0 ≡ n = omega arith in z) r
rows_append R n [] (y ∷ ys) us vs h r = absurd h
rows_append R n (x ∷ xs) [] us vs h r = absurd h
rows_append R n (x ∷ xs) (y ∷ ys) us vs h r =
    let z : n + suc (length ys) ≡ suc n + length ys = omega arith in
    (h.0, rows_append R (suc n) xs ys us vs h.1 (subst (λ (j : ℕ). Rows R j us vs) z r))

-- ---- lists that grow

abbrev pub Grows : {A : Type 0} → List A → List A → Type 0
Grows {A} xs ys = (k : ℕ) (x : A) → slice_get xs k ≡ Some x → slice_get ys k ≡ Some x

pub grows_more : {A : Type 0} (xs ys : List A) → Grows xs (xs ++ ys)
grows_more [] ys k x e = cc
grows_more (a ∷ xs) ys zero x e = e
grows_more (a ∷ xs) ys (suc k) x e = grows_more xs ys k x e

-- an item of the second list
pub get_behind : {A : Type 0} (xs ys : List A) (k : ℕ) (y : A) → slice_get ys k ≡ Some y →
    slice_get (xs ++ ys) (length xs + k) ≡ Some y
get_behind [] ys k y e = subst (λ (j : ℕ). slice_get ys j ≡ Some y) (let z : k ≡ 0 + k = omega arith in z) e
get_behind (x ∷ xs) ys k y e = subst (λ (j : ℕ). slice_get (x ∷ xs ++ ys) j ≡ Some y) (let z : suc (length xs + k) ≡ suc (length xs) + k = omega arith in z) (get_behind xs ys k y e)

-- an item of the second of two joined lists, by its place in the whole
pub record Behind {A : Type 0} (xs ys : List A) (n : ℕ) (y : A) : Type 0 where
  pub by : ℕ
  pub place : n ≡ length xs + by
  pub here : slice_get ys by ≡ Some y

pub get_parts : {A : Type 0} (xs ys : List A) (n : ℕ) (y : A) (C : Type 0) → slice_get (xs ++ ys) n ≡ Some y →
    (slice_get xs n ≡ Some y → C) → (Behind xs ys n y → C) → C
get_parts [] ys n y C e f g = g (record { by = n; place = omega arith; here = e })
get_parts (x ∷ xs) ys zero y C e f g = f e
get_parts (x ∷ xs) ys (suc n) y C e f g = get_parts xs ys n y C e f (λ b. g (record { by = b.by; place = (let p = b.place in omega (arith, p)); here = b.here }))

-- one more
pub get_pushed : {A : Type 0} (xs : List A) (x : A) (n : ℕ) (y : A) (C : Type 0) →
    slice_get (xs ++ x ∷ []) n ≡ Some y → (slice_get xs n ≡ Some y → C) → (n ≡ length xs → x ≡ y → C) → C
get_pushed [] x zero y C e f g = g refl cc
get_pushed [] x (suc n) y C e f g = cc
get_pushed (z ∷ xs) x zero y C e f g = f e
get_pushed (z ∷ xs) x (suc n) y C e f g = get_pushed xs x n y C e f (λ p s. g (ap suc p) s)

-- none has no row
pub no_row : {A : Type 0} {P : Type 0} (k : ℕ) (x : A) → slice_get [] k ≡ Some x → P
no_row k x e = cc

-- a property of the only item holds for each
pub only : {A : Type 0} (F : ℕ → A → Type 0) (n : ℕ) (x : A) → F n x → (k : ℕ) (y : A) → slice_get (x ∷ []) k ≡ Some y →
    F (n + k) y
only F n x h zero y e =
    let same : x ≡ y = cc in
    let place : n ≡ n + 0 = omega arith in
    subst (F (n + 0)) same (subst (λ (m : ℕ). F m x) place h)
only F n x h (suc k) y e = cc

pub take_front : {A : Type 0} (xs ys : List A) → take (length xs) (xs ++ ys) ≡ xs
take_front [] ys = refl
take_front {A = A} (x ∷ xs) ys = ap (λ (zs : List A). x ∷ zs) (take_front xs ys)

abbrev pub as_one : Bool → ℕ
as_one true = 1
as_one false = 0

pub count_push : {A : Type 0} (p : A → Bool) (xs : List A) (x : A) → count p (xs ++ x ∷ []) ≡ count p xs + as_one (p x)
count_push p [] x = by_test (p x)
  where
    by_test : (b : Bool) → (if b then 1 else 0) ≡ 0 + as_one b
    by_test true = omega arith
    by_test false = omega arith
count_push p (y ∷ xs) x = by_test (p y) (count_push p xs x)
  where
    by_test : (b : Bool) → count p (xs ++ x ∷ []) ≡ count p xs + as_one (p x) →
        (if b then suc (count p (xs ++ x ∷ [])) else count p (xs ++ x ∷ [])) ≡ (if b then suc (count p xs) else count p xs) + as_one (p x)
    by_test true e = omega (arith, e)
    by_test false e = e

-- ---- options with values

pub bind_got : {A B : Type 0} (o : Option A) (f : A → Option B) (y : B) → (o >>= f) ≡ Some y →
    (x : A) × (o ≡ Some x) × (f x ≡ Some y)
bind_got (Some x) f y e = (x, refl, e)
bind_got None f y e = cc

up_if : (limit n k : ℕ) (b : Bool) → nat_le n limit ≡ b → (if b then Some n else None) ≡ Some k → (n ≡ k) × (n ≤ limit)
up_if limit n k true t e = (cc, le_of n limit t)
up_if limit n k false t e = cc

pub up_got : (limit n k : ℕ) → up_to limit n ≡ Some k → (n ≡ k) × (n ≤ limit)
up_got limit n k e = up_if limit n k (nat_le n limit) refl e
