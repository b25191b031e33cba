-- Lists that a loop visits.
use Rattle.std.proofs.Common.{◌≡◌, ◌≢◌, ℕ, zero, suc, ◌+◌, ◌<◌, ◌≤◌, Bool, true, false, List, [], ◌∷◌, ◌++◌, length}
use Rattle.std.proofs.Common.{◌-◌, drop, take, get_or, map, set, Some, refl, sym, ap, ◌∙◌, subst, arith, IsTrue, inl, inr}
use Rattle.std.specs.Prelude.{slice_get, not}
use Rattle.std.specs.List.{All, Contains}
use Rattle.std.proofs.lemmas.List.{take_all, take_more, map_push, drop_more}
use Rattle.std.proofs.lemmas.List.Elements.{All-more, Contains-append_left, Contains-push}
use Rattle.std.proofs.lemmas.Option.{slice_get_within, slice_get-get_or, get_or_from_slice_get}
use Rattle.core_lang.specs.Theory.Items.{contains_at, map_at, some_same, all_contained, all_from, push_cases, read_at}
use Rattle.core_lang.specs.Theory.Items.{both_false}

-- ---- tests of all

pub never_both : {P : Type 0} {b : Bool} → b ≡ true → b ≡ false → P
never_both t f = absurd (let bad : true ≡ false = sym t ∙ f in cc)

pub not_false : (b : Bool) → not b ≡ false → b ≡ true
not_false true e = refl
not_false false e = absurd cc

pub all_fails : {X : Type 0} (P : X → Type 0) (xs : List X) (i : ℕ) (d : X) → i < length xs → (P (get_or xs i d) → ⊥) →
    (IsTrue false → All P xs) × (All P xs → IsTrue false)
all_fails P xs i d lt fails = (λ e. absurd (let bad : false ≡ true = e in cc), λ all. absurd (fails (all i d lt)))

pub all_whole : {X : Type 0} (P : X → Type 0) (xs : List X) (i : ℕ) → All P (take i xs) → length xs ≤ i →
    (IsTrue true → All P xs) × (All P xs → IsTrue true)
all_whole P xs i all le = (λ e. subst (All P) (take_all i xs le) all, λ a. refl)

pub item_fails : {X : Type 0} (P : X → Type 0) (xs : List X) (i : ℕ) (x : X) → i < length xs → x ≡ get_or xs i x →
    (P x → ⊥) →
    (IsTrue false → All P xs) × (All P xs → IsTrue false)
item_fails P xs i x lt is fails = all_fails P xs i x lt (λ p. fails (subst P (sym is) p))

pub item_more : {X : Type 0} (P : X → Type 0) (xs : List X) (i : ℕ) (x : X) → i < length xs → x ≡ get_or xs i x →
    All P (take i xs) → P x →
    All P (take (i + 1) xs)
item_more P xs i x lt is all p = All-more P xs i x lt all (subst P is p)

pub item_at : {X : Type 0} (P : X → Type 0) (xs : List X) (i : ℕ) (x : X) → i < length xs → x ≡ get_or xs i x →
    All P xs → P x
item_at P xs i x lt is all = subst P (sym is) (all i x lt)

-- ---- the items of lists

pub one_more_taken : {X : Type 0} (xs : List X) (k : ℕ) (x : X) (ys more : List X) → slice_get xs k ≡ Some x →
    ys ≡ take k xs → more ≡ ys ++ x ∷ [] → more ≡ take (k + 1) xs
one_more_taken xs k x ys more at so_far next =
    next ∙ ap (λ zs. zs ++ x ∷ []) so_far ∙ ap (λ y. take k xs ++ y ∷ []) (sym (get_or_from_slice_get xs k x x at)) ∙ sym (take_more xs k x (slice_get_within xs k x at))

-- ---- writes

pub set_set : {X : Type 0} (xs : List X) (i : ℕ) (x y : X) → set (set xs i x) i y ≡ set xs i y
set_set [] i x y = refl
set_set (z ∷ xs) zero x y = refl
set_set (z ∷ xs) (suc i) x y = ap (λ zs. z ∷ zs) (set_set xs i x y)

pub all_front : {X : Type 0} (P : X → Type 0) (xs ys : List X) → All P (xs ++ ys) → All P xs
all_front P xs ys all = all_from P xs (λ x c. all_contained P (xs ++ ys) x all (Contains-append_left xs ys x c))

pub all_last : {X : Type 0} (P : X → Type 0) (xs : List X) (x : X) → All P (xs ++ x ∷ []) → P x
all_last P xs x all = all_contained P (xs ++ x ∷ []) x all (Contains-push xs x)

-- ---- the first, or a later one

pub first : {X : Type 0} (y : X) (ys : List X) (x : X) → y ≡ x → Contains (y ∷ ys) x
first y ys x e = (0, omega arith, e)

pub one_place : {X : Type 0} (xs : List X) (i : ℕ) (x y : X) → slice_get xs i ≡ Some x → slice_get xs i ≡ Some y → x ≡ y
one_place xs i x y a b = some_same x y (sym a ∙ b)

-- ---- a search

pub is_among : {X : Type 0} (xs : List X) (i : ℕ) (x d : X) → i < length xs → get_or xs i d ≡ x →
    (IsTrue true → Contains xs x) × (Contains xs x → IsTrue true)
is_among xs i x d lt e = (λ t. contains_at xs i x (slice_get-get_or xs i d lt ∙ ap Some e), λ c. refl)

pub not_among_more : {X : Type 0} (xs : List X) (i : ℕ) (x d : X) → i < length xs → (Contains (take i xs) x → ⊥) →
    get_or xs i d ≢ x → Contains (take (i + 1) xs) x → ⊥
not_among_more xs i x d lt none ne c = elim (push_cases (take i xs) (get_or xs i d) x (subst (λ ys. Contains ys x) (take_more xs i d lt) c)) [ inl h ↦ none h | inr e ↦ ne e ]

pub not_among : {X : Type 0} (xs : List X) (i : ℕ) (x : X) → (Contains (take i xs) x → ⊥) → length xs ≤ i →
    (IsTrue false → Contains xs x) × (Contains xs x → IsTrue false)
not_among xs i x none le = both_false (λ c. none (subst (λ ys. Contains ys x) (sym (take_all i xs le)) c))

pub is_mapped : {X Y : Type 0} (f : X → Y) (xs : List X) (i : ℕ) (x : X) (y : Y) → i < length xs → x ≡ get_or xs i x →
    f x ≡ y →
    (IsTrue true → Contains (map f xs) y) × (Contains (map f xs) y → IsTrue true)
is_mapped f xs i x y lt is e = (λ t. contains_at (map f xs) i y (map_at f xs i x (read_at xs i x lt is) ∙ ap Some e), λ c. refl)

pub not_mapped_more : {X Y : Type 0} (f : X → Y) (xs : List X) (i : ℕ) (x : X) (y : Y) → i < length xs →
    x ≡ get_or xs i x → (Contains (map f (take i xs)) y → ⊥) → f x ≢ y →
    Contains (map f (take (i + 1) xs)) y → ⊥
not_mapped_more f xs i x y lt is none ne c =
    elim (push_cases (map f (take i xs)) (f (get_or xs i x)) y (subst (λ ys. Contains ys y) (ap (map f) (take_more xs i x lt) ∙ map_push f (take i xs) (get_or xs i x)) c)) [
      | inl h ↦ none h
      | inr e ↦ ne (ap f is ∙ e)
    ]

pub not_mapped : {X Y : Type 0} (f : X → Y) (xs : List X) (i : ℕ) (y : Y) → (Contains (map f (take i xs)) y → ⊥) →
    length xs ≤ i →
    (IsTrue false → Contains (map f xs) y) × (Contains (map f xs) y → IsTrue false)
not_mapped f xs i y none le = both_false (λ c. none (subst (λ ys. Contains (map f ys) y) (sym (take_all i xs le)) c))

-- ---- bounds

pub same_bound : (a b : ℕ) → a ≤ b → b ≤ a → a ≡ b
same_bound a b le ge = omega (arith, le, ge)

pub below_bound : (a b c : ℕ) → a < b → b ≤ c → a < c
below_bound a b c lt le = omega (arith, lt, le)

-- ---- lists that are compared from their ends

pub drop_less_same : {X : Type 0} (xs ys : List X) (left : ℕ) (d : X) → 0 < left → left ≤ length xs →
    length xs ≡ length ys → get_or xs (left - 1) d ≡ get_or ys (left - 1) d → drop left xs ≡ drop left ys →
    drop (left - 1) xs ≡ drop (left - 1) ys
drop_less_same {X = X} xs ys left d some le long same so_far =
    let e : left ≡ (left - 1) + 1 = omega (arith, some) in
    drop_more xs (left - 1) d (omega (arith, some, le))
    ∙ ap (λ (x : X). x ∷ drop ((left - 1) + 1) xs) same
    ∙ ap (λ (zs : List X). get_or ys (left - 1) d ∷ zs) (subst (λ (n : ℕ). drop n xs ≡ drop n ys) e so_far)
    ∙ sym (drop_more ys (left - 1) d (omega (arith, some, le, long)))
