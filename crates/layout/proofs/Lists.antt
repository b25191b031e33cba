-- Lists, and their items.
use Rattle.std.proofs.Common.{◌≡◌, ℕ, zero, suc, ◌≤◌, List, [], ◌∷◌, ◌++◌, take, length, map, Some, refl, ap, ◌∙◌}
use Rattle.std.proofs.Common.{arith}
use Rattle.std.specs.Prelude.{slice_get}
use Rattle.std.specs.List.{AllZip}
use Rattle.std.proofs.lemmas.Option.{none-some}
use Rattle.std.proofs.lemmas.Slice.Zip.{AllZip-map}

-- ---- writes, and one more item

pub take_one_more : {X : Type 0} (xs : List X) (k : ℕ) (x : X) → slice_get xs k ≡ Some x →
    take (suc k) xs ≡ take k xs ++ x ∷ []
take_one_more [] k x e = absurd (none-some x e)
take_one_more (z ∷ xs) zero x e = let same : z ≡ x = cc in ap (λ y. y ∷ []) same
take_one_more (z ∷ xs) (suc k) x e = ap (λ ys. z ∷ ys) (take_one_more xs k x e)

pub taken_whole : {X : Type 0} (xs : List X) (n : ℕ) → length xs ≤ n → take n xs ≡ xs
taken_whole [] zero le = refl
taken_whole [] (suc n) le = refl
taken_whole (x ∷ xs) zero le = absurd (omega arith)
taken_whole (x ∷ xs) (suc n) le = ap (λ ys. x ∷ ys) (taken_whole xs n (omega arith))

map_same : {X : Type 0} (xs : List X) → map (λ x. x) xs ≡ xs
map_same [] = refl
map_same (x ∷ xs) = ap (λ ys. x ∷ ys) (map_same xs)

pub same_items : (xs ys : List ℕ) → AllZip (λ x y. y ≡ x) xs ys → ys ≡ xs
same_items xs ys z = AllZip-map (λ x. x) xs ys z ∙ map_same xs
