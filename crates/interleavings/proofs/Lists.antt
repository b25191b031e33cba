-- Lists, place by place.
use Rattle.std.proofs.Common.{◌≡◌, ℕ, suc, List, [], ◌∷◌, refl, sym, arith}
use Rattle.std.specs.Prelude.{slice_get}
use Rattle.std.specs.List.{Contains}
use Rattle.std.proofs.lemmas.Option.{none-some}
use Rattle.core_lang.specs.Theory.Items.{some_same}

-- ---- the items at the indices

pub first : {X : Type 0} (y : X) (ys : List X) (x : X) → y ≡ x → Contains (y ∷ ys) x
first y ys x e = (0, omega arith, e)

-- ---- lists with equal items

cons_none : {X : Type 0} {P : Type 0} (x : X) (xs : List X) → ((i : ℕ) → slice_get [] i ≡ slice_get (x ∷ xs) i) → P
cons_none x xs f = absurd (none-some x (f 0))

pub same_everywhere : {X : Type 0} (xs ys : List X) → ((i : ℕ) → slice_get xs i ≡ slice_get ys i) → xs ≡ ys
same_everywhere [] [] f = refl
same_everywhere [] (y ∷ ys) f = cons_none y ys f
same_everywhere (x ∷ xs) [] f = cons_none x xs (λ i. sym (f i))
same_everywhere (x ∷ xs) (y ∷ ys) f =
    let head : x ≡ y = some_same x y (f 0) in
    let tail : xs ≡ ys = same_everywhere xs ys (λ i. f (suc i)) in
    λ i. head i ∷ tail i
