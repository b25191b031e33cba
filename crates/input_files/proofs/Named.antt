-- The first item of a list that passes a test, found from the front on.
use Rattle.std.proofs.Common.{◌≡◌, ◌<◌, ◌+◌, ℕ, suc, Bool, true, false, not, List, ◌∷◌, length, drop, get_or, sym, ap, ◌∙◌, arith, cond, drop-cons}
use Rattle.std.proofs.lemmas.List.{drop_all}
use Rattle.std.specs.List.{position_or_len}

module _ {X : Type 0} (p : X → Bool) where
  first_of : (x : X) (xs : List X) → p x ≡ true → position_or_len p (x ∷ xs) ≡ 0
  first_of x xs is = ap (λ b. cond (not b) (1 + position_or_len p xs) 0) is

  later_than : (x : X) (xs : List X) → p x ≡ false → position_or_len p (x ∷ xs) ≡ 1 + position_or_len p xs
  later_than x xs is = ap (λ b. cond (not b) (1 + position_or_len p xs) 0) is

  parted : (xs : List X) (i : ℕ) (x : X) → i < length xs → x ≡ get_or xs i x → drop i xs ≡ x ∷ drop (i + 1) xs
  parted xs i x low is =
      let next : suc i ≡ i + 1 = omega arith in
      drop-cons xs i x low ∙ ap (λ (y : X). y ∷ drop (suc i) xs) (sym is) ∙ ap (λ n. x ∷ drop n xs) next

  -- the item at this place is the first that passes
  pub found_here : (xs : List X) (i : ℕ) (x : X) → i < length xs → x ≡ get_or xs i x → p x ≡ true →
      i + position_or_len p (drop i xs) ≡ position_or_len p xs → i ≡ position_or_len p xs
  found_here xs i x low is passes so_far =
      let none : position_or_len p (drop i xs) ≡ 0 = ap (position_or_len p) (parted xs i x low is) ∙ first_of x (drop (i + 1) xs) passes in
      omega (arith, none, so_far)

  -- the first item that passes comes after this place
  pub looked_on : (xs : List X) (i : ℕ) (x : X) → i < length xs → x ≡ get_or xs i x → p x ≡ false →
      i + position_or_len p (drop i xs) ≡ position_or_len p xs →
      i + 1 + position_or_len p (drop (i + 1) xs) ≡ position_or_len p xs
  looked_on xs i x low is fails so_far =
      let one : position_or_len p (drop i xs) ≡ 1 + position_or_len p (drop (i + 1) xs) =
      ap (position_or_len p) (parted xs i x low is) ∙ later_than x (drop (i + 1) xs) fails in
      omega (arith, one, so_far)

  -- no item passes
  pub found_nowhere : (xs : List X) (i : ℕ) → i ≡ length xs → i + position_or_len p (drop i xs) ≡ position_or_len p xs →
      i ≡ position_or_len p xs
  found_nowhere xs i whole so_far =
      let none : position_or_len p (drop i xs) ≡ 0 = ap (position_or_len p) (drop_all i xs (omega (arith, whole))) in
      omega (arith, none, so_far)
