-- Facts about each item of a list and its number, counted from a first one.
use Rattle.std.proofs.Common.{◌≡◌, ℕ, zero, suc, ◌+◌, List, [], ◌∷◌, ◌++◌, length, Some, subst, arith}
use Rattle.std.specs.Prelude.{slice_get}
use Rattle.std.proofs.lemmas.Option.{none-some}

module _ {X : Type 0} (P : ℕ → X → Type 0) where
  abbrev pub EachAt : ℕ → List X → Type 0
  EachAt n [] = Unit {0}
  EachAt n (x ∷ xs) = P n x × EachAt (n + 1) xs

  pub each_at_append : (n : ℕ) (xs ys : List X) → EachAt n xs → EachAt (n + length xs) ys → EachAt n (xs ++ ys)
  each_at_append n [] ys h k = let e : n + 0 ≡ n = omega arith in subst (λ i. EachAt i ys) e k
  each_at_append n (x ∷ xs) ys h k =
      let e : n + length (x ∷ xs) ≡ n + 1 + length xs = omega arith in
      (h.0, each_at_append (n + 1) xs ys h.1 (subst (λ i. EachAt i ys) e k))

  pub each_at_there : (n : ℕ) (xs : List X) (i : ℕ) (x : X) → EachAt n xs → slice_get xs i ≡ Some x → P (n + i) x
  each_at_there n [] i x h e = absurd (none-some x e)
  each_at_there n (y ∷ xs) zero x h e =
      let same : y ≡ x = cc in
      let z : n ≡ n + 0 = omega arith in
      subst (λ i. P i x) z (subst (P n) same h.0)
  each_at_there n (y ∷ xs) (suc i) x h e =
      let z : n + 1 + i ≡ n + suc i = omega arith in
      subst (λ i. P i x) z (each_at_there (n + 1) xs i x h.1 e)
