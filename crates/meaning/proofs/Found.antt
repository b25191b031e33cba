-- The item at an index of a list.
use Rattle.std.proofs.Common.{◌≡◌, ℕ, ◌<◌, ◌≤◌, true, false, arith}
use Rattle.std.proofs.lemmas.Bool.{false≢true}

-- a place that is not found lies after the end
pub lies_past : (long n place : ℕ) → n ≡ long → (place < n → false ≡ true) → long ≤ place
lies_past long n place is within =
    let none : place < n → ⊥ = λ lt. false≢true (within lt) in
    omega (arith, is, none)
