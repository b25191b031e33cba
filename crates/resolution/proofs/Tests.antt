-- The results of tests of numbers, and of two tests together.
use Rattle.std.proofs.Common.{◌≡◌, ℕ, ◌<◌, ◌≤◌, Bool, true, false, arith}
use Rattle.std.specs.Prelude.{nat_le, nat_lt, ◌&&◌}
use Rattle.std.proofs.lemmas.Bool.Decides.{nat_tests}

pub lt_true : (n k : ℕ) → n < k → nat_lt n k ≡ true
lt_true n k l = grind (arith, nat_tests)

pub le_true : (n k : ℕ) → n ≤ k → nat_le n k ≡ true
le_true n k l = grind (arith, nat_tests)

pub lt_false : (n k : ℕ) → nat_lt n k ≡ false → k ≤ n
lt_false n k e = grind (arith, nat_tests)

pub le_false : (n k : ℕ) → nat_le n k ≡ false → k < n
le_false n k e = grind (arith, nat_tests)

pub lt_of : (n k : ℕ) → nat_lt n k ≡ true → n < k
lt_of n k e = grind (arith, nat_tests)

pub le_of : (n k : ℕ) → nat_le n k ≡ true → n ≤ k
le_of n k e = grind (arith, nat_tests)

pub both_true : (a b : Bool) → a ≡ true → b ≡ true → (a && b) ≡ true
both_true true b e h = h
both_true false b e h = cc

pub and_false : (a b : Bool) → a ≡ true → (a && b) ≡ false → b ≡ false
and_false true b e h = h
and_false false b e h = cc
