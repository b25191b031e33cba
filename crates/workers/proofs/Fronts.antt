-- Prefixes of one list.
use Rattle.std.proofs.Common.{◌≡◌, ◌≤◌, ◌<◌, ℕ, Bool, true, false, List, [], ◌∷◌, length, MatchBool, refl, ap, sym, arith, length-append}
use Rattle.std.proofs.lemmas.Bool.Decides.{nat_tests}
use lib.Dec.{leb}
use mathlib.Core.List.{IsPrefix}
use Rattle.workers.specs.Logs.{Begins}

begins_by : {X : Type 0} (xs ys : List X) → IsPrefix xs ys → Begins xs ys
begins_by xs ys p = record { rest = p.0; is = sym p.1 }

-- the shorter of two prefixes of one list is a prefix of the longer
prefix_shorter : {X : Type 0} (xs ys zs : List X) → IsPrefix xs zs → IsPrefix ys zs → length xs ≤ length ys → IsPrefix xs ys
prefix_shorter [] ys zs p q le = (ys, refl)
prefix_shorter (x ∷ xs) [] zs p q le = absurd (omega arith)
prefix_shorter (x ∷ xs) (y ∷ ys) [] p q le = absurd (cc (p.1))
prefix_shorter (x ∷ xs) (y ∷ ys) (z ∷ zs) p q le =
    let heads : x ≡ y = cc (p.1, q.1) in
    let rest = prefix_shorter xs ys zs (p.0, cc (p.1)) (q.0, cc (q.1)) (omega arith) in
    (rest.0, cc (heads, rest.1))

-- a prefix as long as the list is the list
pub prefix_whole : {X : Type 0} (xs ys : List X) → IsPrefix xs ys → length ys ≤ length xs → xs ≡ ys
prefix_whole [] [] p le = refl
prefix_whole [] (y ∷ ys) p le = absurd (omega arith)
prefix_whole (x ∷ xs) [] p le = absurd (cc (p.1))
prefix_whole (x ∷ xs) (y ∷ ys) p le = let rest = prefix_whole xs ys (p.0, cc (p.1)) (omega arith) in cc (p.1, rest)

-- of two prefixes of one list, one is a prefix of the other
one_begins_at : {X : Type 0} (xs ys zs : List X) (a b : ℕ) → a ≡ length xs → b ≡ length ys → IsPrefix xs zs → IsPrefix ys zs
    → (t : Bool) → leb a b ≡ t → MatchBool t (Begins xs ys) (Begins ys xs)
one_begins_at xs ys zs a b one other p q true is =
    let le : a ≤ b = grind (arith, nat_tests) in begins_by xs ys (prefix_shorter xs ys zs p q (omega arith))
one_begins_at xs ys zs a b one other p q false is =
    let lt : b < a = grind (arith, nat_tests) in begins_by ys xs (prefix_shorter ys xs zs q p (omega arith))

pub one_begins : {X : Type 0} (xs ys zs : List X) (a b : ℕ) → a ≡ length xs → b ≡ length ys → IsPrefix xs zs → IsPrefix ys zs
    → MatchBool (leb a b) (Begins xs ys) (Begins ys xs)
one_begins xs ys zs a b one other p q = one_begins_at xs ys zs a b one other p q (leb a b) refl

pub first_begins : {X : Type 0} (xs ys zs : List X) (a b : ℕ) → a ≡ length xs → b ≡ length ys → IsPrefix xs zs → IsPrefix ys zs
    → leb a b ≡ true → Begins xs ys
first_begins xs ys zs a b one other p q is = one_begins_at xs ys zs a b one other p q true is

pub no_longer : {X : Type 0} (xs ys : List X) (a b : ℕ) → a ≡ length xs → b ≡ length ys → Begins xs ys → leb a b ≡ true
no_longer xs ys a b one other s =
    let le : a ≤ b = omega (arith, ap length s.is, length-append xs s.rest) in grind (arith, nat_tests)
