-- A line that is cut to one byte more than is shown is shown in the same way.
use Rattle.std.proofs.Common.{◌≡◌, ◌∙◌, ◌<◌, ◌≤◌, ◌+◌, ◌-◌, ◌++◌, ℕ, Bool, true, false, List, [], ◌∷◌, zero, suc}
use Rattle.std.proofs.Common.{cond, take, drop, length, min, reverse, refl, sym, ap, arith, ⊎_elim, lt-ltb}
use Rattle.std.proofs.Common.{length-drop}
use Rattle.std.proofs.lemmas.Bool.{cases_lt}
use Rattle.std.proofs.lemmas.List.{take-append-drop, take-append-le, take_all, reverse-append, length-reverse}
use Rattle.std.specs.List.{prefix_len, suffix_len}
use Rattle.std.specs.Prelude.{nat_lt, codes}
use Rattle.explanation.specs.Shown.{is_in_line, dots, SIDE}

prefix_step : (b : Bool) (n a k : ℕ) → a ≡ min n k → cond b (1 + a) 0 ≡ min (suc n) (cond b (1 + k) 0)
prefix_step true n a k e = omega arith
prefix_step false n a k e = omega arith

pub prefix_of_take : (n : ℕ) (xs : List ℕ) → prefix_len is_in_line (take n xs) ≡ min n (prefix_len is_in_line xs)
prefix_of_take zero xs = omega arith
prefix_of_take (suc n) [] = omega arith
prefix_of_take (suc n) (x ∷ xs) = prefix_step (is_in_line x) n _ _ (prefix_of_take n xs)

dots_of_more : (n : ℕ) → SIDE < n → dots n ≡ codes ".."
dots_of_more n lt = let more : nat_lt SIDE n ≡ true = lt-ltb SIDE n lt in rw more refl

-- cutting a count one past what is shown does not change how many dots there are
pub dots_alike : (n k : ℕ) → SIDE < n → dots (min n k) ≡ dots k
dots_alike n k lt =
    ⊎_elim
    (λ (many : n < k).
    let cut : min n k ≡ n = omega arith in
    let over : SIDE < k = omega arith in
    rw (cut, dots_of_more n lt, dots_of_more k over) refl)
    (λ (few : k ≤ n). let whole : min n k ≡ k = omega arith in rw whole refl)
    (cases_lt n k)

-- the last `n` items of a list, read from the end
last_reversed : (n : ℕ) (xs : List ℕ) → reverse (drop (length xs - n) xs) ≡ take n (reverse xs)
last_reversed n xs =
    let k = length xs - n in
    let a = take k xs in
    let b = drop k xs in
    let whole : reverse xs ≡ reverse b ++ reverse a = ap reverse (sym (take-append-drop k xs)) ∙ reverse-append a b in
    let long : length (reverse b) ≡ length xs - k = length-reverse b ∙ length-drop k xs in
    ⊎_elim
    (λ (many : n < length xs).
    sym (ap (take n) whole ∙ take-append-le n (reverse b) (reverse a) (omega (arith, long)) ∙ take_all n (reverse b) (omega (arith, long))))
    (λ (few : length xs ≤ n).
    let none : k ≡ 0 = omega arith in
    ap (λ i. reverse (drop i xs)) none ∙ sym (take_all n (reverse xs) (omega (arith, length-reverse xs))))
    (cases_lt n (length xs))

pub suffix_of_drop : (n : ℕ) (xs : List ℕ) →
    suffix_len is_in_line (drop (length xs - n) xs) ≡ min n (suffix_len is_in_line xs)
suffix_of_drop n xs = ap (prefix_len is_in_line) (last_reversed n xs) ∙ prefix_of_take n (reverse xs)

-- the same for a cut that is no longer than the list
pub suffix_of_last : (n : ℕ) (xs : List ℕ) →
    suffix_len is_in_line (drop (length xs - min (length xs) n) xs) ≡ min n (suffix_len is_in_line xs)
suffix_of_last n xs =
    let same : length xs - min (length xs) n ≡ length xs - n = omega arith in
    ap (λ i. suffix_len is_in_line (drop i xs)) same ∙ suffix_of_drop n xs

-- the number of shown bytes does not depend on the cut
pub shown_alike : (n k : ℕ) → SIDE < n → min SIDE (min n k) ≡ min SIDE k
shown_alike n k more = omega arith
