-- A place past the text's end is on the line of its end.
use Rattle.std.proofs.Common.{◌≡◌, ◌<◌, ◌≤◌, ℕ, List, take, length, min, refl, sym, ◌∙◌, arith, ⊎_elim}
use Rattle.std.proofs.lemmas.Bool.{cases_lt}
use Rattle.std.proofs.lemmas.List.{take_all}

pub take_within : (n : ℕ) (xs : List ℕ) → take (min n (length xs)) xs ≡ take n xs
take_within n xs =
    ⊎_elim
    (λ (short : length xs < n).
    let least : min n (length xs) ≡ length xs = omega arith in
    rw least (take_all (length xs) xs (omega arith) ∙ sym (take_all n xs (omega arith))))
    (λ (within : n ≤ length xs). let least : min n (length xs) ≡ n = omega arith in rw least refl)
    (cases_lt (length xs) n)
