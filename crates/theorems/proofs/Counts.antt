-- How many calls are done, and how many there are.
use Rattle.std.proofs.Common.{◌≡◌, ℕ, ◌<◌, zero, suc, List, [], ◌∷◌, length, get_or, slice_get, Some, refl, arith}
use Rattle.core_lang.specs.declared.typed.Thread.{Thread}
use Rattle.outcomes.specs.Theory.Done.{sums, lengths}

-- the same at each place
pub same_at : (xs ys : List ℕ) → length xs ≡ length ys → ((k : ℕ) → k < length xs → get_or xs k 0 ≡ get_or ys k 0) →
    sums xs ≡ sums ys
same_at [] [] long same = refl
same_at [] (y ∷ ys) long same = cc
same_at (x ∷ xs) [] long same = cc
same_at (x ∷ xs) (y ∷ ys) long same =
    let rest : sums xs ≡ sums ys = same_at xs ys (omega arith) (λ k within. same (suc k) (omega arith)) in
    let first : x ≡ y = same 0 (omega arith) in
    omega (arith, rest, first)

pub length_at : (ts : List Thread) (k : ℕ) (thread : Thread) → slice_get ts k ≡ Some thread →
    get_or (lengths ts) k 0 ≡ length thread.calls.items
length_at [] k thread there = cc
length_at (t ∷ ts) zero thread there = cc
length_at (t ∷ ts) (suc k) thread there = length_at ts k thread there
