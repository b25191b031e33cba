use Rattle.std.proofs.Common.{◌≡◌, ◌<◌, ◌≤◌, ◌++◌, ℕ, List, take, length, min, refl, ap₂, arith}
use Rattle.std.proofs.lemmas.List.{take-take}
use Rattle.std.specs.List.{flat_map, prefix_len}
use Rattle.explanation.specs.Shown.{is_in_line, shown_byte, shown_after, SIDE}
use Rattle.explanation.proofs.Cuts.{prefix_of_take, dots_alike}
use Rattle.explanation.proofs.laws.shown_by_first_bytes.Goals as goal

first_shown : (n k : ℕ) (xs : List ℕ) → SIDE < n → take (min SIDE (min n k)) (take n xs) ≡ take (min SIDE k) xs
first_shown n k xs lt =
    let same : min SIDE (min n k) ≡ min SIDE k = omega arith in
    let within : min SIDE k ≤ n = omega arith in
    rw same (take-take (min SIDE k) n xs within)

after_alike : (n : ℕ) (xs : List ℕ) → SIDE < n → shown_after (take n xs) 0 ≡ shown_after xs 0
after_alike n xs lt =
    let k = prefix_len is_in_line xs in
    rw (prefix_of_take n xs)
    (ap₂ (λ (shown more : List ℕ). flat_map shown_byte shown ++ more) (first_shown n k xs lt) (dots_alike n k lt))

zero_first : (n : ℕ) → min 0 n ≡ 0
zero_first n = grind arith

pub returns : goal.returns
returns c count text lt = rw (zero_first (length text), zero_first (length (take count text)), after_alike count text lt) refl
