-- The place at which a fault is inserted, and the faults that are kept then.
use Rattle.std.proofs.Common.{◌≡◌, ℕ, suc, zero, ◌+◌, ◌≤◌, arith, List, [], ◌∷◌, ◌++◌, length, take, drop, Option, Some, None, Bool, true, false, refl, sym, ap, ◌∙◌}
use Rattle.std.proofs.Common.{if◌then◌else◌}
use Rattle.std.proofs.Common.{◌<◌, nat_lt, ◌||◌}
use Rattle.std.proofs.lemmas.Bool.Decides.{nat_tests}
use Rattle.std.proofs.lemmas.List.{take_all}
use Rattle.std.specs.Prelude.{insert}
use Rattle.core_lang.specs.Theory.Items.{some_same}
use Rattle.resolution.specs.declared.finding.Finding.{Finding}
use Rattle.resolution.specs.Working.Findings.{Firsts, goes_ahead, placed, place_in, cut_off}

-- it is put at a place of the list
abbrev pub IsPutAt : ℕ → ℕ → Finding → List Finding → List Finding → Type 0
IsPutAt k n g fs gs = (j : ℕ) × (n ≡ k + j) × (j ≤ length fs) × (gs ≡ insert fs j g)

behind_one : (k n : ℕ) (g f : Finding) (fs gs : List Finding) → IsPutAt (k + 1) n g fs gs → IsPutAt k n g (f ∷ fs) (f ∷ gs)
behind_one k n g f fs gs p =
    let j = p.0 in
    (suc j, (let e = p.1 in omega arith), (let le = p.2 in omega arith), ap (λ (l : List Finding). f ∷ l) p.3)

put_by : (a b : Bool) (k n : ℕ) (g f : Finding) (fs : List Finding) →
    (place_in (k + 1) g fs ≡ Some n → IsPutAt (k + 1) n g fs (placed g fs)) →
    (if a then Some k else if b then place_in (k + 1) g fs else None) ≡ Some n →
    IsPutAt k n g (f ∷ fs) (if a then g ∷ f ∷ fs else if b then f ∷ placed g fs else f ∷ fs)
put_by true b k n g f fs rest e = (zero, (let same = some_same k n e in omega arith), (omega arith), refl)
put_by false true k n g f fs rest e = behind_one k n g f fs (placed g fs) (rest e)
put_by false false k n g f fs rest e = cc

pub put_at : (k n : ℕ) (g : Finding) (fs : List Finding) → place_in k g fs ≡ Some n → IsPutAt k n g fs (placed g fs)
put_at k n g [] e = (zero, (let same = some_same k n e in omega arith), (omega arith), refl)
put_at k n g (f ∷ fs) e = put_by (goes_ahead g f) (goes_ahead f g) k n g f fs (put_at (k + 1) n g fs) e

there_by : (a b : Bool) (k : ℕ) (g f : Finding) (fs : List Finding) → (place_in (k + 1) g fs ≡ None → placed g fs ≡ fs) →
    (if a then Some k else if b then place_in (k + 1) g fs else None) ≡ None →
    (if a then g ∷ f ∷ fs else if b then f ∷ placed g fs else f ∷ fs) ≡ f ∷ fs
there_by true b k g f fs rest e = cc
there_by false true k g f fs rest e = ap (λ (l : List Finding). f ∷ l) (rest e)
there_by false false k g f fs rest e = refl

pub is_there : (k : ℕ) (g : Finding) (fs : List Finding) → place_in k g fs ≡ None → placed g fs ≡ fs
is_there k g [] e = cc
is_there k g (f ∷ fs) e = there_by (goes_ahead g f) (goes_ahead f g) k g f fs (is_there (k + 1) g fs) e

pub put_in : (n : ℕ) (g : Finding) (fs : List Finding) → place_in 0 g fs ≡ Some n → (n ≤ length fs) × (placed g fs ≡ insert fs n g)
put_in n g fs e =
    let p = put_at 0 n g fs e in
    let same : n ≡ p.0 = (let e = p.1 in omega arith) in
    ((let le = p.2 in omega arith), p.3 ∙ ap (λ (j : ℕ). insert fs j g) (sym same))

-- ---- what is kept

or_true : (b : Bool) → (b || true) ≡ true
or_true true = refl
or_true false = refl

or_false : (b : Bool) → (b || false) ≡ b
or_false true = refl
or_false false = refl

-- one too many is cut off
pub cut : (n : ℕ) (fs gs : List Finding) (more : Bool) → gs ≡ fs → n < length gs →
    cut_off n fs more ≡ record { kept = take n gs; more = true }
cut n fs gs more same lt =
    let is : nat_lt n (length gs) ≡ true = grind (arith, nat_tests) in
    ap (λ (l : List Finding). cut_off n l more) (sym same)
    ∙ ap (λ (b : Bool). record { kept = take n gs; more = more || b }) is
    ∙ ap (λ (b : Bool). record { kept = take n gs; more = b }) (or_true more)

-- if no fault exceeds the limit, none is cut off
pub uncut : (n : ℕ) (fs gs : List Finding) (more : Bool) → gs ≡ fs → length gs ≤ n → cut_off n fs more ≡ record { kept = gs; more = more }
uncut n fs gs more same le =
    let is : nat_lt n (length gs) ≡ false = grind (arith, nat_tests) in
    ap (λ (l : List Finding). cut_off n l more) (sym same)
    ∙ ap (λ (b : Bool). record { kept = take n gs; more = more || b }) is
    ∙ ap (λ (b : Bool). record { kept = take n gs; more = b }) (or_false more)
    ∙ ap (λ (l : List Finding). record { kept = l; more = more }) (take_all n gs le)
