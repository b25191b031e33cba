-- The first item of a list that passes a test, one more item at a time.
use Rattle.std.proofs.Common.{◌≡◌, ◌∙◌, ℕ, zero, suc, ◌+◌, ◌<◌, Bool, true, false, cond, List, [], ◌∷◌, length, take, get_or}
use Rattle.std.proofs.Common.{Option, Some, None, ap, arith}
use Rattle.std.specs.List.{find}
use Rattle.std.specs.Option.{option_or}
use Rattle.std.proofs.lemmas.List.{take_more}
use Rattle.std.proofs.lemmas.List.Folds.{find-append}

pub found_at : {X : Type 0} (p : X → Bool) (xs : List X) (i : ℕ) (d : X) → i < length xs → find p (take i xs) ≡ None →
    p (get_or xs i d) ≡ true → find p xs ≡ Some (get_or xs i d)
found_at p [] i d within none is = absurd (omega arith)
found_at p (x ∷ xs) zero d within none is = ap (λ (b : Bool). cond b (Some x) (find p xs)) is
found_at p (x ∷ xs) (suc i) d within none is =
    elim (p x) as (λ b. cond b (Some x) (find p (take i xs)) ≡ None → cond b (Some x) (find p xs) ≡ Some (get_or xs i d)) [
      | true ↦ λ h. cc
      | false ↦ λ h. found_at p xs i d (omega arith) h is
    ] none

pub none_more : {X : Type 0} (p : X → Bool) (xs : List X) (i : ℕ) (d : X) → i < length xs → find p (take i xs) ≡ None →
    p (get_or xs i d) ≡ false → find p (take (i + 1) xs) ≡ None
none_more p xs i d within none is =
    ap (find p) (take_more xs i d within)
    ∙ find-append p (take i xs) (get_or xs i d ∷ [])
    ∙ ap (λ o. option_or o (find p (get_or xs i d ∷ []))) none
    ∙ ap (λ (b : Bool). cond b (Some (get_or xs i d)) None) is
