-- The items of lists.
use Rattle.std.proofs.Common.{◌≡◌, List, [], ◌∷◌, ◌++◌, inl, inr, ap}
use Rattle.std.specs.List.{Contains}
use Rattle.core_lang.specs.Theory.Items.{in_cases, in_first, in_rest, not_in_none}

-- what stands before it and after it
pub around : {X : Type 0} (xs : List X) (x : X) → Contains xs x →
    (before : List X) × (behind : List X) × (xs ≡ before ++ x ∷ behind)
around [] x c = absurd (not_in_none x c)
around (y ∷ ys) x c =
    elim (in_cases y x ys c) [
      | inl e ↦ ([], ys, ap (λ z. z ∷ ys) e)
      | inr d ↦ let r = around ys x d in (y ∷ r.0, r.1, ap (λ zs. y ∷ zs) r.2)
    ]

pub in_middle : {X : Type 0} (before behind : List X) (x : X) → Contains (before ++ x ∷ behind) x
in_middle [] behind x = in_first x behind
in_middle (y ∷ ys) behind x = in_rest y x (ys ++ x ∷ behind) (in_middle ys behind x)
