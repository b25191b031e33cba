-- The first helper with a place, found from the last helper on.
use Rattle.std.proofs.Common.{◌≡◌, ◌++◌, Bool, true, false, List, [], ◌∷◌, Option, Some, None, cond, refl}
use Rattle.std.specs.List.{find}
use Rattle.std.specs.Option.{option_or}

-- the results of two searches stay equal with one more item in front
behind-first : {A : Type 0} (b : Bool) (x : A) (o p q r : Option A) → option_or o p ≡ option_or q r →
    option_or (cond b (Some x) o) p ≡ option_or (cond b (Some x) q) r
behind-first true x o p q r same = refl
behind-first false x o p q r same = same

-- the last of the remaining items takes the place of what was found after it
pub last-moved : {A : Type 0} (test : A → Bool) (left : List A) (last : A) (o : Option A) →
    option_or (find test left) (cond (test last) (Some last) o) ≡ option_or (find test (left ++ last ∷ [])) o
last-moved test [] last o = decide (test last)
  where
    decide : (b : Bool) → cond b (Some last) o ≡ option_or (cond b (Some last) None) o
    decide true = refl
    decide false = refl
last-moved test (x ∷ left) last o =
    behind-first (test x) x (find test left) _ (find test (left ++ last ∷ [])) _ (last-moved test left last o)
