-- The first global with a cell: the first of those that are left, or else the one of the index.
use Rattle.std.proofs.Common.{◌≡◌, ◌++◌, Bool, true, false, List, [], ◌∷◌, Option, Some, None, Bor, cond, refl}
use Rattle.std.specs.List.{find}
use Rattle.std.specs.Option.{option_copied, option_or}
use Rattle.core_lang.specs.declared.typed.GlobalVariable.{GlobalVariable}

pub or-none : {A : Type 0} (o : Option A) → option_or o None ≡ o
or-none None = refl
or-none (Some x) = refl

-- what is found is the same with one more global ahead
behind-first : (b : Bool) (g : GlobalVariable) (o p q r : Option GlobalVariable) → option_or o p ≡ option_or q r
    → option_or (cond b (Some g) o) p ≡ option_or (cond b (Some g) q) r
behind-first true g o p q r same = refl
behind-first false g o p q r same = same

-- the last of those that are left goes into the index, in the place of what that has for its cell
pub last-moved : (test : GlobalVariable →
    Bool) (left : List GlobalVariable) (last : Bor GlobalVariable) (o : Option (Bor GlobalVariable))
    → option_or (find test left) (option_copied (cond (test last.now) (Some last) o))
    ≡ option_or (find test (left ++ last.now ∷ [])) (option_copied o)
last-moved test [] last o = decide (test last.now)
  where
    decide : (b : Bool) →
        option_copied (cond b (Some last) o) ≡ option_or (cond b (Some last.now) None) (option_copied o)
    decide true = refl
    decide false = refl
last-moved test (g ∷ left) last o = behind-first (test g) g (find test left) _ (find test (left ++ last.now ∷ [])) _ (last-moved test left last o)
