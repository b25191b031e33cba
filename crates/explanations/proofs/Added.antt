-- Appending to a list, unless an allocation fails.
use Rattle.std.proofs.Common.{◌≡◌, ◌∙◌, List, ◌++◌, ap, append_assoc}
use Rattle.std.specs.Prelude.{Result, OnOk}
use Rattle.std.proofs.lemmas.Result.{on_ok_weaker}

-- the same, for an equal list
pub added_as : {T E A : Type 0} (r : Result T E) (new old ys zs : List A) → ys ≡ zs → OnOk r (new ≡ old ++ ys) →
    OnOk r (new ≡ old ++ zs)
added_as r new old ys zs same is =
    on_ok_weaker {P = new ≡ old ++ ys} {Q = new ≡ old ++ zs} r (λ e. e ∙ ap (λ l. old ++ l) same) is

-- one part, and another after it
pub added_behind : {T E A : Type 0} (r : Result T E) (new mid old xs ys : List A) → mid ≡ old ++ xs → OnOk r (new ≡ mid ++ ys) →
    OnOk r (new ≡ old ++ (xs ++ ys))
added_behind r new mid old xs ys before is =
    on_ok_weaker {P = new ≡ mid ++ ys} {Q = new ≡ old ++ (xs ++ ys)} r (λ e. e ∙ ap (λ l. l ++ ys) before ∙ append_assoc old xs ys) is
