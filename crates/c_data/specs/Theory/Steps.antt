-- Pieces that are appended one after another.
use Rattle.std.proofs.Common.{◌≡◌, ◌∙◌, ◌++◌, ℕ, List, Result, Ok, Err, ap, append_assoc}
use Rattle.std.specs.Prelude.{OnOk}

-- appending two pieces in turn appends both
pub both : (old mid new a b : List ℕ) → mid ≡ old ++ a → new ≡ mid ++ b → new ≡ old ++ (a ++ b)
both old mid new a b first second = second ∙ ap (λ (t : List ℕ). t ++ b) first ∙ append_assoc old a b

-- the same, unless an allocation fails
pub after : {T E : Type 0} (r : Result T E) (old mid new a b : List ℕ) → mid ≡ old ++ a → OnOk r (new ≡ mid ++ b) →
    OnOk r (new ≡ old ++ (a ++ b))
after (Ok x) old mid new a b first second = both old mid new a b first second
after (Err x) old mid new a b first second = second
