use Rattle.std.proofs.Common.{◌≡◌, Bool, Option, Some, None, ap, refl, rules}
use Rattle.std.specs.Bool.{Decides}
use Rattle.std.specs.Option.{option_eq}
use Rattle.std.proofs.lemmas.Slice.Eq.{slice_eq-Decides}
use Rattle.outcomes.proofs.layer.same_answers.Goals as goal

decides_option : {T : Type 0} {E : T → T → Bool} → ((a b : T) → Decides (E a b) (a ≡ b)) → (a b : Option T) →
    Decides (option_eq E a b) (a ≡ b)
decides_option d None None = (λ same. refl, λ same. refl)
decides_option d None (Some b) = (λ same. cc, λ same. cc)
decides_option d (Some a) None = (λ same. cc, λ same. cc)
decides_option d (Some a) (Some b) = (λ same. ap (λ x. Some x) ((d a b).0 same), λ same. (d a b).1 (let e : a ≡ b = cc in e))

pub returns : goal.returns
returns c = slice_eq-Decides (decides_option (λ a b. search rules)) _ _ _ c.eq.ensures
