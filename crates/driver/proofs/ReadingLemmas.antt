-- When a reader whose first bytes are taken is at its end.
use Rattle.std.proofs.Common.{◌≡◌, ◌<◌, ℕ, suc, zero, List, [], ◌∷◌, take, Option, Some, None, refl, arith}
use Rattle.std.specs.Io.KnownBytes.{IsAtEnd}
use Rattle.std.specs.Prelude.{option_map}

none_left : (bytes : List ℕ) (most : ℕ) → 0 < most → take most bytes ≡ [] → bytes ≡ []
none_left [] most some none = refl
none_left (b ∷ bytes) zero some none = absurd (omega arith)
none_left (b ∷ bytes) (suc n) some none = absurd cc

pub ended : (known : Option (List ℕ)) (most : ℕ) → 0 < most → IsAtEnd (option_map (take most) known) → IsAtEnd known
ended None most some is = tt
ended (Some bytes) most some is = none_left bytes most some is
