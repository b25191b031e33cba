-- Two options together, and what is made of both. Nobody has to believe this equation: it is proved here, for proofs of
-- this crate and of the crates above.
use Rattle.std.specs.Option.{option_zip}
use Rattle.std.proofs.Common.{◌≡◌, Option, Some, None, sym, ap}
use Rattle.std.proofs.lemmas.Option.{none-some}

abbrev pair_in : {T U : Type 0} → T × U → Option (T × U) → T × U
pair_in p (Some q) = q
pair_in p None = p

pub zipped : {T U C : Type 0} (f : Option T → Option U → C) (x : Option T) (y : Option U) (a : T) (b : U) → Some (a, b) ≡ option_zip x y → f (Some a) (Some b) ≡ f x y
zipped f None y a b both = absurd (none-some (a, b) (sym both))
zipped f (Some x) None a b both = absurd (none-some (a, b) (sym both))
zipped {T} {U} f (Some x) (Some y) a b both = ap (λ (p : T × U). f (Some p.0) (Some p.1)) (ap (pair_in (a, b)) both)
