-- The list has no numbers with a fraction, so its text is known.
use Rattle.std.proofs.Common.{◌≡◌, ℕ, List, [], ◌∷◌, false, map, refl}
use Rattle.serde_json.specs.View.{items_of}
use Rattle.serde_json.specs.Written.{items_have_float}
use Rattle.language_server.specs.Hints.{hint_data}
use Rattle.language_server.specs.Takes.{Take}

pub none_in_items : (text : List ℕ) (takes : List Take) → items_have_float (items_of (map (hint_data text) takes)) ≡ false
none_in_items text [] = refl
none_in_items text (take ∷ takes) = none_in_items text takes
