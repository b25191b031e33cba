-- The element of a list that a slice lends.
use Rattle.std.proofs.Common.{◌≡◌, ℕ, List, Option, Some, None, length, slice_get, refl, sym, ap, ◌∙◌}
use Rattle.std.proofs.lemmas.Option.{slice_get-map, slice_get_past, slice_get_read}
use Rattle.std.specs.Borrow.{Bor}
use Rattle.std.specs.Prelude.{map, option_map}
use Rattle.std.specs.Slice.{IsItemAt}

module _ {A : Type 0} (xs : List A) (i : ℕ) where
  pub item_here : (b : Bor A) → IsItemAt xs i (Some b) → slice_get xs i ≡ Some b.now
  item_here b h = slice_get_read xs (length xs) i b.now refl h.3.0 h.1

  pub item_past : IsItemAt xs i None → slice_get xs i ≡ None
  item_past h = slice_get_past xs i h.3

pub item_seen : {A B : Type 0} (view : A → B) (xs : List A) (i : ℕ) (r : Option (Bor A)) → IsItemAt xs i r →
    option_map (λ b. view b.now) r ≡ slice_get (map view xs) i
item_seen view xs i None h = sym (slice_get-map view xs i ∙ ap (option_map view) (item_past xs i h))
item_seen view xs i (Some b) h = sym (slice_get-map view xs i ∙ ap (option_map view) (item_here xs i b h))
