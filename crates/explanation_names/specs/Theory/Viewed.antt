-- Elements of lists in a view.
use Rattle.std.proofs.Common.{◌≡◌, ◌∙◌, ℕ, List, length, map, get_or, Some, refl, sym, ap, ◌<◌, arith}
use Rattle.std.specs.Prelude.{slice_get}
use Rattle.std.specs.Option.{option_map}
use Rattle.std.proofs.lemmas.List.{length-map}
use Rattle.std.proofs.lemmas.Option.{slice_get_read, slice_get_within, slice_get-map}

-- an element of a list in a view
pub viewed_at : {A B : Type 0} (view : A → B) (xs ys : List A) (k : ℕ) (x : A) → ys ≡ xs → x ≡ get_or ys k x →
    k < length ys →
    slice_get (map view xs) k ≡ Some (view x)
viewed_at view xs ys k x same is lt =
    ap (λ l. slice_get (map view l) k) (sym same) ∙ slice_get-map view ys k ∙ ap (option_map view) (slice_get_read ys (length ys) k x refl lt is)

pub within_view : {A B : Type 0} (view : A → B) (xs ys : List A) (k : ℕ) (y : B) → ys ≡ xs →
    slice_get (map view xs) k ≡ Some y → k < length ys
within_view view xs ys k y same at = omega (arith, slice_get_within (map view xs) k y at, length-map xs view, ap length same)
