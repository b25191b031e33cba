-- Lock classes in a list, and the first of those that are equal.
use Rattle.std.proofs.Common.{◌≡◌, ◌∙◌, ◌<◌, ℕ, List, take, map, length, Option, Some, refl, sym, ap, get_or, arith}
use Rattle.std.specs.Prelude.{slice_get}
use Rattle.std.specs.Option.{option_map}
use Rattle.std.proofs.lemmas.Option.{slice_get_read, slice_get-map, slice_get_within, same_Some}
use Rattle.std.proofs.lemmas.List.{length-take, length-map, take-map}
use Rattle.syntax.specs.declared.tree.ClassName as written
use Rattle.syntax.specs.Trees.{ClassName}
use Rattle.syntax.specs.Views.{class_name_of}
use Rattle.resolution.specs.Scopes.{place_of, same_class}

module _ (classes : List written.ClassName) where
  pub class_at : (k : ℕ) (c : written.ClassName) → c ≡ get_or classes k c → k < length classes →
      slice_get (map class_name_of classes) k ≡ Some (class_name_of c)
  class_at k c is lt = slice_get-map class_name_of classes k ∙ ap (option_map class_name_of) (slice_get_read classes (length classes) k c refl lt is)

  -- the class at a place, read in two ways
  pub same_read : (k : ℕ) (c : written.ClassName) (x : ClassName) → c ≡ get_or classes k c → k < length classes →
      slice_get (map class_name_of classes) k ≡ Some x → class_name_of c ≡ x
  same_read k c x is lt at = same_Some (class_name_of c) x (sym (class_at k c is lt) ∙ at)

  -- the first of those ahead of a place
  pub found_before : (j : ℕ) (q x : ClassName) (o : Option ℕ) →
      o ≡ place_of same_class (map class_name_of (take j classes)) q → q ≡ x →
      place_of same_class (take j (map class_name_of classes)) x ≡ o
  found_before j q x o e same =
      ap (λ (l : List ClassName). place_of same_class l x) (take-map class_name_of j classes) ∙ ap (place_of same_class (map class_name_of (take j classes))) (sym same) ∙ sym e

  pub within_before : (i j : ℕ) → i < length (take j classes) → j < length classes → i < length classes
  within_before i j lt more = omega (arith, length-take j classes)

  pub class_within : (k : ℕ) (x : ClassName) → slice_get (map class_name_of classes) k ≡ Some x → k < length classes
  class_within k x at = omega (arith, slice_get_within (map class_name_of classes) k x at, length-map classes class_name_of)
