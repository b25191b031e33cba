-- The first item of a list with a property.
use Rattle.std.specs.List.{filter_map}
use Rattle.std.specs.Prelude.{◌≡◌, List, ◌∷◌, ◌++◌, slice_get, Option}
use Rattle.resolution.specs.Where.{Has}

-- the result of f for the first item for which it has one
abbrev pub first_by : {A B : Type 0} → (A → Option B) → List A → Option B
first_by f xs = slice_get (filter_map f xs) 0

-- x is the first item of this kind
pub record IsFirst {A B : Type 0} (kind : B → A) (xs : List A) (x : B) : Type 0 where
  pub before : List A
  pub after : List A
  pub parts : xs ≡ before ++ kind x ∷ after
  pub none : (y : B) → Has before (kind y) → ⊥
