-- The results of a table of names: a name's place, and the item there.
use Rattle.std.proofs.Common.{◌≡◌, ℕ, List, Option, Some, None, slice_get, sym, ap, ◌∙◌, Bool}
use Rattle.std.specs.Borrow.{Bor}
use Rattle.std.specs.Prelude.{map}
use Rattle.std.specs.Slice.{IsItemAt}
use Rattle.resolution.specs.Scopes.{◌>>=◌, named}
use Rattle.types_symbols.specs.declared.names.Names.{Names}
use Rattle.types_symbols.specs.Working.Found.{found, IsTableOf}
use Rattle.types_symbols.proofs.Given.{named_is}
use Rattle.types_symbols.proofs.Items.{item_seen}

module _ {A B : Type 0} (bears : B → List ℕ → Bool) (view : A → B) (xs : List A) (names : Names) (q : List ℕ) (table : IsTableOf bears (map view xs) names) where
  pub found_is : (r : Option ℕ) (place : ℕ) (b : Bor A) → r ≡ found names q → r ≡ Some place →
      IsItemAt xs place (Some b) → Some (place, view b.now) ≡ named bears (map view xs) q
  found_is r place b by is here = sym (named_is bears (map view xs) q place (view b.now) (sym (by ∙ table q) ∙ is) (sym (item_seen view xs place (Some b) here)))

  pub found_none : (r : Option ℕ) → r ≡ found names q → r ≡ None → None ≡ named bears (map view xs) q
  found_none r by is =
      ap (λ (o : Option ℕ). ◌>>=◌ {B = ℕ × B} o (λ j. ◌>>=◌ {B = ℕ × B} (slice_get (map view xs) j) (λ y. Some (j, y)))) (sym is ∙ by ∙ table q)

  pub found_past : (r : Option ℕ) (place : ℕ) → r ≡ found names q → r ≡ Some place → IsItemAt xs place None →
      None ≡ named bears (map view xs) q
  found_past r place by is past =
      ap (λ (o : Option B). ◌>>=◌ {B = ℕ × B} o (λ y. Some (place, y))) (item_seen view xs place None past)
      ∙ ap (λ (o : Option ℕ). ◌>>=◌ {B = ℕ × B} o (λ j. ◌>>=◌ {B = ℕ × B} (slice_get (map view xs) j) (λ y. Some (j, y)))) (sym is ∙ by ∙ table q)
