-- The notes on an unknown name.
use Rattle.std.proofs.Common.{◌≡◌, ◌∙◌, ◌⊎◌, inl, inr, ℕ, List, Some, None, sym, subst}
use Rattle.std.proofs.lemmas.Option.{same_Some}
use Rattle.source.specs.Tokens.{Tok}
use Rattle.syntax.specs.Trees.{Decl}
use Rattle.explanation_names.specs.NearNames.{CouldStand, IsNear}
use Rattle.explanation_names.specs.Working.Values.{NoneIsNear}
use Rattle.explanation_faults.specs.FaultNotes.{HasNearName}
use Rattle.explanation_names.specs.NullMeant.{IsNullMeant, IsNullMeantBy}
use Rattle.explanation_names.specs.TokensThere.{name_there}

module _ (tokens : List Tok) (decls : List Decl) (at : ℕ) where
  pub no_name : None ≡ name_there at tokens → HasNearName tokens decls at → ⊥
  no_name none told = let e : None ≡ Some told.unknown = none ∙ told.there in cc

  -- without a name at the place, there is no note
  pub none_told : None ≡ name_there at tokens → HasNearName tokens decls at ⊎ IsNullMeant tokens at → ⊥
  none_told none (inl near) = no_name none near
  none_told none (inr meant) = let e : None ≡ Some meant.unknown = none ∙ meant.there in cc

  -- the name does not mean `null`, and no other name is near
  pub null_not_meant : (q : List ℕ) → name_there at tokens ≡ Some q → (HasNearName tokens decls at → ⊥) →
      (IsNullMeantBy tokens at q → ⊥) →
      HasNearName tokens decls at ⊎ IsNullMeant tokens at → ⊥
  null_not_meant q is none other (inl near) = none near
  null_not_meant q is none other (inr meant) =
      other (subst (IsNullMeantBy tokens at) (same_Some meant.unknown q (sym meant.there ∙ is)) meant.meant)

  pub none_near : (q : List ℕ) → Some q ≡ name_there at tokens → NoneIsNear (CouldStand decls at) q →
      HasNearName tokens decls at → ⊥
  none_near q is none told =
      none told.name told.could (subst (λ (p : List ℕ). IsNear p told.name.text) (same_Some told.unknown q (sym told.there ∙ sym is)) told.near)
