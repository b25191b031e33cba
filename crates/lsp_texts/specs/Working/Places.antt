-- What is known of the place where a token stands.
use Rattle.std.specs.Prelude.{◌≡◌, ℕ, ◌≤◌, List}
use Rattle.source.specs.declared.token.Token.{Token}
use Rattle.lsp_texts.specs.Names.{depth_at}
use Rattle.lsp_texts.specs.Declarations.{owner_at, bound_at}
use Rattle.lsp_texts.specs.declared.scopes.Place.{Place}

pub record IsPlaceOf (tokens : List Token) (at : ℕ) (place : Place) : Type 0 where
  pub depth : place.depth ≡ depth_at tokens at
  pub few : place.depth ≤ at
  pub owner : place.owner ≡ owner_at tokens at
  pub bound : place.bound ≡ bound_at tokens at
