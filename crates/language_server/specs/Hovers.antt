-- The hover at a position, as the protocol's JSON.
use Rattle.std.specs.Prelude.{ℕ, List, Some, None}
use Rattle.serde_json.specs.Data.{Data}
use Rattle.language_server.specs.Hover as statement
use Rattle.language_server.specs.NameHovers.{IsNameHoverOf}
use Rattle.lsp_texts.specs.declared.walking.Position.{Position}

-- the hover on the declared name there; or, where there is none, on the statement
pub data IsHoverOf (text : List ℕ) (place : Position) (told : Data) : Type 0 where
  of_name : IsNameHoverOf text place (Some told) → IsHoverOf text place told
  of_statement : IsNameHoverOf text place None → statement.IsStatementHoverOf text place told → IsHoverOf text place told
