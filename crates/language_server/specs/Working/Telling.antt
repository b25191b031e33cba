-- The hover at a position, for the clauses of the code.
use Rattle.std.specs.Prelude.{◌≡◌, ℕ, List}
use Rattle.serde_json.specs.Data.{Data}
use Rattle.lowering.specs.Plans.{Plan}
use Rattle.lsp_texts.specs.declared.walking.Position.{Position}
use Rattle.language_server.specs.Held.{AreHeld}
use Rattle.language_server.specs.Hover.{told_at}
use Rattle.language_server.specs.Statements.{statement_at}

-- the hover at the position, with the lists of the paths that are held in the program
abbrev pub IsToldOf : List ℕ → Plan → Position → Data → Type 0
IsToldOf text plan position told =
    (held : List (List (List ℕ))) × AreHeld plan.program plan.ranks held × (told ≡ told_at text plan held (statement_at text plan.program position))
