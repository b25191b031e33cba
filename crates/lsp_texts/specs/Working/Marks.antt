-- Walkers over a text.
use Rattle.std.specs.Prelude.{◌≡◌, ℕ, List}
use Rattle.std.specs.List.{All}
use Rattle.lsp_texts.specs.declared.walking.Walker.{Walker}

-- the walker is over the text
abbrev pub IsOf : List ℕ → Walker → Type 0
IsOf text walker = walker.text.now ≡ text

abbrev pub AreOf : List ℕ → List Walker → Type 0
AreOf text walkers = All (IsOf text) walkers
