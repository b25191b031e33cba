-- A text in a paragraph, and the expected answer.
use Rattle.std.specs.Prelude.{◌≡◌, ◌≢◌, ◌++◌, ◌⊎◌, ℕ, List, [], codes}

-- The text, followed by a `=> ` at the start of a line and the expected answer; the text is empty, where that is the
-- first line.
abbrev pub IsCase : List ℕ → List ℕ → List ℕ → Type 0
IsCase paragraph text want = (paragraph ≡ text ++ codes "\n=> " ++ want) ⊎ ((text ≡ []) × (paragraph ≡ codes "=> " ++ want))

-- No line after the first one begins with `=> `.
abbrev pub HasNoWant : List ℕ → Type 0
HasNoWant paragraph = (text want : List ℕ) → paragraph ≢ text ++ (codes "\n=> " ++ want)
