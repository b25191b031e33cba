-- The line of a place. Nobody has to believe this.
use Rattle.std.specs.Fmt.{decimal}
use Rattle.std.specs.Prelude.{ℕ, List, ◌++◌, codes}

-- FILE:LINE:COL: LABEL WORDS
abbrev pub told_words : List ℕ → ℕ → ℕ → List ℕ → List ℕ → List ℕ
told_words file line column label words =
    file ++ codes ":" ++ decimal line ++ codes ":" ++ decimal column ++ codes ": " ++ label ++ codes " " ++ words
