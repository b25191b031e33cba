-- The messages of a command that has no answer.
use Rattle.std.specs.Prelude.{ℕ, List, [], ◌∷◌, ◌++◌, codes}

-- the message where a file was not read
abbrev pub cannot_read : List ℕ → List ℕ
cannot_read file = codes "autolock: cannot read " ++ file ++ 10 ∷ []

-- the message where a write failed
abbrev pub cannot_write : List ℕ
cannot_write = codes "autolock: cannot write" ++ 10 ∷ []

-- the message where memory ran out
abbrev pub no_memory : List ℕ
no_memory = codes "autolock: no memory" ++ 10 ∷ []

-- the message where a thread found another history than it had left
abbrev pub strange : List ℕ
strange = codes "autolock: strange" ++ 10 ∷ []
