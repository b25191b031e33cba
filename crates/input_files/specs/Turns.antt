-- The steps of turns.
use Rattle.std.specs.Prelude.{ℕ, List, [], ◌∷◌, ◌++◌, replicate}
use Rattle.input_files.specs.declared.turn.Turn.{Turn}

-- the thread of each step of these turns, in order
abbrev pub steps_of : List Turn → List ℕ
steps_of [] = []
steps_of (turn ∷ turns) = replicate turn.count turn.thread ++ steps_of turns
