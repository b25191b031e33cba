-- The simulation text, as bytes: a line `simulation 1`, a line for each finished section with a line for each of its
-- prints, a line `cells`, a line for each cell, a line `threads`, a line for each thread, a line `end`.
use Rattle.std.specs.Prelude.{ℕ, zero, suc, ◌+◌, List, [], ◌∷◌, ◌++◌, length, codes, Option, Some, None}
use Rattle.std.specs.Fmt.{decimal}
use Rattle.core_lang.specs.declared.value.Value.{Value}
use Rattle.core_lang.specs.declared.shape.Shape.{Shape}
use Rattle.core_lang.specs.declared.typed.Cell.{Cell}
use Rattle.core_lang.specs.declared.typed.Typed.{Typed}
use Rattle.interleavings.specs.declared.status.ThreadStatus.{ThreadStatus}
use Rattle.interleavings.specs.declared.status.ThreadStatus.TheVariants.{Idle, Ready, Waits, Running}
use Rattle.interleavings.specs.Threads.{cell_in}
use Rattle.interleavings.specs.Statuses.{status_of}
use Rattle.lowering.specs.Plans.{Plan}
use Rattle.worlds.specs.Worlds.{World}
use Rattle.input_files.specs.declared.format.Format.TheVariants.{One}
use Rattle.code.specs.Listing.{line}
use Rattle.report.specs.History.{commit_texts}
use Rattle.report.specs.Pieces.{owner_text, value_text, lock_text}

-- the content of a cell, or that a section holds the cell
abbrev pub present_text : Shape → Option Value → List ℕ
present_text shape (Some value) = value_text shape value
present_text shape None = codes "held"

-- CELL VALUE for each of these cells, the first of which has the number `number`
abbrev pub present_texts : Typed → World → ℕ → List Cell → List ℕ
present_texts program w number [] = []
present_texts program w number (cell ∷ cells) =
    line (owner_text program cell.owner ++ codes " " ++ present_text program.shape (cell_in w number))
    ++ present_texts program w (number + 1) cells

-- the lines of all cells of the program
abbrev pub cells_text : Plan → World → List ℕ
cells_text plan w = present_texts plan.program w 0 plan.program.cells.items

-- the status of a thread
abbrev pub status_text : Typed → ThreadStatus → List ℕ
status_text program Idle = codes "idle"
status_text program Ready = codes "ready"
status_text program (Waits lock holder) = codes "waits " ++ lock_text program lock ++ codes " for " ++ decimal holder
status_text program Running = codes "running"

-- THREAD STATUS
abbrev pub thread_text : Plan → World → ℕ → List ℕ
thread_text plan w t = line (decimal t ++ codes " " ++ status_text plan.program (status_of plan w t))

-- the lines of the first n threads
abbrev pub thread_texts : Plan → World → ℕ → List ℕ
thread_texts plan w zero = []
thread_texts plan w (suc n) = thread_texts plan w n ++ thread_text plan w n

-- the lines of all threads
abbrev pub threads_text : Plan → World → List ℕ
threads_text plan w = thread_texts plan w (length plan.program.threads.items)

-- the whole text
abbrev pub simulation_of : Plan → World → List ℕ
simulation_of plan w =
    line (codes "simulation 1") ++ commit_texts One plan.program w.history ++ line (codes "cells") ++ cells_text plan w
    ++ line (codes "threads") ++ threads_text plan w ++ line (codes "end")
