use Rattle.std.proofs.Common.{◌≡◌, ℕ, nat_eq}
use Rattle.std.specs.Prelude.{◌==◌}
use Rattle.std.specs.List.{find}
use Rattle.std.specs.Option.{option_copied, option_or}
use Rattle.indexmap.specs.IndexMap.{get}
use Rattle.core_lang.specs.declared.typed.GlobalVariable.{GlobalVariable}
use Rattle.code.proofs.lines.index_by_cell.Given as goal

-- the first global with a cell is the first of those that are left, or else the one of the index
abbrev pub invariant-loop-global : goal.invariant-loop-global
invariant-loop-global l =
    (cell : ℕ)
    → option_or (find (λ (g : GlobalVariable). g.cell == cell) l.global-iterator.iter.rest.now)
    (option_copied (get nat_eq l.index cell))
    ≡ find (λ (g : GlobalVariable). g.cell == cell) l.globals
