use Rattle.std.proofs.Common.{◌≡◌, ℕ, map, take, None}
use Rattle.std.specs.Prelude.{slice_index_or}
use Rattle.core_lang.specs.declared.value.Value.TheVariants.{Ref}
use Rattle.outcomes.proofs.telling.seen_cells.Given as goal

-- the values of the first cells that the request asks for
abbrev pub invariant-loop-number : goal.invariant-loop-number
invariant-loop-number l =
    l.seen.items ≡ map (λ (k : ℕ). slice_index_or l.cells k (Ref None)) (take l.number-index l.number-items)
