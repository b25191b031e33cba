use Rattle.std.proofs.Common.{◌≡◌, ◌++◌, ℕ, map, take}
use Rattle.core_lang.specs.declared.value.Value.{Value}
use Rattle.outcomes.proofs.changes.Writes.cells.Given as goal

-- the cells of the writes so far
abbrev pub invariant-loop-write : goal.invariant-loop-write
invariant-loop-write l = l.cells.items ≡ map (λ (w : ℕ × Value). w.0) (take l.write-index l.write-items)

abbrev pub invariant-loop-write-2 : goal.invariant-loop-write-2
invariant-loop-write-2 l =
    l.cells.items
    ≡ map (λ (w : ℕ × Value). w.0) l.self.first.now ++ map (λ (w : ℕ × Value). w.0) (take l.write-index l.write-items)
