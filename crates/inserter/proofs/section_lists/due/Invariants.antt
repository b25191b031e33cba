use Rattle.std.proofs.Common.{◌≡◌, ℕ, List, map, length, Some}
use Rattle.std.specs.Prelude.{slice_get}
use Rattle.locks.specs.declared.path_set.PathSet.{PathSet}
use Rattle.inserter.specs.Working.Keys.{IsLeft}
use Rattle.inserter.proofs.section_lists.due.Given as goal

abbrev pub invariant-loop-p : goal.invariant-loop-p
invariant-loop-p l = record {
  long : length l.lists.items ≡ l.p;
  each : (p : ℕ) (w h : PathSet) (list : List ℕ) → slice_get l.wanted p ≡ Some w → slice_get l.held p ≡ Some h →
      slice_get (map (λ x. x.items) l.lists.items) p ≡ Some list → IsLeft l.keys w h list;
}
