use Rattle.std.proofs.Common.{ℕ, ◌<◌, get_or}
use Rattle.lockorder.specs.Working.Sections.{IsBindingFor}
use Rattle.lockorder.proofs.bindings.Bindings.first.Given as goal

abbrev pub invariant-loop-i : goal.invariant-loop-i
invariant-loop-i l = (j : ℕ) → j < l.i → IsBindingFor l.self.points.now l.roots l.point (get_or l.self.list.items j 0) → ⊥
