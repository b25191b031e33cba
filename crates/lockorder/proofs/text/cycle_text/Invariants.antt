use Rattle.std.proofs.Common.{◌≡◌, ◌++◌, string_bytes, drop}
use Rattle.lockorder.specs.Faults.{arrows, classes_of}
use Rattle.lockorder.proofs.text.cycle_text.Given as goal

abbrev pub invariant-loop-edge : goal.invariant-loop-edge
invariant-loop-edge l = string_bytes l.text ++ arrows l.program (classes_of (drop l.edge-index l.edges)) ≡ arrows l.program (classes_of l.edges)
