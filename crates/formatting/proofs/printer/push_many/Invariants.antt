use Rattle.std.proofs.Common.{◌≡◌, ◌++◌}
use Rattle.formatting.specs.Layout.{many}
use Rattle.formatting.proofs.printer.push_many.Given as goal

abbrev pub invariant-loop-i : goal.invariant-loop-i
invariant-loop-i l = l.text.items ≡ l.fn.text.items ++ many l.i l.byte
