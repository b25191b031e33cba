use Rattle.std.proofs.Common.{◌≡◌, drop, length}
use Rattle.lowering.specs.Working.Assembly.{pointed}
use Rattle.lowering.proofs.assembler.Assembler.point_to_end.Given as goal

abbrev pub invariant-loop-place : goal.invariant-loop-place
invariant-loop-place l = record {
  same : pointed l.connective l.end (drop l.place-index l.jumps) l.self.instructions.items ≡ pointed l.connective l.end l.jumps l.fn.self.instructions.items;
  long : length l.self.instructions.items ≡ length l.fn.self.instructions.items;
  end : l.end ≡ length l.fn.self.instructions.items;
}
