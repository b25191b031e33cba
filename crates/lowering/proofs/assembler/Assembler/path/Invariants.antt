use Rattle.std.proofs.Common.{◌≡◌, ◌++◌, drop}
use Rattle.code.specs.Lowering.{path_code, fields_code}
use Rattle.lowering.proofs.assembler.Assembler.path.Given as goal

abbrev pub invariant-loop-field : goal.invariant-loop-field
invariant-loop-field l = l.self.instructions.items ++ fields_code (drop l.field-index l.field-items) ≡ l.fn.self.instructions.items ++ path_code l.path
