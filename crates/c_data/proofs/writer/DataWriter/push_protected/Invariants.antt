use Rattle.std.proofs.Common.{◌≡◌, ◌++◌, string_bytes, take}
use Rattle.c_data.specs.Types.{array_text, global_text}
use Rattle.std.specs.List.{flat_map}
use Rattle.c_data.proofs.writer.DataWriter.push_protected.Given as goal

abbrev pub invariant-loop-global : goal.invariant-loop-global
invariant-loop-global l =
    string_bytes l.out
    ≡ string_bytes l.initial.out ++ flat_map (global_text l.self.names.prefix.now l.self.names.program.now l.class) (take l.global-index l.self.names.program.now.globals.items)

abbrev pub invariant-loop-array : goal.invariant-loop-array
invariant-loop-array l =
    string_bytes l.out
    ≡ string_bytes l.initial.out ++ flat_map (array_text l.self.names.prefix.now l.self.names.program.now l.class) (take l.array-index l.self.names.program.now.shape.arrays.items)
