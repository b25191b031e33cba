use Rattle.std.proofs.Common.{◌≡◌, ◌++◌, string_bytes, take}
use Rattle.c_data.specs.Types.{announced_text, struct_text}
use Rattle.std.specs.List.{flat_map}
use Rattle.c_data.proofs.writer.DataWriter.push_types.Given as goal

abbrev pub invariant-loop-announced : goal.invariant-loop-announced
invariant-loop-announced l =
    string_bytes l.out ≡ string_bytes l.initial.out ++ flat_map (announced_text l.self.names.prefix.now) (take l.announced-index l.self.names.program.now.structs.items)

abbrev pub invariant-loop-structure : goal.invariant-loop-structure
invariant-loop-structure l =
    string_bytes l.out ≡ string_bytes l.initial.out ++ flat_map (struct_text l.self.names.prefix.now l.self.names.program.now) (take l.structure-index l.self.names.program.now.structs.items)
