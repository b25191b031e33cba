use Rattle.std.proofs.Common.{◌≡◌, ◌++◌, string_bytes, take}
use Rattle.c_data.specs.Types.{under_text}
use Rattle.std.specs.List.{flat_map}
use Rattle.c_data.proofs.writer.DataWriter.push_all_under.Given as goal

abbrev pub invariant-loop-field : goal.invariant-loop-field
invariant-loop-field l =
    string_bytes l.out ≡ string_bytes l.initial.out ++ flat_map (under_text l.self.names.prefix.now l.self.names.program.now l.lock) (take l.field-index l.structure.fields.items)
