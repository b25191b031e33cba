use Rattle.std.proofs.Common.{◌≡◌, ◌++◌, string_bytes, take}
use Rattle.c_data.specs.Types.{final_text, locked_text, other_text}
use Rattle.std.specs.List.{flat_map}
use Rattle.c_data.proofs.writer.DataWriter.push_members.Given as goal

abbrev pub invariant-loop-lock : goal.invariant-loop-lock
invariant-loop-lock l =
    string_bytes l.out ≡ string_bytes l.initial.out ++ flat_map (locked_text l.self.names.prefix.now l.self.names.program.now l.structure) (take l.lock-index l.structure.locks.items)

abbrev pub invariant-loop-final_field : goal.invariant-loop-final_field
invariant-loop-final_field l =
    string_bytes l.out ≡ string_bytes l.initial.out ++ flat_map (final_text l.self.names.prefix.now l.self.names.program.now) (take l.final_field-index l.structure.finals.items)

abbrev pub invariant-loop-field : goal.invariant-loop-field
invariant-loop-field l =
    string_bytes l.out ≡ string_bytes l.initial.out ++ flat_map (other_text l.self.names.prefix.now l.self.names.program.now l.structure) (take l.field-index l.structure.fields.items)
