use Rattle.std.proofs.Common.{◌≡◌, ◌++◌, string_bytes, take}
use Rattle.std.specs.List.{flat_map}
use Rattle.c_data.specs.Working.Shown.{field_of}
use Rattle.c_data.proofs.writer.DataWriter.push_fields_shown.Given as goal

abbrev pub invariant-loop-field : goal.invariant-loop-field
invariant-loop-field l =
    string_bytes l.out ≡ string_bytes l.initial.out ++ flat_map (field_of l.self l.pool) (take l.field-index l.structure.fields.items)
