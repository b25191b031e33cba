use Rattle.std.proofs.Common.{◌≡◌, ◌++◌, string_bytes, take}
use Rattle.c_data.specs.Openings.{field_opened, final_opened}
use Rattle.std.specs.List.{flat_map}
use Rattle.c_data.proofs.openings.push_fields_opened.Given as goal

abbrev pub invariant-loop-final_field : goal.invariant-loop-final_field
invariant-loop-final_field l =
    string_bytes l.out ≡ string_bytes l.initial.out ++ flat_map (final_opened l.pool) (take l.final_field-index l.structure.finals.items)

abbrev pub invariant-loop-field : goal.invariant-loop-field
invariant-loop-field l =
    string_bytes l.out ≡ string_bytes l.initial.out ++ flat_map (field_opened l.pool) (take l.field-index l.structure.fields.items)
