use Rattle.std.proofs.Common.{◌≡◌, ◌++◌, string_bytes, take}
use Rattle.std.specs.List.{flat_map}
use Rattle.c_text.specs.Histories.{section_number}
use Rattle.c_text.proofs.writer.FileWriter.push_section_numbers.Given as goal

abbrev pub invariant-loop-section : goal.invariant-loop-section
invariant-loop-section l =
    string_bytes l.out
    ≡ string_bytes l.initial.out ++ flat_map (section_number l.self.names.prefix.now) (take l.section-index l.self.names.program.now.sections.items)
