use Rattle.std.proofs.Common.{◌≡◌, ◌++◌, string_bytes, drop}
use Rattle.c_statements.specs.Acquires.{numbered}
use Rattle.c_text.specs.Files.{marked_of, file_of}
use Rattle.c_text.specs.Working.Sections.{file_in}
use Rattle.c_text.proofs.files.FileText.push_marked_sections.Given as goal

abbrev pub invariant-loop-number : goal.invariant-loop-number
invariant-loop-number l =
    let text = marked_of l.self.prefix.now l.self.program.now.program l.self.program.now.lists (file_of l.source) in
    let sections = l.self.program.now.program.sections.items in
    record {
      file : file_in l.marker ≡ file_of l.source;
      text : string_bytes l.out ++ numbered text l.number (drop l.number sections) ≡ string_bytes l.initial.out ++ numbered text 0 sections;
    }
