use Rattle.std.proofs.Common.{◌≡◌, ◌++◌, drop, string_bytes}
use Rattle.code.specs.Working.Asked.{lists_of}
use Rattle.c_statements.specs.Acquires.{numbered}
use Rattle.c_sections.specs.Instructions as text
use Rattle.c_sections.specs.Working.Bodies.{IsAt, program_of, code_of, paths_of, begins_of}
use Rattle.c_sections.specs.Working.Marked.{mark_in}
use Rattle.c_sections.proofs.instructions.MarkedLines.push.Given as goal

-- the written text and that of the remaining items are the whole text
abbrev pub invariant-loop-place : goal.invariant-loop-place
invariant-loop-place l =
    let x = l.self.lines.now in
    let text = text.marked_instr (program_of x) x.scope.section.now (lists_of x.listed) (paths_of x)
    (mark_in l.self.marks (begins_of x)) (code_of x) in
    record {
      stands : IsAt x l.place l.groups;
      text : string_bytes l.out ++ numbered text l.place (drop l.place (code_of x)) ≡ string_bytes l.initial.out ++ numbered text 0 (code_of x);
    }
