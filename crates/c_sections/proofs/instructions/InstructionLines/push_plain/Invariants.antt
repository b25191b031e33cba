use Rattle.std.proofs.Common.{◌≡◌, ◌++◌, drop, string_bytes}
use Rattle.code.specs.Working.Asked.{lists_of}
use Rattle.c_statements.specs.Acquires.{numbered}
use Rattle.c_sections.specs.Instructions as text
use Rattle.c_sections.specs.Working.Bodies.{IsAt, instrs_of, program_of, code_of, paths_of}
use Rattle.c_sections.proofs.instructions.InstructionLines.push_plain.Given as goal

-- the written text and that of the remaining items are the whole text
abbrev pub invariant-loop-place : goal.invariant-loop-place
invariant-loop-place l = record {
  stands : IsAt l.self l.place l.groups;
  text : string_bytes l.out ++ numbered (text.instr_text (program_of l.self) l.self.scope.section.now (lists_of l.self.listed)
      (paths_of l.self) (code_of l.self)) l.place (drop l.place (code_of l.self))
      ≡ string_bytes l.initial.out ++ instrs_of l.self;
}
