use Rattle.std.proofs.Common.{◌≡◌, ◌++◌, take, string_bytes}
use Rattle.c_sections.specs.Working.Bodies.{group_of}
use Rattle.c_sections.proofs.instructions.InstructionLines.push_group.Given as goal

abbrev pub invariant-loop-statement : goal.invariant-loop-statement
invariant-loop-statement l =
    string_bytes l.out ≡ string_bytes l.initial.out ++ group_of l.self (take l.statement-index l.group)
