use Rattle.std.proofs.Common.{◌≡◌, ◌++◌, take}
use Rattle.rope.specs.Working.Ropes.{rope_text}
use Rattle.code.specs.Working.Sections.{paths_text_of}
use Rattle.code.proofs.lines.SectionLines.push_paths.Given as goal

abbrev pub invariant-loop-number : goal.invariant-loop-number
invariant-loop-number l = record {
  text : rope_text l.out ≡ rope_text l.initial.out ++ paths_text_of l.self (take l.number-index l.list);
  groups : l.out.groups ≡ l.initial.out.groups;
}
