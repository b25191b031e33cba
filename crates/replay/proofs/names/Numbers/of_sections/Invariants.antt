use Rattle.std.proofs.Common.{map, string_bytes}
use Rattle.core_lang.specs.declared.tree.Section.{Section}
use Rattle.replay.proofs.Numbering.{AreLast}
use Rattle.replay.proofs.names.Numbers.of_sections.Given as goal

-- the numbers of the last names so far
abbrev pub invariant-loop-left : goal.invariant-loop-left
invariant-loop-left l = AreLast (map (λ (x : Section). string_bytes x.name) l.sections) l.left l.numbers
