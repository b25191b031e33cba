use Rattle.std.proofs.Common.{◌≡◌, ◌++◌, map, drop}
use Rattle.rope.specs.Working.Ropes.{rope_text}
use Rattle.inserter.specs.Placement.{lists_of}
use Rattle.report_check.specs.Check.{sections_by}
use Rattle.report_check.specs.Working.Values.{take_by}
use Rattle.report_check.proofs.check.Check.push_sections.Given as goal

-- the written text and that of the remaining items are the whole text
abbrev pub invariant-loop-i : goal.invariant-loop-i
invariant-loop-i l =
    let text = l.self.text.now in
    let program = l.self.program.now in
    let placed = l.self.placed.now.sections.items in
    let take = take_by l.sources text program in
    record {
      same : l.cursor.text.now ≡ text;
      whole : rope_text l.out
          ++ sections_by take (drop l.i program.sections.items) (map lists_of (drop l.i placed))
          ≡ rope_text l.initial.out ++ sections_by take program.sections.items (map lists_of placed);
    }
