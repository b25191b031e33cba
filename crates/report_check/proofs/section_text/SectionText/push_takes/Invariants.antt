use Rattle.std.proofs.Common.{◌≡◌, ◌++◌, map, drop}
use Rattle.rope.specs.Working.Ropes.{rope_text}
use Rattle.flow.specs.Working.PointList.{point_at}
use Rattle.report_check.specs.Check.{takes_by}
use Rattle.report_check.specs.Working.Values.{take_by}
use Rattle.report_check.proofs.section_text.SectionText.push_takes.Given as goal

-- the written text and that of the remaining items are the whole text
abbrev pub invariant-loop-i : goal.invariant-loop-i
invariant-loop-i l =
    let text = l.initial.cursor.text.now in
    let take = take_by l.self.sources text l.self.program.now l.self.section.now in
    let lists = l.self.lists.now.before.items in
    record {
      same : l.cursor.text.now ≡ text;
      groups : l.out.groups ≡ l.initial.out.groups;
      whole : rope_text l.out
          ++ takes_by take (map point_at (drop l.i l.points)) (map (λ list. list.items) (drop l.i lists))
          ≡ rope_text l.initial.out ++ takes_by take (map point_at l.points) (map (λ list. list.items) lists);
    }
