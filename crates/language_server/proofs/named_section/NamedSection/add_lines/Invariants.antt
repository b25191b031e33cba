use Rattle.std.proofs.Common.{◌≡◌, map, drop, fold}
use Rattle.std.specs.BTreeSet.{insert_key}
use Rattle.std.specs.Cmp.Lexicographic.{slice_cmp}
use Rattle.std.specs.Ordering.{nat_cmp}
use Rattle.code.specs.Working.NumberLists.{number_lists}
use Rattle.flow.specs.Working.PointList.{point_at}
use Rattle.language_server.specs.Working.Lines.{told_lines, point_lines_of}
use Rattle.language_server.proofs.named_section.NamedSection.add_lines.Given as goal

-- the lines found so far and the remaining ones are all lines
abbrev pub invariant-loop-i : goal.invariant-loop-i
invariant-loop-i l =
    fold (insert_key (slice_cmp nat_cmp)) (told_lines l.found)
    (point_lines_of l.self l.start (map point_at (drop l.i l.listed.points.now)) (number_lists (drop l.i l.listed.held.now))
    (number_lists (drop l.i l.listed.taken.now)))
    ≡ fold (insert_key (slice_cmp nat_cmp)) (told_lines l.initial.found)
    (point_lines_of l.self l.start (map point_at l.listed.points.now) (number_lists l.listed.held.now) (number_lists l.listed.taken.now))
