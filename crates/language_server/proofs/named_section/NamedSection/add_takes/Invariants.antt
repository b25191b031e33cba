use Rattle.std.proofs.Common.{◌≡◌, map, drop, fold}
use Rattle.std.specs.BTreeSet.{insert_key}
use Rattle.flow.specs.Working.PointList.{point_at}
use Rattle.code.specs.Working.NumberLists.{number_lists}
use Rattle.language_server.specs.Takes.{compare}
use Rattle.language_server.specs.Working.Sets.{told_in, point_takes_of}
use Rattle.language_server.proofs.named_section.NamedSection.add_takes.Given as goal

-- the takes found so far and the remaining ones are all takes
abbrev pub invariant-loop-i : goal.invariant-loop-i
invariant-loop-i l =
    fold (insert_key compare) (told_in l.found) (point_takes_of l.self (map point_at (drop l.i l.points)) (number_lists (drop l.i l.lists)))
    ≡ fold (insert_key compare) (told_in l.initial.found) (point_takes_of l.self (map point_at l.points) (number_lists l.lists))
