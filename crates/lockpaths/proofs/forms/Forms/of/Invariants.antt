use Rattle.std.proofs.Common.{◌≡◌, ◌++◌, map, drop}
use Rattle.flow.specs.Working.PointList.{point_at}
use Rattle.lockpaths.specs.Working.Forms.{replacements_at}
use Rattle.lockpaths.proofs.forms.Forms.of.Given as goal

abbrev pub invariant-loop-point : goal.invariant-loop-point
invariant-loop-point l =
    l.forms.table ++ replacements_at l.fn.section (map point_at (drop l.point-index l.points)) ≡ replacements_at l.fn.section (map point_at l.points)
