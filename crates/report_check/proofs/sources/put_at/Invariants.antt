use Rattle.std.proofs.Common.{◌≡◌, ℕ, nat_eq, map, drop}
use Rattle.std.specs.Option.{option_copied}
use Rattle.indexmap.specs.IndexMap.{get}
use Rattle.flow.specs.Working.PointList.{point_at}
use Rattle.report_check.specs.Working.HelperIndexes.{put_over}
use Rattle.report_check.proofs.sources.put_at.Given as goal

-- with the remaining points the index is complete
abbrev pub invariant-loop-point : goal.invariant-loop-point
invariant-loop-point l =
    (start : ℕ)
    → put_over (map point_at (drop l.point-index l.points)) l.helper (option_copied (get nat_eq l.index start)) start
    ≡ put_over (map point_at l.points) l.helper (option_copied (get nat_eq l.initial.index start)) start
