use Rattle.std.proofs.Common.{◌≡◌, map, take}
use Rattle.flow.specs.Working.PointList.{point_at}
use Rattle.code.specs.Working.Places.{position_in}
use Rattle.code.proofs.places.SectionPlaces.of.Given as goal

abbrev pub invariant-loop-point : goal.invariant-loop-point
invariant-loop-point l =
    let text = l.initial.cursor.text.now in
    record {
      same : l.cursor.text.now ≡ text;
      each : l.positions.items ≡ map (position_in text) (map point_at (take l.point-index l.point-items));
    }
