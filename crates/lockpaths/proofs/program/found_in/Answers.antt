use Rattle.std.proofs.Common.{◌∙◌, map, ap}
use Rattle.flow.specs.Working.PointList.{point_at}
use Rattle.lockpaths.specs.Working.Told.{Seen, seen}
use Rattle.lockpaths.proofs.Reading.{found_there}
use Rattle.lockpaths.proofs.program.found_in.Goals as goal

pub returns : goal.returns
returns c =
    found_there c.args.program.now c.args.section.now c.args.least (map point_at c.deref.result.now) (map point_at c.deref-2.result.now) (map point_at c.deref-3.result.now)
    (seen c.new-found.result) (seen c.points.new.found) (seen c.owners.new.found) c.in_ok-forms.forms.table
    (ap (λ (s : Seen). seen s) c.new-found.ensures) c.in_ok-forms.ensures c.in_ok-points-2.ensures c.in_ok-owners.ensures
    (ap (map point_at) c.deref.ensures.value ∙ c.in_ok-points.ensures) (ap (map point_at) c.deref-2.ensures.value ∙ c.in_ok-points.ensures)
    (ap (map point_at) c.deref-3.ensures.value ∙ c.in_ok-points.ensures)
