use Rattle.std.proofs.Common.{◌∙◌, map, refl, sym, ap}
use Rattle.std.specs.Prelude.{slice_index}
use Rattle.flow.specs.Skeletons.{count}
use Rattle.points.proofs.WantedSets.{wanted_sets}
use Rattle.points.proofs.table.Points.wanted.Goals as goal

pub returns : goal.returns
returns c = λ program section are.
    let counted = c.points_are_counted.ensures.points in
    wanted_sets program section counted c.each_path_once.ensures.listed c.args.self.now c.args.ranks.now
    (map (slice_index c.args.ranks.now) c.args.self.now.classes.items) are refl c.in_ok-sets.sets.len c.in_ok-sets.sets.items
    (c.in_ok-sets.ensures.len ∙ ap count are.parts ∙ counted section) (sym c.in_ok-sets.sets.ok.0) c.in_ok-sets.ensures.sets
