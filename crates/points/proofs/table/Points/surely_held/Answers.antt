use Rattle.std.proofs.Common.{◌∙◌, map, refl, sym, ap, subst, length}
use Rattle.std.specs.Prelude.{slice_index}
use Rattle.flow.specs.Skeletons.{count}
use Rattle.flow.specs.Working.Parts.{skeleton_of}
use Rattle.locks.specs.Sets.{AreSets}
use Rattle.points.specs.Wanted.{IsWanted}
use Rattle.points.proofs.WantedSets.{wanted_sets, held_sets}
use Rattle.points.proofs.table.Points.surely_held.Goals as goal

pub returns : goal.returns
returns c = λ program section are.
    let counted = c.points_are_counted.ensures.points in
    let listed = c.each_path_once.ensures.listed in
    let x = c.args.self.now in
    let ranks = c.args.ranks.now in
    let by_path = map (slice_index ranks) x.classes.items in
    let wanted =
    wanted_sets program section counted listed x ranks by_path are refl c.in_ok-wanted.wanted.len c.in_ok-wanted.wanted.items
    (c.in_ok-wanted.ensures.len ∙ ap count are.parts ∙ counted section) (sym c.in_ok-wanted.wanted.ok.0) c.in_ok-wanted.ensures.sets in
    held_sets program section counted listed x ranks by_path are refl c.deref-2.result.now c.deref-3.result.now (skeleton_of c.deref.result.now)
    c.in_ok-sets.sets.items (subst (AreSets program section (IsWanted program section ranks)) (sym c.deref-2.ensures.value) wanted) c.deref-3.ensures.value
    (ap skeleton_of c.deref.ensures.value ∙ are.parts) (sym c.in_ok-sets.sets.ok.0 ∙ c.in_ok-sets.ensures.len) c.in_ok-sets.ensures.sets

pub forward_must-requires : goal.forward_must-requires
forward_must-requires c =
    ap length c.deref-2.ensures.value ∙ sym c.in_ok-wanted.wanted.ok.0 ∙ c.in_ok-wanted.ensures.len ∙ ap (λ ps. count (skeleton_of ps)) (sym c.deref.ensures.value)
