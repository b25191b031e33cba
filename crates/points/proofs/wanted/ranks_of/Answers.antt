use Rattle.std.proofs.Common.{◌++◌, [], ◌∷◌, ◌∙◌, refl, ap}
use Rattle.std.specs.Prelude.{slice_index}
use Rattle.points.proofs.Mapped.{map_more, map_all}
use Rattle.points.proofs.wanted.ranks_of.Goals as goal

pub loop-class-preserved : goal.loop-class-preserved
loop-class-preserved c =
    map_more (slice_index c.args.ranks.now) c.args.classes.now c.loop-class.class-index _ 0 _ _ refl c.loop-class-test.true c.loop-class.invariant
    (c.in_ok-push.ensures.items ∙ ap (λ rank. c.loop-class.list.items ++ rank ∷ []) c.rank_of.ensures)

pub returns : goal.returns
returns c = map_all (slice_index c.args.ranks.now) c.args.classes.now c.loop-class.class-index c.loop-class.list.items c.loop-class-test.false c.loop-class.invariant
