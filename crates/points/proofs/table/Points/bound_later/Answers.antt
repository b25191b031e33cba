use Rattle.std.proofs.Common.{◌∙◌, List, sym, ap, subst, length}
use Rattle.flow.specs.Skeletons.{Skeleton, count}
use Rattle.flow.specs.Working.Parts.{skeleton_of}
use Rattle.locks.specs.declared.path_set.PathSet.{PathSet}
use Rattle.points.specs.Working.Dataflow.{AreBackwardMay}
use Rattle.points.proofs.LaterBound.{bound_later}
use Rattle.points.proofs.table.Points.bound_later.Goals as goal

pub returns : goal.returns
returns c =
    let x = c.args.self.now in
    let sets = c.in_ok-sets.sets.items in
    let counted = sym x.bound.ok.0 ∙ x.of_bound in
    let parts = ap skeleton_of c.deref.ensures.value in
    bound_later x sets (sym c.in_ok-sets.sets.ok.0 ∙ c.in_ok-sets.ensures.len ∙ ap count parts ∙ sym counted) counted
    (subst (λ (s : Skeleton). AreBackwardMay x.bound.items s sets) parts
    (subst (λ (l : List PathSet). AreBackwardMay l (skeleton_of c.deref.result.now) sets) c.deref-2.ensures.value c.in_ok-sets.ensures.sets))

pub backward_may-requires : goal.backward_may-requires
backward_may-requires c =
    let x = c.args.self.now in
    ap length c.deref-2.ensures.value ∙ sym x.bound.ok.0 ∙ x.of_bound ∙ ap (λ ps. count (skeleton_of ps)) (sym c.deref.ensures.value)
