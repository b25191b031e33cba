use Rattle.std.proofs.Common.{◌∙◌, ◌&&◌, ap, subst, arith}
use Rattle.std.specs.Bool.{Decides}
use Rattle.locks.specs.declared.path_set.PathSet.{PathSet}
use Rattle.locks.specs.Sets.{has}
use Rattle.lockorder.specs.Working.Sections.{Share}
use Rattle.lockorder.proofs.Bound.{for_here, for_later}
use Rattle.lockorder.proofs.InSection.{set_read}
use Rattle.lockorder.proofs.bindings.Bindings.is_for.Goals as goal

pub returns : goal.returns
returns c =
    let b = c.args.self.now in
    let x = b.points.now in
    let p = c.args.point in
    let are = c.requires.bindings in
    let here = set_read x.bound.items c.args.bound c.index-binds.result.now c.requires.bound c.index-binds.ensures in
    let later = set_read b.later.items p c.index.result.now (omega (arith, c.requires.point, are.later.0)) c.index.ensures in
    for_later x b.later.items are.later p c.requires.point c.args.roots c.requires.roots c.args.bound c.requires.once c.if-point-bound.false c.share-2.result
    c.meet.result (λ i. c.meet.ensures i ∙ ap (λ (s : PathSet). has s i && has c.args.roots i) here)
    (subst (λ (s : PathSet). Decides c.share-2.result (Share c.meet.result s)) later c.share-2.ensures)

pub returns-then-point-bound : goal.returns-then-point-bound
returns-then-point-bound c =
    let b = c.args.self.now in
    let x = b.points.now in
    let here = set_read x.bound.items c.args.bound c.index-binds.result.now c.requires.bound c.index-binds.ensures in
    for_here x b.later.items c.requires.bindings.later c.args.point c.requires.point c.args.roots c.requires.roots c.args.bound c.if-point-bound.true c.share.result
    (subst (λ (s : PathSet). Decides c.share.result (Share s c.args.roots)) here c.share.ensures)
