use Rattle.std.proofs.Common.{◌∙◌, ◌||◌, ap}
use Rattle.std.proofs.Common.{arith}
use Rattle.locks.specs.declared.path_set.PathSet.{PathSet}
use Rattle.locks.specs.Sets.{has}
use Rattle.lockorder.proofs.Bound.{any_behind}
use Rattle.lockorder.proofs.InSection.{set_read}
use Rattle.lockorder.proofs.bindings.Bindings.behind.Goals as goal

pub returns : goal.returns
returns c =
    let b = c.args.self.now in
    let x = b.points.now in
    let p = c.args.point in
    let are = c.requires.bindings in
    let here = set_read x.bound.items p c.index.result.now c.requires.point c.index.ensures in
    let later = set_read b.later.items p c.index-2.result.now (omega (arith, c.requires.point, are.later.0)) c.index-2.ensures in
    any_behind x b.later.items are.later p c.requires.point c.index.result.now c.union.result here
    (λ i. c.union.ensures i ∙ ap (λ (s : PathSet). has c.index.result.now i || has s i) later)
