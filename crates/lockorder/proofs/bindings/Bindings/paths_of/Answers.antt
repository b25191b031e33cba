use Rattle.std.proofs.Common.{◌∙◌, ◌+◌, ◌<◌, length, ap, sym, subst}
use Rattle.std.specs.Bool.{Decides}
use Rattle.locks.specs.declared.path_set.PathSet.{PathSet}
use Rattle.locks.specs.Sets.{has}
use Rattle.lockorder.specs.Working.Sections.{IsOfClass}
use Rattle.lockorder.proofs.InSection.{class_read}
use Rattle.lockorder.proofs.Added.{below_end, end_passed, each_path, path_with, path_without}
use Rattle.lockorder.proofs.bindings.Bindings.paths_of.Goals as goal
use Rattle.lockorder.proofs.bindings.Bindings.paths_of.Goals.{then-index-class, else-index-class}

pub loop-path-preserved : goal.loop-path-preserved
loop-path-preserved c = λ i.
    let x = c.args.self.now.points.now in
    let n = c.loop-path.path in
    let here = c.index.result.now in
    let lt : n < length x.classes.items = below_end n c.len-path-end.result _ (length x.classes.items) c.loop-path-test.true c.len-path-end.ensures x.classes.ok.0 in
    let at = class_read x n here lt c.index.ensures in
    elim c.if-index-class.branch [
      | then-index-class w ↦
          path_with x c.args.class n here i at c.loop-path.paths (c.loop-path.invariant i) c.if-index-class.paths w.if-index-class.true
          (ap (λ (s : PathSet). has s i) w.paths-is ∙ w.with-paths.ensures i)
      | else-index-class w ↦
          subst (λ (s : PathSet). Decides (has s i) ((i < n + 1) × IsOfClass x c.args.class i)) (sym w.paths-is)
          (path_without x c.args.class n here i at c.loop-path.paths (c.loop-path.invariant i) w.if-index-class.false)
    ]

pub returns : goal.returns
returns c = λ i.
    let x = c.args.self.now.points.now in
    each_path x c.args.class c.loop-path.path i c.loop-path.paths
    (end_passed c.loop-path.path c.len-path-end.result _ (length x.classes.items) c.loop-path-test.false c.len-path-end.ensures x.classes.ok.0) (c.loop-path.invariant i)
