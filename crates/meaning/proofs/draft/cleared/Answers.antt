use Rattle.std.proofs.Common.{subst, length}
use Rattle.std.proofs.lemmas.List.{drop_all}
use Rattle.meaning.specs.Working.Undo.{IsKept}
use Rattle.meaning.proofs.Kept.{kept_after, all_clear}
use Rattle.meaning.proofs.draft.cleared.Goals as goal

pub loop-write-preserved : goal.loop-write-preserved
loop-write-preserved c = kept_after _ _ c.args.overwritten.now c.loop-write.write-index _ _ c.loop-write-test.true c.loop-write.invariant c.clear.ensures

pub returns : goal.returns
returns c =
    all_clear c.loop-write.marks.items (length c.args.cells.now)
    (subst (λ l. IsKept c.loop-write.marks.items l (length c.args.cells.now)) (drop_all c.loop-write.write-index c.args.overwritten.now c.loop-write-test.false) c.loop-write.invariant)
