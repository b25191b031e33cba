use Rattle.std.proofs.Common.{subst, sym}
use Rattle.std.proofs.lemmas.List.Elements.{All-push}
use Rattle.explanation.specs.Working.Marks.{AreOf, IsOf}
use Rattle.explanation.proofs.marks.CursorMarks.of.Goals as goal

pub loop-number-preserved : goal.loop-number-preserved
loop-number-preserved c =
    let same = rw c.loop-number.invariant.same at c.go_to.ensures.same in
    record {
      same = same;
      marks = subst (AreOf c.args.text.now) (sym c.in_ok-push.ensures.items) (All-push (IsOf c.args.text.now) _ _ c.loop-number.invariant.marks same);
    }
