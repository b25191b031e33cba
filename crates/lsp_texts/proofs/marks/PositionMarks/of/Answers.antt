use Rattle.std.proofs.Common.{subst, sym}
use Rattle.std.proofs.lemmas.List.Elements.{All-push}
use Rattle.lsp_texts.specs.Working.Marks.{AreOf, IsOf}
use Rattle.lsp_texts.proofs.marks.PositionMarks.of.Goals as goal

pub loop-number-preserved : goal.loop-number-preserved
loop-number-preserved c =
    let same = rw c.loop-number.invariant.same at c.position_of.ensures.same in
    record {
      same = same;
      marks = subst (AreOf c.args.text.now) (sym c.in_ok-push.ensures.items) (All-push (IsOf c.args.text.now) _ _ c.loop-number.invariant.marks same);
    }
