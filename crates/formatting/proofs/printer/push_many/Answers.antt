use Rattle.std.proofs.Common.{◌++◌, [], ◌∷◌, ap, ◌∙◌, sym, append_assoc, List, ℕ}
use Rattle.formatting.specs.Layout.{many}
use Rattle.formatting.proofs.Cuts.{many_more}
use Rattle.formatting.proofs.printer.push_many.Goals as goal

pub loop-i-preserved : goal.loop-i-preserved
loop-i-preserved c =
    c.in_ok-push.ensures.items
    ∙ ap (λ (l : List ℕ). l ++ c.args.byte ∷ []) c.loop-i.invariant
    ∙ append_assoc c.args.text.now.items (many c.loop-i.i c.args.byte) (c.args.byte ∷ [])
    ∙ ap (λ (l : List ℕ). c.args.text.now.items ++ l) (sym (many_more c.loop-i.i c.args.byte))
