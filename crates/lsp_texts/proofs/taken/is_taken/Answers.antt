use Rattle.std.proofs.Common.{◌≡◌, ◌∙◌, ap, sym}
use Rattle.std.specs.Prelude.{◌||◌}
use Rattle.lsp_texts.specs.Taken.{takes}
use Rattle.lsp_texts.proofs.TableLemmas.{some_none, some_more}
use Rattle.lsp_texts.proofs.taken.is_taken.Goals as goal
use Rattle.lsp_texts.proofs.taken.is_taken.Goals.{then-is_taken, else-is_taken}

pub loop-at-init : goal.loop-at-init
loop-at-init c =
    record { taken = some_none (takes c.args.tokens.now c.args.declared c.args.text.now); place = c.first-place.ensures c.args.tokens.now }

pub loop-at-preserved : goal.loop-at-preserved
loop-at-preserved c =
    let test = takes c.args.tokens.now c.args.declared c.args.text.now in
    let at = c.loop-at.at in
    let was = c.loop-at.invariant.taken in
    let now : c.if-is_taken.is_taken ≡ (c.loop-at.is_taken || test at) = elim c.if-is_taken.branch [
      | then-is_taken w ↦ w.is_taken-is ∙ w.if-is_taken.true ∙ sym (ap (λ b. b || test at) w.if-is_taken.true)
      | else-is_taken w ↦ w.is_taken-is ∙ w.takes-is_taken.ensures ∙ sym (ap (λ b. b || test at) w.if-is_taken.false)
    ] in
    record { taken = now ∙ ap (λ b. b || test at) was ∙ sym (some_more test at); place = c.behind-place.ensures }
