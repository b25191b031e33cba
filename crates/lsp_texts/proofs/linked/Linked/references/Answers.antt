use Rattle.std.proofs.Common.{◌∙◌, true, false, sym, ap, append-nil}
use Rattle.lsp_texts.proofs.ReferenceLemmas.{none_in, one_more}
use Rattle.lsp_texts.proofs.linked.Linked.references.Goals as goal
use Rattle.lsp_texts.proofs.linked.Linked.references.Goals.{then-is_reference+in_ok-push, else-is_reference}

pub loop-at-init : goal.loop-at-init
loop-at-init c = c.new-found.ensures.items ∙ none_in c.args.self.now.tokens.now c.args.itself c.args.declared

pub loop-at-preserved : goal.loop-at-preserved
loop-at-preserved c =
    let more = one_more c.args.self.now.tokens.now c.args.itself c.args.declared c.loop-at.at c.loop-at.found.items c.if-is_reference.found.items in
    elim c.if-is_reference.branch [
      | then-is_reference+in_ok-push w ↦
          more true c.loop-at.invariant (sym w.if-is_reference.true ∙ c.is_reference.ensures)
          (ap (λ v. v.items) w.found-is ∙ w.in_ok-push.ensures.items)
      | else-is_reference w ↦
          more false c.loop-at.invariant (sym w.if-is_reference.false ∙ c.is_reference.ensures)
          (ap (λ v. v.items) w.found-is ∙ sym (append-nil _))
    ]
