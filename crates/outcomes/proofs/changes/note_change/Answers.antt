use Rattle.std.proofs.Common.{◌≡◌, ◌∙◌, ◌++◌, List, true, None, ap, sym, append-nil}
use Rattle.std.proofs.lemmas.List.{get_or_default}
use Rattle.core_lang.specs.declared.value.Value.TheVariants.{Ref}
use Rattle.outcomes.specs.declared.state.Change.{Change}
use Rattle.outcomes.proofs.ChangeLemmas.{change_is, change_none}
use Rattle.outcomes.proofs.changes.note_change.Goals as goal

pub returns-in_ok-push : goal.returns-in_ok-push
returns-in_ok-push c =
    c.in_ok-push.ensures.items
    ∙ ap (λ (l : List Change). c.args.changes.now.items ++ l)
    (sym (change_is c.args.opening.now c.args.now.now c.args.cell _ _
    (get_or_default c.args.opening.now c.args.cell _ (Ref None) c.requires.opening)
    (get_or_default c.args.now.now c.args.cell _ (Ref None) c.requires.now)
    (λ e. absurd (let yes : c.same_value.result ≡ true = c.same_value.ensures.1 e in cc))))

pub returns-else-not-same_value : goal.returns-else-not-same_value
returns-else-not-same_value c =
    sym (append-nil c.args.changes.now.items)
    ∙ ap (λ (l : List Change). c.args.changes.now.items ++ l)
    (sym (change_none c.args.opening.now c.args.now.now c.args.cell _ _
    (get_or_default c.args.opening.now c.args.cell _ (Ref None) c.requires.opening)
    (get_or_default c.args.now.now c.args.cell _ (Ref None) c.requires.now)
    (c.same_value.ensures.0 c.if-not-same_value.false)))
