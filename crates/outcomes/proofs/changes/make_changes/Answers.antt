use Rattle.std.proofs.Common.{◌≡◌, ◌∙◌, List, ap, subst}
use Rattle.std.proofs.lemmas.List.{drop_all}
use Rattle.outcomes.specs.declared.state.Change.{Change}
use Rattle.outcomes.specs.Working.Changes.{applied}
use Rattle.outcomes.proofs.changes.make_changes.Goals as goal

pub loop-change-init : goal.loop-change-init
loop-change-init c = record {
  cells = ap (applied c.args.changes.now) (c.new-draft.ensures.now ∙ c.replace.ensures.value);
  before = c.new-draft.ensures.before ∙ c.replace.ensures.value;
}

pub returns-clause-cells : goal.returns-clause-cells
returns-clause-cells c =
    c.keep_both-changed.ensures.now
    ∙ subst (λ (l : List Change). applied l c.loop-change.draft.now ≡ applied c.args.changes.now c.args.heap.now)
    (drop_all c.loop-change.change-index c.args.changes.now c.loop-change-test.false) c.loop-change.invariant.cells

pub returns-clause-back : goal.returns-clause-back
returns-clause-back c = c.keep_both-changed.ensures.before ∙ c.loop-change.invariant.before
