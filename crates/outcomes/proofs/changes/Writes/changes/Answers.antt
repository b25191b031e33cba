use Rattle.std.proofs.Common.{◌∙◌, ◌+◌, Vec, Global, length, ap, sym, subst, refl, arith}
use Rattle.std.specs.List.Sorted.{IsNonDecreasing}
use Rattle.outcomes.specs.declared.state.Change.{Change}
use Rattle.outcomes.specs.Working.Changes.{changes_below, AreAmong}
use Rattle.outcomes.proofs.ChangeLemmas.{ArePassed, changes_step, changes_past, changes_end}
use Rattle.outcomes.proofs.changes.Writes.changes.Goals as goal
use Rattle.outcomes.proofs.changes.Writes.changes.Goals.{then-below-cell+then-cell-now+in_ok-note_change, else-below-cell, else-below-cell-via-then-below-cell+else-cell-now, else-below-cell-via-else-below-cell}

pub loop-cell-preserved : goal.loop-cell-preserved
loop-cell-preserved c =
    let self = c.args.self.now in
    let now = c.args.now.now in
    let written = c.deref-cell-items.result.now in
    let i = c.loop-cell.cell-index in
    let is = c.deref-cell-items.ensures.value in
    elim c.if-below-cell.branch [
      | then-below-cell+then-cell-now+in_ok-note_change w ↦
          (let step = changes_step self.first.now self.then.now self.opening.now now written i c.loop-cell.below _ c.loop-cell.changes.items
          w.note_change.new.changes.items
          (subst (AreAmong self.first.now) (sym is) c.in_ok-cells.ensures.first) (subst (AreAmong self.then.now) (sym is) c.in_ok-cells.ensures.then)
          (subst IsNonDecreasing (sym is) c.in_ok-cells.ensures.order) c.requires.writes c.loop-cell.invariant.passed refl c.loop-cell-test.true
          w.if-below-cell.true w.if-cell-now.true c.loop-cell.invariant.changes w.in_ok-note_change.ensures in
          record {
            changes = ap (λ (v : Vec Change Global). v.items) w.changes-is ∙ step.0 ∙ ap (changes_below self.opening.now now) (sym w.below-is);
            few = (let few = w.if-cell-now.true in let same = w.below-is in omega (arith, few, same));
            passed = subst (ArePassed written (length now) (i + 1)) (sym w.below-is) step.1;
          })
      | else-below-cell w ↦
          record {
            changes = ap (λ (v : Vec Change Global). v.items) w.changes-is ∙ c.loop-cell.invariant.changes ∙ ap (changes_below self.opening.now now) (sym w.below-is);
            few = (let few = c.loop-cell.invariant.few in let same = w.below-is in omega (arith, few, same));
            passed = subst (ArePassed written (length now) (i + 1)) (sym w.below-is)
                (changes_past written (length now) i c.loop-cell.below _ c.loop-cell.invariant.passed refl
                (elim w.else-below-cell.branch [
                  | else-below-cell-via-then-below-cell+else-cell-now w' ↦ λ there. absurd (let not = w'.if-cell-now.false in omega (arith, not, there))
                  | else-below-cell-via-else-below-cell w' ↦ λ there. w'.if-below-cell.false
                ]));
          }
    ]

pub returns : goal.returns
returns c =
    let self = c.args.self.now in
    let now = c.args.now.now in
    let written = c.deref-cell-items.result.now in
    let is = c.deref-cell-items.ensures.value in
    changes_end self.first.now self.then.now self.opening.now now written c.loop-cell.cell-index c.loop-cell.below c.loop-cell.changes.items
    (subst (AreAmong self.first.now) (sym is) c.in_ok-cells.ensures.first) (subst (AreAmong self.then.now) (sym is) c.in_ok-cells.ensures.then)
    c.requires.writes c.loop-cell.invariant.passed c.loop-cell-test.false c.loop-cell.invariant.few c.requires.long c.loop-cell.invariant.changes
