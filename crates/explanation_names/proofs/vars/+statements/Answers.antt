use Rattle.std.proofs.Common.{refl, append_assoc}
use Rattle.explanation_names.proofs.VarStatements.{within_while, within_if}
use Rattle.explanation_names.proofs.vars.+statements.Goals as goal

pub push_within-returns-in_ok-push_behind-in-If : goal.push_within-returns-in_ok-push_behind-in-If
push_within-returns-in_ok-push_behind-in-If t c =
    rw (
      c.in_ok-push_behind-in-If.ensures,
      c.in_ok-push_all-in-If.ensures,
      c.deref-in-If.ensures.value,
      c.deref.ensures,
      c.deref-in-If-2.ensures,
      within_if c.args.stmt.now c.in-If.choice c.in-If.is,
      append_assoc,
    ) refl

pub push_within-returns-in_ok-push_all-in-While : goal.push_within-returns-in_ok-push_all-in-While
push_within-returns-in_ok-push_all-in-While t c =
    rw (
      c.in_ok-push_all-in-While.ensures,
      c.deref-in-While-2.ensures.value,
      c.deref-in-While.ensures,
      within_while c.args.stmt.now c.in-While.repetition c.in-While.is,
    ) refl
