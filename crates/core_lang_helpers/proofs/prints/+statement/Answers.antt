use Rattle.core_lang_helpers.proofs.PrintCounts.{if_prints, if_else_prints, while_none, while_some}
use Rattle.core_lang_helpers.proofs.prints.+statement.Goals as goal

pub of_statement-returns-in-If : goal.of_statement-returns-in-If
of_statement-returns-in-If t c = if_prints _ _ _ _ _ c.in-If.is c.deref.ensures.value c.of_block.ensures

pub of_statement-returns-in-IfElse : goal.of_statement-returns-in-IfElse
of_statement-returns-in-IfElse t c =
    if_else_prints _ _ _ _ _ _ _ _ _ c.in-IfElse.is c.deref-in-IfElse.ensures.value c.deref-in-IfElse-2.ensures.value c.of_block-in-IfElse.ensures
    c.of_block-in-IfElse-2.ensures c.min.ensures

pub of_statement-returns-then-once-eq0 : goal.of_statement-returns-then-once-eq0
of_statement-returns-then-once-eq0 t c =
    while_none _ _ _ _ _ c.in-While.is c.deref-in-While.ensures.value c.of_block-once.ensures c.if-once-eq0.true

pub of_statement-returns-else-once-eq0 : goal.of_statement-returns-else-once-eq0
of_statement-returns-else-once-eq0 t c =
    while_some _ _ _ _ _ c.in-While.is c.deref-in-While.ensures.value c.of_block-once.ensures c.if-once-eq0.false
