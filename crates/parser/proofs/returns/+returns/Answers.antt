use Rattle.std.proofs.Common.{List, refl, sym, ap, ◌∙◌}
use Rattle.syntax.specs.declared.tree.Stmt as the_stmt
use Rattle.syntax.specs.declared.tree.While as the_while
use Rattle.syntax.specs.Views.{stmts_of}
use Rattle.parser.specs.Working.Returning.{least_return}
use Rattle.parser.proofs.Least.{inner_while, inner_if}
use Rattle.parser.proofs.returns.+returns.Goals as goal

pub inner_return-returns-in-While : goal.inner_return-returns-in-While
inner_return-returns-in-While t c =
    c.least_return-in-While.ensures
    ∙ ap (λ (xs : List the_stmt.Stmt). least_return (stmts_of xs)) c.deref-in-While-2.ensures.value
    ∙ ap (λ (w : the_while.While). least_return (stmts_of w.block.stmts.items)) c.deref-in-While.ensures
    ∙ sym (inner_while c.args.stmt.now c.in-While.repetition c.in-While.is)

pub inner_return-returns-in-If : goal.inner_return-returns-in-If
inner_return-returns-in-If t c =
    rw (c.earlier.ensures, c.least_return.ensures, c.else_return.ensures, c.deref-in-If.ensures.value, c.deref.ensures, c.deref-in-If-2.ensures, inner_if c.args.stmt.now c.in-If.choice c.in-If.is) refl
