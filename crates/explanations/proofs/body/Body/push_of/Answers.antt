use Rattle.std.proofs.Common.{ap, sym, append-nil}
use Rattle.syntax.specs.Theory.Rows.{while_seen}
use Rattle.syntax.specs.Trees.{Stmt}
use Rattle.syntax.specs.Views.{stmts_of}
use Rattle.explanations.specs.Warnings.{subject_of}
use Rattle.explanations.specs.Working.Found.{warned}
use Rattle.explanations.specs.Working.Judged.{decls_in}
use Rattle.explanations.proofs.Added.{added_as}
use Rattle.explanations.proofs.Seen.{if_seen}
use Rattle.explanations.proofs.body.Body.push_of.Goals as goal

pub returns-in-While : goal.returns-in-While
returns-in-While c =
    let x = c.args.self.now in
    added_as c.push_loop.result _ _ _ _
    (ap (λ (s : Stmt). warned (decls_in x.program.now) (subject_of (stmts_of x.stmts.now) s)) (while_seen c.args.stmt.now c.in-While.repetition c.deref-in-While.result.now c.in-While.is c.deref-in-While.ensures))
    c.push_loop.ensures

pub returns-in-If : goal.returns-in-If
returns-in-If c = rw (if_seen c.args.stmt.now c.in-If.field-0 c.in-If.is) (sym (append-nil _))
