use Rattle.std.proofs.Common.{sym}
use Rattle.syntax.specs.Views.{class_name_of, decl_of}
use Rattle.explanation_names.specs.Working.Values.{idents}
use Rattle.explanation_faults.proofs.Declared.{is_listed, of_body, of_no_body}
use Rattle.explanation_faults.proofs.tree_notes.Faulty.declared_in.Goals as goal

pub returns-in-Some-first_of_classes : goal.returns-in-Some-first_of_classes
returns-in-Some-first_of_classes c =
    is_listed (idents c.args.top.now) (idents c.in_ok-inner.inner.items) (decl_of c.args.decl.now) c.args.self.now.at c.in_ok-inner.ensures
    (class_name_of c.in-Some-first_of_classes.first.now) (rw c.classes_in.ensures at c.in-Some-first_of_classes.ensures)

pub returns-then-is_body : goal.returns-then-is_body
returns-then-is_body c =
    of_body (idents c.args.top.now) (idents c.in_ok-inner.inner.items) (decl_of c.args.decl.now) c.args.self.now.at c.in_ok-inner.ensures
    (rw c.deref.ensures.value at c.in_default.ensures) (rw c.classes_in.ensures at c.in_default-first_of_classes.ensures) c.first_of_others.result (sym c.if-is_body.ensures)
    (rw c.deref-then-is_body.ensures.value at c.first_of_others.ensures)

pub returns : goal.returns
returns c =
    of_no_body (idents c.args.top.now) (idents c.in_ok-inner.inner.items) (decl_of c.args.decl.now) c.args.self.now.at c.in_ok-inner.ensures
    (rw c.deref.ensures.value at c.in_default.ensures) (rw c.classes_in.ensures at c.in_default-first_of_classes.ensures) (sym c.if-is_body.ensures)
