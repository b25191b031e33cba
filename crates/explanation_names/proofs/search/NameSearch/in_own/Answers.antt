use Rattle.std.proofs.Common.{ap}
use Rattle.syntax.specs.Theory.Rows.{while_seen}
use Rattle.explanation_names.specs.Working.UsesFound.{uses_by}
use Rattle.explanation_names.specs.Working.Values.{locals_at}
use Rattle.explanation_names.proofs.Seen.{if_seen}
use Rattle.explanation_names.proofs.Added.{both, said_as}
use Rattle.explanation_names.proofs.search.NameSearch.in_own.Goals as goal

pub returns-in-Let : goal.returns-in-Let
returns-in-Let c = rw c.in-Let.is ((rw c.deref.ensures at c.in_local.ensures))

pub returns-in-LetOwned : goal.returns-in-LetOwned
returns-in-LetOwned c = rw c.in-LetOwned.is ((rw c.deref-in-LetOwned.ensures at c.in_owned.ensures))

pub returns-in-LetCall : goal.returns-in-LetCall
returns-in-LetCall c = rw c.in-LetCall.is (both (rw c.deref-in-LetCall.ensures at c.in_type.ensures) (rw c.deref-in-LetCall-2.ensures at c.in_call.ensures))

pub returns-in-Var : goal.returns-in-Var
returns-in-Var c = rw c.in-Var.is ((rw c.deref-in-Var.ensures at c.in_local-in-Var.ensures))

pub returns-in-Assign : goal.returns-in-Assign
returns-in-Assign c = rw c.in-Assign.is (both c.in_place.ensures c.in_expr.ensures)

pub returns-in-If : goal.returns-in-If
returns-in-If c =
    said_as (ap (uses_by (locals_at c.args.self.now)) (if_seen c.args.s.now c.in-If.choice c.deref-in-If.result.now c.in-If.is c.deref-in-If.ensures)) c.in_expr-in-If.ensures

pub returns-in-While : goal.returns-in-While
returns-in-While c =
    said_as (ap (uses_by (locals_at c.args.self.now)) (while_seen c.args.s.now c.in-While.repetition c.deref-in-While.result.now c.in-While.is c.deref-in-While.ensures)) c.in_expr-in-While.ensures

pub returns-in-Print : goal.returns-in-Print
returns-in-Print c = rw c.in-Print.is (c.in_expr-in-Print.ensures)

pub returns-in-Return : goal.returns-in-Return
returns-in-Return c = rw c.in-Return.is (c.in_expr-in-Return.ensures)

pub returns-in-Call : goal.returns-in-Call
returns-in-Call c = rw c.in-Call.is ((rw c.deref-in-Call.ensures at c.in_call-in-Call.ensures))
