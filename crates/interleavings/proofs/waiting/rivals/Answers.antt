use Rattle.std.proofs.Common.{arith, subst}
use Rattle.interleavings.specs.Working.Contests.{Comes}
use Rattle.interleavings.proofs.Contests.{enough, no_next, item_more, taken}
use Rattle.interleavings.proofs.waiting.rivals.Goals as goal

pub items-preserved : goal.items-preserved
items-preserved c =
    item_more c.args.program.now c.args.most c.items.items.items c.items.contest c.items.invariant
    (omega (arith, c.items-test.true, c.len.ensures)) c.push.new.self.items c.in-Some.item c.next.new.self
    (subst (Comes c.items.contest c.next.new.self) c.in-Some.is c.in_ok-item.ensures)
    c.in_ok-push-in-Some.ensures.items

pub returns-in-None-clause-items : goal.returns-in-None-clause-items
returns-in-None-clause-items c =
    no_next c.args.program.now c.args.most c.items.items.items c.items.contest c.items.invariant
    (omega (arith, c.items-test.true, c.len.ensures))
    (subst (Comes c.items.contest c.next.new.self) c.in-None.is c.in_ok-item.ensures)

pub returns-clause-items : goal.returns-clause-items
returns-clause-items c =
    enough c.args.program.now c.args.most c.items.items.items c.items.contest c.items.invariant
    (omega (arith, c.items-test.false, c.len.ensures))

pub returns-in-None-clause-taken : goal.returns-in-None-clause-taken
returns-in-None-clause-taken c =
    taken c.args.program.now c.args.most c.items.items.items
    (no_next c.args.program.now c.args.most c.items.items.items c.items.contest c.items.invariant
    (omega (arith, c.items-test.true, c.len.ensures))
    (subst (Comes c.items.contest c.next.new.self) c.in-None.is c.in_ok-item.ensures))

pub returns-clause-taken : goal.returns-clause-taken
returns-clause-taken c =
    taken c.args.program.now c.args.most c.items.items.items
    (enough c.args.program.now c.args.most c.items.items.items c.items.contest c.items.invariant
    (omega (arith, c.items-test.false, c.len.ensures)))
