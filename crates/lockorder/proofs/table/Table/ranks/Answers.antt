use Rattle.std.proofs.Common.{arith}
use Rattle.lockorder.proofs.Ranked.{none_ranked, one_ranked, all_ranked, cycle_of_ranked}
use Rattle.lockorder.proofs.table.Table.ranks.Goals as goal

pub loop-rank-init : goal.loop-rank-init
loop-rank-init c =
    none_ranked c.args.self.now.before.items c.new-listed.result c.loop-class.ranks.items c.new-listed.ensures
    (omega (arith, c.loop-class.invariant, c.loop-class-test.false, c.loop-class.auto._class-end, c.len-classes.ensures, c.args.self.now.before.ok.0))

pub returns-in_default : goal.returns-in_default
returns-in_default c =
    cycle_of_ranked c.args.self.now.before.items c.loop-rank.listed c.loop-rank.ranks.items c.loop-rank.rank c.loop-rank.invariant c.args.self.now.within
    (omega (arith, c.loop-rank-test.true, c.len-classes.ensures, c.args.self.now.before.ok.0)) c.in_default.ensures

pub loop-rank-preserved : goal.loop-rank-preserved
loop-rank-preserved c =
    one_ranked c.args.self.now.before.items c.loop-rank.listed c.loop-rank.ranks.items c.loop-rank.rank c.loop-rank.invariant c.in-Some.class c.with-listed.result c.with-listed.ensures c.in-Some.ensures

pub returns : goal.returns
returns c =
    all_ranked c.args.self.now.before.items c.loop-rank.listed c.loop-rank.ranks.items c.loop-rank.rank c.loop-rank.invariant
    (omega (arith, c.loop-rank-test.false, c.loop-rank.auto.rank-end, c.len-classes.ensures, c.args.self.now.before.ok.0))
