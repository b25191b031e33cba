use Rattle.points.proofs.RankLists.{wanted_some, wanted_none}
use Rattle.points.proofs.ranking.Ranking.wanted.Goals as goal

pub returns-in-Some : goal.returns-in-Some
returns-in-Some c =
    wanted_some c.args.self.now.ranks.now c.args.used c.args.later c.args.in_scope c.up_to.result c.meet.result c.union.result c.meet-in-Some.result c.in-Some.greatest
    c.in-Some.ensures c.up_to.ensures c.meet.ensures c.union.ensures c.meet-in-Some.ensures

pub returns-in-None : goal.returns-in-None
returns-in-None c = wanted_none c.args.self.now.ranks.now c.args.used c.args.later c.args.in_scope c.new.result c.in-None.ensures c.new.ensures
