use Rattle.std.proofs.Common.{◌≡◌, ◌+◌, ◌∙◌, length, sym, subst, arith}
use Rattle.points.specs.Working.Ranks.{IsGreatest}
use Rattle.points.proofs.RankLists.{greatest_more, greatest_same}
use Rattle.points.proofs.ranking.Ranking.greatest.Goals as goal
use Rattle.points.proofs.ranking.Ranking.greatest.Goals.{then-contains, else-contains}

pub loop-i-preserved : goal.loop-i-preserved
loop-i-preserved c =
    let ranks = c.args.self.now.ranks.now in
    elim c.if-contains.branch [
      | then-contains w ↦
          subst (IsGreatest ranks c.args.used (c.loop-i.i + 1)) (sym w.greatest-is)
          (greatest_more ranks c.args.used c.loop-i.i w.greater.result c.loop-i.greatest c.loop-i.invariant (sym c.contains.ensures ∙ w.if-contains.true) w.greater.ensures)
      | else-contains w ↦
          subst (IsGreatest ranks c.args.used (c.loop-i.i + 1)) (sym w.greatest-is)
          (greatest_same ranks c.args.used c.loop-i.i c.loop-i.greatest c.loop-i.invariant (sym c.contains.ensures ∙ w.if-contains.false))
    ]

pub returns : goal.returns
returns c =
    let all : c.loop-i.i ≡ length c.args.self.now.ranks.now = omega (arith, c.loop-i-test.false, c.loop-i.auto.i-end) in
    subst (λ n. IsGreatest c.args.self.now.ranks.now c.args.used n c.loop-i.greatest) all c.loop-i.invariant
