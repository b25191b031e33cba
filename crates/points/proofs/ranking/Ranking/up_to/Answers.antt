use Rattle.std.proofs.Common.{ℕ, Bool, ◌+◌, sym, subst, ap}
use Rattle.std.specs.Prelude.{nat_lt, not, slice_index}
use Rattle.std.proofs.lemmas.Bool.{lt-ltb, le-ltb}
use Rattle.points.proofs.Sets.{IsUpTo, up_to_yes, up_to_no}
use Rattle.points.proofs.ranking.Ranking.up_to.Goals.{then-self-i, else-self-i}
use Rattle.points.proofs.ranking.Ranking.up_to.Goals as goal

pub loop-i-preserved : goal.loop-i-preserved
loop-i-preserved c =
    let i = c.loop-i.i in
    let rank = slice_index c.args.self.now.ranks.now i in
    let test : ℕ → Bool = λ j. not (nat_lt c.args.greatest (slice_index c.args.self.now.ranks.now j)) in
    elim c.if-self-i.branch [
      | then-self-i w ↦
          subst (IsUpTo test (i + 1)) (sym w.set-is)
          (up_to_yes test i c.loop-i.set w.with-set.result c.loop-i.invariant w.with-set.ensures (ap not (le-ltb c.args.greatest rank w.if-self-i.true)))
      | else-self-i w ↦
          subst (IsUpTo test (i + 1)) (sym w.set-is) (up_to_no test i c.loop-i.set c.loop-i.invariant (ap not (lt-ltb c.args.greatest rank w.if-self-i.false)))
    ]
