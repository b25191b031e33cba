use Rattle.std.proofs.Common.{◌+◌, ◌∙◌, sym, subst, arith}
use Rattle.points.specs.Working.Scoping.{is_at, test_root}
use Rattle.points.proofs.Sets.{IsUpTo, up_to_yes, up_to_no, up_to_all}
use Rattle.points.proofs.Scopings.{test_here, test_past}
use Rattle.points.proofs.roots.Roots.at.Goals as goal
use Rattle.points.proofs.roots.Roots.at.Goals.{then-is_local, else-is_local}

pub loop-i-preserved : goal.loop-i-preserved
loop-i-preserved c =
    let r = c.args.self.now.paths.now in
    let test = (is_at c.args.local) in
    let here = test_here r test c.loop-i.i c.index-self-i.result c.loop-i-test.true in
    elim c.if-is_local.branch [
      | then-is_local w ↦
          subst (IsUpTo (test_root r test) (c.loop-i.i + 1)) (sym w.set-is)
          (up_to_yes (test_root r test) c.loop-i.i c.loop-i.set w.with-set.result c.loop-i.invariant w.with-set.ensures (here ∙ sym c.is_local.ensures ∙ w.if-is_local.true))
      | else-is_local w ↦
          subst (IsUpTo (test_root r test) (c.loop-i.i + 1)) (sym w.set-is) (up_to_no (test_root r test) c.loop-i.i c.loop-i.set c.loop-i.invariant (here ∙ sym c.is_local.ensures ∙ w.if-is_local.false))
    ]

pub returns : goal.returns
returns c =
    let test = (is_at c.args.local) in
    up_to_all (test_root c.args.self.now.paths.now test) c.loop-i.i c.loop-i.set c.loop-i.invariant
    (λ j h. test_past c.args.self.now.paths.now test j (omega (arith, h, c.loop-i-test.false)))
