use Rattle.std.proofs.Common.{◌+◌, ◌∙◌, sym, subst, arith}
use Rattle.core_lang.specs.Scopes.{numbers_from}
use Rattle.points.specs.Working.Scoping.{is_among, test_root}
use Rattle.points.proofs.Sets.{IsUpTo, up_to_yes, up_to_no, up_to_all}
use Rattle.points.proofs.Scopings.{test_here, test_past}
use Rattle.points.proofs.roots.Roots.among_parameters.Goals as goal
use Rattle.points.proofs.roots.Roots.among_parameters.Goals.{then-is_among_parameters, else-is_among_parameters}

pub loop-i-preserved : goal.loop-i-preserved
loop-i-preserved c =
    let r = c.args.self.now.paths.now in
    let test = (is_among (numbers_from 0 c.args.parameters)) in
    let here = test_here r test c.loop-i.i c.index-self-i.result c.loop-i-test.true in
    elim c.if-is_among_parameters.branch [
      | then-is_among_parameters w ↦
          subst (IsUpTo (test_root r test) (c.loop-i.i + 1)) (sym w.set-is)
          (up_to_yes (test_root r test) c.loop-i.i c.loop-i.set w.with-set.result c.loop-i.invariant w.with-set.ensures (here ∙ sym c.is_among_parameters.ensures ∙ w.if-is_among_parameters.true))
      | else-is_among_parameters w ↦
          subst (IsUpTo (test_root r test) (c.loop-i.i + 1)) (sym w.set-is) (up_to_no (test_root r test) c.loop-i.i c.loop-i.set c.loop-i.invariant (here ∙ sym c.is_among_parameters.ensures ∙ w.if-is_among_parameters.false))
    ]

pub returns : goal.returns
returns c =
    let test = (is_among (numbers_from 0 c.args.parameters)) in
    up_to_all (test_root c.args.self.now.paths.now test) c.loop-i.i c.loop-i.set c.loop-i.invariant
    (λ j h. test_past c.args.self.now.paths.now test j (omega (arith, h, c.loop-i-test.false)))
