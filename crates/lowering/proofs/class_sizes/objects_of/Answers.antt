use Rattle.std.proofs.Common.{◌∙◌, arith}
use Rattle.std.proofs.lemmas.Bool.{eq-eqb, ne_eqb}
use Rattle.lowering.proofs.Most.{pool_more, pool_same}
use Rattle.lowering.proofs.class_sizes.objects_of.Goals as goal
use Rattle.lowering.proofs.class_sizes.objects_of.Goals.{then-pool-structure+in_ok-count, else-pool-structure}

pub loop-pool-preserved : goal.loop-pool-preserved
loop-pool-preserved c =
    let pools = c.deref-pool-items.result.now in
    let pool = c.pool-item.result in
    elim c.if-pool-structure.branch [
      | then-pool-structure+in_ok-count w ↦
          w.count-is
          ∙ pool_more c.args.structure pools c.loop-pool.pool-index c.loop-pool.count w.in_ok-count.count pool c.loop-pool-test.true
          c.pool-item.is c.loop-pool.invariant (eq-eqb pool.structure c.args.structure w.if-pool-structure.true) w.in_ok-count.ensures.1
      | else-pool-structure w ↦
          w.count-is
          ∙ pool_same c.args.structure pools c.loop-pool.pool-index c.loop-pool.count pool c.loop-pool-test.true
          c.pool-item.is c.loop-pool.invariant (ne_eqb pool.structure c.args.structure w.if-pool-structure.false)
    ]
