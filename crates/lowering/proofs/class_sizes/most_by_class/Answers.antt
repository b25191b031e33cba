use Rattle.std.proofs.Common.{◌∙◌, max, ap, arith}
use Rattle.std.proofs.Math.ListN.{length-set}
use Rattle.locks.specs.declared.lock.Lock.{Lock}
use Rattle.lowering.proofs.Most.{class_within, most_turn}
use Rattle.lowering.proofs.class_sizes.most_by_class.Goals as goal

-- what is read past the end
abbrev no_lock : Lock
no_lock = record { class = 0; object = 0 }

pub index-requires : goal.index-requires
index-requires c =
    omega (
      arith,
      class_within c.args.program.now c.args.layout.now c.locks-lock-items.result.now c.loop-lock.lock-index no_lock c.requires c.locks-lock-items.ensures c.loop-lock-test.true,
      c.loop-lock.invariant.long,
      c.loop-lock.most.ok.0,
    )

pub index_mut-requires : goal.index_mut-requires
index_mut-requires c =
    omega (
      arith,
      class_within c.args.program.now c.args.layout.now c.locks-lock-items.result.now c.loop-lock.lock-index no_lock c.requires c.locks-lock-items.ensures c.loop-lock-test.true,
      c.loop-lock.invariant.long,
      c.loop-lock.most.ok.0,
    )

pub loop-lock-preserved : goal.loop-lock-preserved
loop-lock-preserved c =
    let within = class_within c.args.program.now c.args.layout.now c.locks-lock-items.result.now c.loop-lock.lock-index no_lock c.requires c.locks-lock-items.ensures c.loop-lock-test.true in
    record {
      long = length-set c.loop-lock.most.items _ c.max.result ∙ c.loop-lock.invariant.long;
      each =
          most_turn c.args.layout.now.cell_locks c.locks-lock-items.result.now c.loop-lock.lock-index no_lock c.loop-lock.most.items c.index.result.now c.max.result
          c.loop-lock.invariant.each c.loop-lock-test.true (omega (arith, within, c.loop-lock.invariant.long)) c.index.ensures
          (c.max.ensures ∙ ap (max c.index.result.now) c.cells_of.ensures);
    }
