use Rattle.std.proofs.Common.{◌∙◌, ◌+◌, ◌<◌, Some, length, refl, arith}
use Rattle.std.proofs.Math.ListN.{length-set}
use Rattle.std.proofs.lemmas.Option.{slice_get_within}
use Rattle.std.proofs.lemmas.Grind.{get_or_default_zero}
use Rattle.lowering.proofs.Most.{lock_within, count_within, count_turn}
use Rattle.lowering.proofs.class_sizes.cells_by_class.Goals as goal

pub index_mut-requires : goal.index_mut-requires
index_mut-requires c =
    let within = lock_within c.args.program.now c.args.layout.now c.lock_of-class.result c.requires c.lock_of-class.ensures.listed in
    omega (arith, within, c.loop-cell.invariant.long, c.loop-cell.all.ok.0)

pub overflow_add-index_mut : goal.overflow_add-index_mut
overflow_add-index_mut c =
    let cells = c.args.layout.now.cell_locks in
    let class = c.lock_of-class.result.class in
    let few = count_within cells c.loop-cell.cell class (slice_get_within cells c.loop-cell.cell c.lock_of-class.result c.lock_of-class.ensures.lock) in
    let within = lock_within c.args.program.now c.args.layout.now c.lock_of-class.result c.requires c.lock_of-class.ensures.listed in
    let same = get_or_default_zero c.loop-cell.all.items class c.index_mut.result.now (omega (arith, within, c.loop-cell.invariant.long)) in
    omega (arith, few, same, c.loop-cell.invariant.each class, c.loop-cell-test.true, c.index_mut.ensures.value)

pub loop-cell-preserved : goal.loop-cell-preserved
loop-cell-preserved c =
    let lock = c.lock_of-class.result in
    let now = c.index_mut.result.now in
    let within = lock_within c.args.program.now c.args.layout.now lock c.requires c.lock_of-class.ensures.listed in
    record {
      long = length-set c.loop-cell.all.items _ _ ∙ c.loop-cell.invariant.long;
      each =
          count_turn c.args.layout.now.cell_locks c.loop-cell.cell lock c.loop-cell.all.items now (now + 1)
          c.loop-cell.invariant.each c.lock_of-class.ensures.lock (omega (arith, within, c.loop-cell.invariant.long))
          c.index_mut.ensures.value refl;
    }
