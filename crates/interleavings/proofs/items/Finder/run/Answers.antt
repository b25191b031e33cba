use Rattle.std.proofs.Common.{get_or, arith}
use Rattle.input_files.specs.declared.item.Item.{Item}
use Rattle.input_files.specs.declared.item.Until.TheVariants.{Count}
use Rattle.interleavings.specs.Working.Found.{IsTooMuch, RunIsTooMuch}
use Rattle.interleavings.proofs.Finding.{weaker_fault, runs_on, runs_fault}
use Rattle.interleavings.proofs.items.Finder.run.Goals as goal

pub returns-in-Err-clause-fault : goal.returns-in-Err-clause-fault
returns-in-Err-clause-fault c =
    let items = c.args.items.now in
    let i = c.loop-item.item-index in
    let d : Item = record { thread = 0; until = Count 0; start = 0 } in
    weaker_fault (Unit {0}) c.in-Err.refusal (IsTooMuch (get_or items i d) c.in_ok-count.count) (RunIsTooMuch items c.args.self.now c.args.world.now)
    (runs_fault items i d (omega arith) c.args.self.now c.loop-item.self c.args.world.now c.loop-item.world c.loop-item.invariant
    c.in_ok-count.count c.in_ok-count.ensures.count)
    c.in-Err.ensures.fault

pub loop-item-preserved : goal.loop-item-preserved
loop-item-preserved c =
    runs_on c.args.items.now c.loop-item.item-index (record { thread = 0; until = Count 0; start = 0 }) (omega arith)
    c.args.self.now c.loop-item.self c.add.new.self c.args.world.now c.loop-item.world c.steps_until.new.self c.loop-item.invariant
    c.in_ok-count.count c.in_ok-count.ensures.count c.in_ok-count.ensures.world c.in-Ok.ensures.ok
