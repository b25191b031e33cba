use Rattle.locks.specs.Sets.{has}
use Rattle.lockpaths.specs.Working.Numbers.{is_number}
use Rattle.lockpaths.proofs.Reading.{set_next}
use Rattle.lockpaths.proofs.program.set_of.Goals as goal

pub loop-number-preserved : goal.loop-number-preserved
loop-number-preserved c = λ i.
    set_next i c.loop-number.number-index c.args.numbers.now (has c.with-set.result i) (has c.loop-number.set i) (is_number i c.args.numbers.now) c.loop-number-test.true
    (c.with-set.ensures i) (c.loop-number.invariant i)
