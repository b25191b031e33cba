use Rattle.std.proofs.Common.{arith}
use Rattle.runner_machine.proofs.Holds.{place_fits, place_at}
use Rattle.runner_machine.proofs.finding.spot_of.Goals as goal

pub overflow_add-result : goal.overflow_add-result
overflow_add-result c =
    omega (
      arith,
      place_fits c.args.layout.now.cell_locks c.args.held.now c.args.cell c.slot_of-offset.result.0 c.in-Some.index c.slot_of-offset.result.1
          (record { lock = record { class = 0; object = 0 }; first = 0; count = 0; head = 0 })
          c.requires.runs c.requires.counted c.in-Some.ensures.some c.slot_of-offset.ensures.slot,
      c.requires.few,
    )

pub returns-in-Some-clause-some : goal.returns-in-Some-clause-some
returns-in-Some-clause-some c =
    place_at c.args.layout.now.cell_locks c.args.held.now c.args.cell c.slot_of-offset.result.0 c.in-Some.index c.slot_of-offset.result.1
    (record { lock = record { class = 0; object = 0 }; first = 0; count = 0; head = 0 })
    c.in-Some.ensures.some c.slot_of-offset.ensures.slot
