use Rattle.std.proofs.Common.{length, ap, arith}
use Rattle.runner_machine.specs.Working.Held.{HoldingOf}
use Rattle.runner_machine.proofs.Steps.{cells_long}
use Rattle.runner_machine.proofs.holding.Holding.keeps_its_rules.Goals as goal

pub returns-clause-cells : goal.returns-clause-cells
returns-clause-cells c =
    omega (
      arith,
      cells_long c.self.inside.layout.now c.self.inside.grants.items c.self.inside.reads c.self.inside.writes c.self.inside.lock_room c.self.inside.cell_room c.self.invariant.0,
      c.self.invariant.0.cells_fit,
      ap (λ (h : HoldingOf). length h.memory.cells) c.self.view_is,
      ap (λ (h : HoldingOf). h.cell_room) c.self.view_is,
    )
