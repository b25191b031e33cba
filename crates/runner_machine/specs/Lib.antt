pub mod Working
-- what the public clauses cite
pub use Rattle.runner_machine.specs.Working.Operands.{OperandsOf, downward, pushed, popped, with_top}
pub use Rattle.runner_machine.specs.Working.Prints.{IsPrinted}
pub use Rattle.runner_machine.specs.Working.Machines.{RunOf, holding_of, with_machine, with_holding, at_first}
pub use Rattle.runner_machine.specs.Working.Machines.{without_cells, FitsRoom, HasSmallCells, HasEffect, IsFinished}
pub use Rattle.runner_machine.specs.Working.Held.{HoldingOf, cells_granted, CanHold, no_grants, with_grant}
pub use Rattle.runner_machine.specs.Working.Held.{without_grants, with_memory, IsLoad, IsStore}
