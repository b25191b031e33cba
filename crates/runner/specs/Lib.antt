pub mod Theory
pub mod Working
pub use Rattle.runner_machine.specs.Working.Operands.{OperandsOf, downward, pushed, popped, with_top}
pub use Rattle.runner_machine.specs.Working.Prints.{IsPrinted}
pub use Rattle.runner_machine.specs.Working.Machines.{RunOf, holding_of, with_machine, with_holding, FitsRoom}
pub use Rattle.runner_machine.specs.Working.Machines.{HasSmallCells, HasEffect}
