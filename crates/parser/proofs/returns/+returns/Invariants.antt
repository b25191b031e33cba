use Rattle.std.proofs.Common.{◌≡◌, drop}
use Rattle.syntax.specs.Views.{stmts_of}
use Rattle.parser.specs.Working.Returning.{earlier, least_return}
use Rattle.parser.proofs.returns.+returns.Given as goal

abbrev pub invariant-least_return-loop-stmt : goal.invariant-least_return-loop-stmt
invariant-least_return-loop-stmt l = earlier l.least (least_return (stmts_of (drop l.stmt-index l.stmts))) ≡ least_return (stmts_of l.stmts)
