use Rattle.std.proofs.Common.{take}
use Rattle.lowering.specs.Working.Emission.{Emits, sequence_piece}
use Rattle.lowering.proofs.emitter.Emitter.+statement.Given as goal

abbrev pub invariant-block-loop-statement : goal.invariant-block-loop-statement
invariant-block-loop-statement l =
    Emits l.fn.self l.self (sequence_piece (take l.statement-index l.statements))
