use Rattle.std.proofs.Common.{◌≡◌, take}
use Rattle.interleavings.specs.Threads.{with_steps}
use Rattle.input_files.specs.Turns.{steps_of}
use Rattle.interleavings.proofs.world.World.take_turns.Given as goal

abbrev pub invariant-loop-turn : goal.invariant-loop-turn
invariant-loop-turn l = l.self ≡ with_steps l.initial.self (steps_of (take l.turn-index l.turns))
