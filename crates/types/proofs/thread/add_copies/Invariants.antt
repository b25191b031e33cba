use Rattle.std.proofs.Common.{◌≡◌, ◌≤◌, ◌++◌, length, drop}
use Rattle.resolution.specs.Tables.{copies}
use Rattle.types.specs.Working.ConstantValues.{cores}
use Rattle.types.proofs.thread.add_copies.Given as goal

abbrev pub invariant-loop-turn : goal.invariant-loop-turn
invariant-loop-turn l = record {
  added : cores l.calls.items ≡ cores l.fn.calls.items ++ copies l.turn (drop l.from (cores l.fn.calls.items));
  room : length l.fn.calls.items ≤ length l.calls.items;
}
