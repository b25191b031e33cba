use Rattle.std.proofs.Common.{◌≡◌, ◌≤◌, ◌++◌, length, take, drop}
use Rattle.types.specs.Working.ConstantValues.{cores}
use Rattle.types.proofs.thread.add_again.Given as goal

abbrev pub invariant-loop-at : goal.invariant-loop-at
invariant-loop-at l = record {
  added : cores l.calls.items ≡ cores l.fn.calls.items ++ take l.at (drop l.from (cores l.fn.calls.items));
  room : length l.fn.calls.items ≤ length l.calls.items;
}
