use Rattle.std.proofs.Common.{◌≡◌, ◌≤◌, ◌+◌, drop}
use Rattle.syntax.specs.Views.{items_of}
use Rattle.resolution.specs.Limits.{CALL_LIMIT}
use Rattle.resolution.specs.Numbers.{calls_in_all}
use Rattle.types_symbols.specs.Working.Capped.{capped}
use Rattle.types_symbols.proofs.totals.+calls.Given as goal

abbrev pub invariant-calls_of_items-loop-item : goal.invariant-calls_of_items-loop-item
invariant-calls_of_items-loop-item l = record {
  sum : capped CALL_LIMIT (l.calls + calls_in_all (items_of (drop l.item-index l.items))) ≡ capped CALL_LIMIT (calls_in_all (items_of l.items));
  within : l.calls ≤ CALL_LIMIT + 1;
}
