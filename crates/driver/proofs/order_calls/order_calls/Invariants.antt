use Rattle.std.proofs.Common.{map, drop}
use Rattle.driver.specs.Working.Running.{scheduled_of}
use Rattle.driver.proofs.OrderLemmas.{IsAlong}
use Rattle.driver.proofs.order_calls.order_calls.Given as goal

abbrev pub invariant-loop-thread : goal.invariant-loop-thread
invariant-loop-thread l = IsAlong l.program l.order (map scheduled_of l.calls.items) l.done.items (drop l.thread-index l.order)
