use Rattle.std.proofs.Common.{◌≡◌, ◌++◌, string_bytes, take}
use Rattle.report_runs.specs.Outcomes.{order_text}
use Rattle.report_runs.proofs.ends.push_order.Given as goal

abbrev pub invariant-loop-thread : goal.invariant-loop-thread
invariant-loop-thread l = string_bytes l.out ≡ string_bytes l.initial.out ++ order_text (take l.thread-index l.order)
