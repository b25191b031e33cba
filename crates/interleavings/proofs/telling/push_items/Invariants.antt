use Rattle.std.proofs.Common.{◌≡◌, ◌++◌, string_bytes, take}
use Rattle.interleavings.specs.Schedules.{schedule_text}
use Rattle.interleavings.proofs.telling.push_items.Given as goal

abbrev pub invariant-loop-item : goal.invariant-loop-item
invariant-loop-item l = string_bytes l.out ≡ string_bytes l.initial.out ++ schedule_text l.program (take l.item-index l.items)
