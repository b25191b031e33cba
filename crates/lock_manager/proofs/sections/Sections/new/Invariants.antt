use Rattle.std.proofs.Common.{◌≡◌, length, replicate, None}
use Rattle.lock_manager.proofs.sections.Sections.new.Given as goal

abbrev pub invariant-loop : goal.invariant-loop
invariant-loop l = record {
  slots : l.slots.items ≡ replicate l.counter None;
  spare : length l.spare.items ≡ l.counter;
}
