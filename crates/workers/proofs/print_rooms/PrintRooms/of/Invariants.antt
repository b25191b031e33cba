use Rattle.std.proofs.Common.{◌≡◌, map, take}
use Rattle.core_lang_helpers.specs.Prints.{most_prints}
use Rattle.workers.proofs.print_rooms.PrintRooms.of.Given as goal

abbrev pub invariant-loop-section : goal.invariant-loop-section
invariant-loop-section l = l.rooms.items ≡ map most_prints (take l.section-index l.section-items)
