use Rattle.std.proofs.Common.{◌≡◌, take}
use Rattle.code.specs.Working.NumberLists.{number_lists}
use Rattle.language_server.specs.Working.Lines.{numbers_of}
use Rattle.language_server.proofs.held_paths.numbers.Given as goal

abbrev pub invariant-loop-set : goal.invariant-loop-set
invariant-loop-set l = number_lists l.lists.items ≡ numbers_of l.many (take l.set-index l.sets)
