use Rattle.std.proofs.Common.{◌≡◌, ◌++◌, drop}
use Rattle.inserter.specs.Working.Keys.{numbers_in}
use Rattle.inserter.proofs.section_lists.listed.Given as goal

abbrev pub invariant-loop-key : goal.invariant-loop-key
invariant-loop-key l = l.list.items ++ numbers_in l.set (drop l.key-index l.keys) ≡ numbers_in l.set l.keys
