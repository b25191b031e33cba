use Rattle.std.proofs.Common.{List, ◌++◌, length, drop}
use Rattle.std.specs.List.{AllZip}
use Rattle.locks.specs.declared.path_set.PathSet.{PathSet}
use Rattle.lockpaths.specs.Working.Numbers.{IsSetOf, cut, AreRising}
use Rattle.lockpaths.proofs.program.sets_of.Given as goal

abbrev pub invariant-loop-end : goal.invariant-loop-end
invariant-loop-end l = record {
  sets : (more : List PathSet) → AllZip IsSetOf more (cut l.start l.numbers (drop l.end-index l.ends)) →
      AllZip IsSetOf (l.sets.items ++ more) (cut 0 l.numbers l.ends);
  rising : AreRising l.start (length l.numbers) (drop l.end-index l.ends);
}
