use Rattle.std.proofs.Common.{◌≡◌, [], ◌++◌, length}
use Rattle.layout.specs.Layouts.{global_locks, object_locks}
use Rattle.layout.specs.Working.Numbers.{KnowFields}
use Rattle.layout.proofs.numbering.Numbering.of.Given as goal

abbrev pub invariant-loop-class : goal.invariant-loop-class
invariant-loop-class l = record {
  classes : length l.numbering.classes.items ≡ l.class-index;
  locks : l.numbering.locks.items ≡ global_locks l.program l.class-index;
  fields : KnowFields l.program l.class-index l.numbering.classes.items;
  objects : l.numbering.objects.items ≡ [];
}

abbrev pub invariant-loop-object : goal.invariant-loop-object
invariant-loop-object l = record {
  fields : KnowFields l.program (length l.program.classes.items) l.numbering.classes.items;
  locks : l.numbering.locks.items ≡ global_locks l.program (length l.program.classes.items) ++ object_locks l.program l.object;
  objects : length l.numbering.objects.items ≡ l.object;
}
