use Rattle.std.proofs.Common.{◌≡◌, ◌∷◌, [], ◌++◌, take}
use Rattle.layout.specs.Working.Numbers.{locks_at}
use Rattle.layout.proofs.numbering.Numbering.add_object.Given as goal

abbrev pub invariant-loop-field : goal.invariant-loop-field
invariant-loop-field l = record {
  locks : l.self.locks.items ≡ l.fn.self.locks.items ++ locks_at l.object (take l.field-index l.fields);
  classes : l.self.classes.items ≡ l.fn.self.classes.items;
  objects : l.self.objects.items ≡ l.fn.self.objects.items ++ l.first_lock ∷ [];
}
