use Rattle.std.proofs.Common.{◌≡◌, true, false, take}
use Rattle.std.specs.List.{flat_map}
use Rattle.std.specs.Io.KnownBytes.{Appends}
use Rattle.rope.specs.Working.Ropes.{both}
use Rattle.driver.specs.Streams.{writer_of, writing_failed}
use Rattle.driver.proofs.sink.Sink.put_text.Given as goal

abbrev pub invariant-loop-insert : goal.invariant-loop-insert
invariant-loop-insert g l = record {
  stopped : writing_failed l.initial.self ≡ true → writer_of l.self ≡ writer_of l.initial.self;
  appends : writing_failed l.self ≡ false →
      Appends (g.W.Write.contents (writer_of l.initial.self)) (g.W.Write.contents (writer_of l.self))
      (flat_map both (take l.insert l.text.inserted));
  sticky : writing_failed l.self ≡ false → writing_failed l.initial.self ≡ false;
  failed : writing_failed l.initial.self ≡ true → writing_failed l.self ≡ true;
}
