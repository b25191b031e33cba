use Rattle.std.proofs.Common.{◌≡◌, ◌+◌, map, take, length}
use Rattle.core_lang.specs.WrittenLocals.{parameter_data}
use Rattle.core_lang_helpers.specs.Working.Bodies.{HasMore}
use Rattle.core_lang_helpers.proofs.body.BodyWriter.take_arguments.Given as goal

abbrev pub invariant-loop-k : goal.invariant-loop-k
invariant-loop-k l = record {
  count : length l.locals.items ≡ length l.initial.locals.items + l.k;
  locals : HasMore l.initial.locals.items l.locals.items (map parameter_data (take l.k l.self.section.now.locals.items));
}
