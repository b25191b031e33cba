use Rattle.std.proofs.Common.{◌≡◌, drop}
use Rattle.core_lang.specs.Meaning.{along, place_of}
use Rattle.core_lang.proofs.access.follow.Given as goal

abbrev pub invariant-loop-field : goal.invariant-loop-field
invariant-loop-field l = along l.shape l.heap l.value (drop l.field-index l.field-items) ≡ place_of l.path l.shape l.locals l.heap
