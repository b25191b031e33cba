use Rattle.std.proofs.Common.{take}
use Rattle.core_lang.specs.declared.value.Value.{Value}
use Rattle.outcomes.specs.Footprints.{MayHold}
use Rattle.outcomes.specs.Working.Marking.{TouchedMore, WayIsMarked}
use Rattle.outcomes.proofs.touched.Touched.path.Given as goal

abbrev pub invariant-loop-field : goal.invariant-loop-field
invariant-loop-field l = record {
  more : TouchedMore l.initial.self l.self;
  way : (v : Value) → MayHold l.caller.arguments.now l.path.local v →
      WayIsMarked l.caller l.self v (take l.field-index l.field-items) l.reached;
}
