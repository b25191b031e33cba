use Rattle.std.proofs.Common.{◌≡◌}
use Rattle.lockorder.specs.Working.Tellings.{EachIsToldOr, IsToldHere}
use Rattle.lockorder.proofs.Steps.{SectionLacks}
use Rattle.lockorder.proofs.telling.Telling.tell.Given as goal

abbrev pub invariant-loop-point : goal.invariant-loop-point
invariant-loop-point l = record {
  classes : l.self.classes ≡ l.initial.self.classes;
  told :
      EachIsToldOr l.initial.self.classes (IsToldHere l.points l.section) (SectionLacks l.points l.point)
      l.initial.self.told.items l.self.told.items;
}
