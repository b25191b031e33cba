use Rattle.std.proofs.Common.{◌≡◌}
use Rattle.lockorder.specs.Working.Tellings.{EachIsToldOr, IsToldBy}
use Rattle.lockorder.proofs.Steps.{ClassLacks}
use Rattle.lockorder.proofs.telling.Telling.tell_class.Given as goal

abbrev pub invariant-loop-path : goal.invariant-loop-path
invariant-loop-path l = record {
  classes : l.self.classes ≡ l.initial.self.classes;
  told :
      EachIsToldOr l.initial.self.classes (IsToldBy l.bindings.points.now l.usage) (ClassLacks l.bindings.points.now l.usage l.behind l.path)
      l.initial.self.told.items l.self.told.items;
}
