use Rattle.std.proofs.Common.{◌≡◌}
use Rattle.lockorder.specs.Working.Sections.{set_at}
use Rattle.lockorder.specs.Working.Tellings.{EachIsToldOr, IsToldAt}
use Rattle.lockorder.proofs.Steps.{PointLacks}
use Rattle.lockorder.proofs.telling.Telling.tell_point.Given as goal

abbrev pub invariant-loop-path : goal.invariant-loop-path
invariant-loop-path l = record {
  classes : l.self.classes ≡ l.initial.self.classes;
  told :
      EachIsToldOr l.initial.self.classes (IsToldAt l.bindings.points.now l.section l.point)
      (PointLacks l.bindings.points.now l.point (set_at l.bindings.points.now.used.items l.point) l.path) l.initial.self.told.items
      l.self.told.items;
}
