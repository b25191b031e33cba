use Rattle.std.proofs.Common.{◌≡◌, drop}
use Rattle.std.specs.Prelude.{map}
use Rattle.syntax.specs.Views.{class_name_of}
use Rattle.resolution.specs.Working.TypedSections.{classes_named}
use Rattle.resolution.specs.Working.Building.{joined}
use Rattle.types_bodies.specs.Working.Checkers.{scope}
use Rattle.types_bodies.specs.Working.Parts.{items_of}
use Rattle.types_bodies.proofs.checker.Checker.classes_named.Given as goal

abbrev pub invariant-loop-class : goal.invariant-loop-class
invariant-loop-class l = record {
  value : joined (items_of l.made) (classes_named (scope l.self).decls (map class_name_of (drop l.class-index l.listed))) ≡ classes_named (scope l.self).decls (map class_name_of l.listed);
}
