use Rattle.std.proofs.Common.{◌≡◌, ◌++◌, drop, map}
use Rattle.syntax.specs.Views.{class_name_of}
use Rattle.explanations.specs.ListedClasses.{class_warnings}
use Rattle.explanations.specs.Working.Judged.{warnings_seen}
use Rattle.explanations.proofs.listed.Lister.push_classes.Given as goal

-- with the warnings on the rest these are all
abbrev pub invariant-loop-place : goal.invariant-loop-place
invariant-loop-place l =
    warnings_seen l.warnings.items
    ++ class_warnings l.self.program.now l.self.section.now l.place (map class_name_of (drop l.place l.names))
    ≡ warnings_seen l.initial.warnings.items ++ class_warnings l.self.program.now l.self.section.now 0 (map class_name_of l.names)
