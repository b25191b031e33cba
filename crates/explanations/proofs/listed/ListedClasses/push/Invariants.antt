use Rattle.std.proofs.Common.{◌≡◌, ◌≤◌, ◌++◌, drop, map}
use Rattle.syntax.specs.Views.{decl_of}
use Rattle.explanations.specs.ListedClasses.{listed_from}
use Rattle.explanations.specs.Working.Judged.{warnings_seen}
use Rattle.explanations.proofs.listed.ListedClasses.push.Given as goal

-- with the warnings on the rest these are all
abbrev pub invariant-loop-decl : goal.invariant-loop-decl
invariant-loop-decl l = record {
  few : l.number ≤ l.decl-index;
  all : warnings_seen l.warnings.items ++ listed_from l.self.program.now l.number (map decl_of (drop l.decl-index l.decls))
      ≡ warnings_seen l.initial.warnings.items ++ listed_from l.self.program.now 0 (map decl_of l.decls);
}
