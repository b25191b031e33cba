use Rattle.std.proofs.Common.{◌≡◌, ◌++◌, drop, map}
use Rattle.syntax.specs.Views.{decl_of}
use Rattle.explanations.specs.Warnings.{subjects_from}
use Rattle.explanations.specs.Working.Found.{warned}
use Rattle.explanations.specs.Working.Judged.{decls_in, warnings_seen}
use Rattle.explanations.proofs.program.Program.push_all.Given as goal

abbrev pub invariant-loop-place : goal.invariant-loop-place
invariant-loop-place l =
    warnings_seen l.warnings.items ++ warned (decls_in l.self) (subjects_from (decls_in l.self) l.place (map decl_of (drop l.place l.decls)))
    ≡ warnings_seen l.initial.warnings.items ++ warned (decls_in l.self) (subjects_from (decls_in l.self) 0 (map decl_of l.decls))
