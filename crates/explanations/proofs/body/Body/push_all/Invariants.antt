use Rattle.std.proofs.Common.{◌≡◌, ◌++◌, drop, map}
use Rattle.std.specs.List.{flat_map}
use Rattle.syntax.specs.Views.{stmts_of}
use Rattle.explanations.specs.Warnings.{subject_of}
use Rattle.explanations.specs.Working.Found.{warned}
use Rattle.explanations.specs.Working.Judged.{decls_in, warnings_seen}
use Rattle.explanations.specs.Working.Values.{stmt_at}
use Rattle.explanations.proofs.body.Body.push_all.Given as goal

abbrev pub invariant-loop-stmt : goal.invariant-loop-stmt
invariant-loop-stmt l =
    warnings_seen l.warnings.items ++ warned (decls_in l.self.program.now) (flat_map (subject_of (stmts_of l.self.stmts.now)) (map stmt_at (drop l.stmt-index l.all)))
    ≡ warnings_seen l.initial.warnings.items ++ warned (decls_in l.self.program.now) (flat_map (subject_of (stmts_of l.self.stmts.now)) (map stmt_at l.all))
