use Rattle.std.proofs.Common.{◌≡◌, ◌++◌, drop, map}
use Rattle.syntax.specs.Views.{decl_of}
use Rattle.types_symbols.specs.Working.Views.{decls_of}
use Rattle.explanations.specs.Working.Found.{classes_from, protecting}
use Rattle.explanations.proofs.protecting.push_all.Given as goal

abbrev pub invariant-loop-place : goal.invariant-loop-place
invariant-loop-place l =
    l.classes.items ++ classes_from (decls_of l.symbols) l.place (map decl_of (drop l.place l.decls)) ≡ l.initial.classes.items ++ protecting (decls_of l.symbols)
