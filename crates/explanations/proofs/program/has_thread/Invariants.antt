use Rattle.std.proofs.Common.{◌≡◌, drop, map}
use Rattle.std.specs.List.{list_any}
use Rattle.syntax.specs.Views.{decl_of}
use Rattle.explanations.specs.Working.Found.{is_thread}
use Rattle.explanations.proofs.program.has_thread.Given as goal

abbrev pub invariant-loop-decl : goal.invariant-loop-decl
invariant-loop-decl l =
    list_any is_thread (map decl_of (drop l.decl-index l.decls)) ≡ list_any is_thread (map decl_of l.decls)
