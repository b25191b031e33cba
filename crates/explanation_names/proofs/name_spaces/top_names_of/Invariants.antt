use Rattle.std.proofs.Common.{◌≡◌, ◌++◌, map, drop}
use Rattle.syntax.specs.Views.{decl_of}
use Rattle.explanation_names.specs.NameSpaces.{top_names}
use Rattle.explanation_names.specs.Working.Values.{idents}
use Rattle.explanation_names.proofs.name_spaces.top_names_of.Given as goal

abbrev pub invariant-loop-decl : goal.invariant-loop-decl
invariant-loop-decl l = idents l.names.items ++ top_names (map decl_of (drop l.decl-index l.decls)) ≡ top_names (map decl_of l.decls)
