use Rattle.std.proofs.Common.{◌≡◌, map, drop}
use Rattle.syntax.specs.Views.{decl_of}
use Rattle.explanation_names.specs.FirstBy.{first_by}
use Rattle.explanation_names.specs.Working.VarsFound.{section_if}
use Rattle.explanation_names.proofs.vars.section_there.Given as goal

abbrev pub invariant-loop-decl : goal.invariant-loop-decl
invariant-loop-decl l = first_by (section_if l.at) (map decl_of (drop l.decl-index l.decls)) ≡ first_by (section_if l.at) (map decl_of l.decls)
