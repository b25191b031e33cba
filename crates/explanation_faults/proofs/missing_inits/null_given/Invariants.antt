use Rattle.std.proofs.Common.{◌≡◌, map, drop}
use Rattle.types_symbols.specs.Working.Views.{decls_of}
use Rattle.syntax.specs.Views.{decl_of}
use Rattle.explanation_names.specs.FirstBy.{first_by}
use Rattle.explanation_faults.specs.Working.NullsFound.{null_given_in}
use Rattle.explanation_faults.proofs.missing_inits.null_given.Given as goal

abbrev pub invariant-loop-decl : goal.invariant-loop-decl
invariant-loop-decl l =
    first_by (null_given_in (decls_of l.symbols) l.at) (map decl_of (drop l.decl-index l.decls)) ≡ first_by (null_given_in (decls_of l.symbols) l.at) (decls_of l.symbols)
