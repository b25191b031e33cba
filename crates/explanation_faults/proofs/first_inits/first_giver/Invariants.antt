use Rattle.std.proofs.Common.{◌≡◌, map, drop}
use Rattle.resolution.specs.Scopes.{place_from}
use Rattle.syntax.specs.Views.{decl_of, init_of}
use Rattle.explanation_faults.specs.Inits.{gives_same}
use Rattle.explanation_faults.proofs.first_inits.first_giver.Given as goal

abbrev pub invariant-loop-decl : goal.invariant-loop-decl
invariant-loop-decl l =
    place_from (gives_same (init_of l.init)) l.decl-index (map decl_of (drop l.decl-index l.decls)) ≡ place_from (gives_same (init_of l.init)) 0 (map decl_of l.decls)
