use Rattle.std.proofs.Common.{drop, map}
use Rattle.std.specs.List.{flat_map}
use Rattle.syntax.specs.Views.{ident}
use Rattle.explanation_names.specs.Working.Found.{along_one}
use Rattle.explanation_names.specs.Working.Values.{decls_at, typed_seen}
use Rattle.explanation_names.proofs.Added.{Leads}
use Rattle.explanation_names.proofs.search.NameSearch.by_dots.Given as goal

abbrev pub invariant-loop-local : goal.invariant-loop-local
invariant-loop-local l =
    Leads l.initial.found l.found (flat_map (along_one (decls_at l.self) l.self.at (ident l.path.first) (map ident l.path.fields.items)) (typed_seen (drop l.local-index l.local-items)))
    (flat_map (along_one (decls_at l.self) l.self.at (ident l.path.first) (map ident l.path.fields.items)) (typed_seen l.local-items))
