use Rattle.std.proofs.Common.{drop, map}
use Rattle.std.specs.Option.{option_map}
use Rattle.syntax.specs.Views.{ident}
use Rattle.explanation_names.specs.Working.Found.{along}
use Rattle.explanation_names.specs.Working.Values.{decls_at, members_at}
use Rattle.explanation_names.proofs.Added.{Leads}
use Rattle.explanation_names.proofs.search.NameSearch.along.Given as goal

abbrev pub invariant-loop-name : goal.invariant-loop-name
invariant-loop-name l =
    Leads l.initial.found l.found (along l.role (decls_at l.self) l.self.at (option_map members_at l.structure) (map ident (drop l.name-index l.names)))
    (along l.role (decls_at l.self) l.self.at (option_map members_at l.fn.structure) (map ident l.names))
