use Rattle.std.proofs.Common.{drop}
use Rattle.syntax.specs.Views.{links_of}
use Rattle.explanation_names.specs.Working.UsesFound.{uses_behind}
use Rattle.explanation_names.specs.Working.Values.{locals_at}
use Rattle.explanation_names.proofs.Added.{Tells}
use Rattle.explanation_names.proofs.search.NameSearch.+exprs.Given as goal

abbrev pub invariant-in_links-links : goal.invariant-in_links-links
invariant-in_links-links l =
    Tells l.self l.initial.found l.found (uses_behind (locals_at l.self) (links_of (drop l.link-index l.links))) (uses_behind (locals_at l.self) (links_of l.links))
