use Rattle.std.proofs.Common.{◌≡◌, ◌++◌, drop}
use Rattle.syntax.specs.Views.{links_of}
use Rattle.explanations.specs.Names as name
use Rattle.explanations.specs.Working.Values.{idents}
use Rattle.explanations.proofs.names.+exprs.Given as goal

abbrev pub invariant-push_links-links : goal.invariant-push_links-links
invariant-push_links-links l =
    idents l.out.items ++ name.names_behind l.with_fields (links_of (drop l.link-index l.links))
    ≡ idents l.initial.out.items ++ name.names_behind l.with_fields (links_of l.links)
