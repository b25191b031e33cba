use Rattle.std.proofs.Common.{drop, map}
use Rattle.explanation_names.specs.Locals.{LocalInScope}
use Rattle.explanation_names.specs.Working.Values.{typed_seen}
use Rattle.explanation_names.proofs.Added.{Leads}
use Rattle.explanation_names.proofs.search.NameSearch.push_locals.Given as goal

abbrev pub invariant-loop-local : goal.invariant-loop-local
invariant-loop-local l =
    Leads l.initial.found l.found (map (λ (x : LocalInScope). x.name) (typed_seen (drop l.local-index l.local-items))) (map (λ (x : LocalInScope). x.name) (typed_seen l.local-items))
