use Rattle.std.proofs.Common.{sym, subst}
use Rattle.std.specs.List.{All}
use Rattle.std.proofs.lemmas.Bool.{both_ways}
use Rattle.std.proofs.lemmas.List.Elements.{All-replicate}
use Rattle.lockorder.specs.Working.Tables.{has_edge}
use Rattle.lockorder.proofs.Edges.{IsEmpty, no_edges}
use Rattle.lockorder.proofs.table.Table.new.Goals as goal

pub invariant_of-result-clause-within : goal.invariant_of-result-clause-within
invariant_of-result-clause-within c =
    let same = c.in_ok-before.ensures.items_if_clones_equal (λ y e. e) in
    let none = subst (All IsEmpty) (sym same) (All-replicate IsEmpty c.args.classes c.new.result c.new.ensures) in
    λ x d e. absurd (both_ways (has_edge c.in_ok-before.before.items x d) (no_edges c.in_ok-before.before.items none x d) e)

pub returns-clause-edges : goal.returns-clause-edges
returns-clause-edges c =
    let same = c.in_ok-before.ensures.items_if_clones_equal (λ y e. e) in
    no_edges c.in_ok-before.before.items (subst (All IsEmpty) (sym same) (All-replicate IsEmpty c.args.classes c.new.result c.new.ensures))
