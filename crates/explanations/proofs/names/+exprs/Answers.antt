use Rattle.std.proofs.Common.{ap}
use Rattle.explanations.specs.Names.{names_in}
use Rattle.explanations.proofs.Added.{added_as, added_behind}
use Rattle.explanations.proofs.Seen.{chain_parts}
use Rattle.explanations.proofs.names.+exprs.Goals as goal

pub push_joined-returns-in_ok-push_expr-in-Chain : goal.push_joined-returns-in_ok-push_expr-in-Chain
push_joined-returns-in_ok-push_expr-in-Chain t c =
    added_as c.push_links.result _ _ _ _
    (ap (names_in c.args.with_fields) (chain_parts c.args.joined.now c.in-Chain.field-0 c.in-Chain.first c.in-Chain.links c.deref.result.now c.in-Chain.is c.deref.ensures.value))
    (added_behind c.push_links.result _ _ _ _ _ c.in_ok-push_expr-in-Chain.ensures c.push_links.ensures)
