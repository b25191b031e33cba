use Rattle.std.proofs.Common.{◌++◌, refl, sym, ap, append-nil}
use Rattle.syntax.specs.Views.{expr_of, links_of}
use Rattle.explanation_names.specs.Working.UsesFound.{uses_behind, uses_in}
use Rattle.explanation_names.specs.Working.Values.{locals_at}
use Rattle.explanation_names.proofs.Added.{tells_first, item_said, all_said, both, said_as}
use Rattle.explanation_names.proofs.Seen.{chain_seen}
use Rattle.explanation_names.proofs.search.NameSearch.+exprs.Goals as goal

pub in_element-returns : goal.in_element-returns
in_element-returns t c = both c.of_kind.ensures c.in_expr.ensures

pub in_expr-returns-in-Name : goal.in_expr-returns-in-Name
in_expr-returns-in-Name t c = rw c.in-Name.is (c.of_kind.ensures)

pub in_expr-returns-in-Element : goal.in_expr-returns-in-Element
in_expr-returns-in-Element t c = rw c.in-Element.is ((rw c.deref.ensures at c.in_element.ensures))

pub in_expr-returns-in-Path : goal.in_expr-returns-in-Path
in_expr-returns-in-Path t c = rw c.in-Path.is ((rw c.deref-in-Path.ensures at c.in_path.ensures))

pub in_expr-returns-in-Paren : goal.in_expr-returns-in-Paren
in_expr-returns-in-Paren t c = rw c.in-Paren.is ((rw c.deref-in-Paren.ensures at c.in_expr.ensures))

pub in_expr-returns-in-Prefix : goal.in_expr-returns-in-Prefix
in_expr-returns-in-Prefix t c = rw c.in-Prefix.is ((rw c.deref-in-Prefix.ensures at c.in_expr-in-Prefix.ensures))

pub in_expr-returns-in-Joined : goal.in_expr-returns-in-Joined
in_expr-returns-in-Joined t c = rw c.in-Joined.is ((rw c.deref-in-Joined.ensures at c.in_joined.ensures))

pub in_joined-returns-in-Pair : goal.in_joined-returns-in-Pair
in_joined-returns-in-Pair t c =
    rw c.in-Pair.is (said_as (ap (λ us. uses_in (locals_at c.args.self.now) (expr_of c.in-Pair.left) ++ us) (sym (append-nil (uses_in (locals_at c.args.self.now) (expr_of c.in-Pair.right)))))
    (both c.in_expr.ensures c.in_expr-in-Pair.ensures))

pub in_joined-returns-in-Chain : goal.in_joined-returns-in-Chain
in_joined-returns-in-Chain t c =
    said_as (ap (uses_in (locals_at c.args.self.now)) (chain_seen c.args.joined.now c.in-Chain.field-0 c.in-Chain.first c.in-Chain.links _ c.in-Chain.is c.deref.ensures.value))
    (both c.in_expr-in-Chain.ensures c.in_links.ensures)

pub in_joined-returns-in-Compare : goal.in_joined-returns-in-Compare
in_joined-returns-in-Compare t c = rw c.in-Compare.is (both c.in_expr-in-Compare.ensures c.in_expr-in-Compare-2.ensures)

pub in_links-links-init : goal.in_links-links-init
in_links-links-init t c = tells_first _ _ _

pub in_links-links-preserved : goal.in_links-links-preserved
in_links-links-preserved t c =
    item_said (λ xs. uses_behind (locals_at c.args.self.now) (links_of xs)) c.args.links.now c.links.link-index c.link-item.result c.links-test.true c.link-item.is refl
    c.links.invariant c.in_expr.ensures

pub in_links-returns : goal.in_links-returns
in_links-returns t c =
    all_said (λ xs. uses_behind (locals_at c.args.self.now) (links_of xs)) c.args.links.now c.links.link-index c.links-test.false refl c.links.invariant
