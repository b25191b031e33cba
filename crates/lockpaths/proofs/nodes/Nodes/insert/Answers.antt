use Rattle.std.proofs.Common.{◌≡◌, ◌∙◌, true, true≢false, sym, ap, refl, arith}
use Rattle.std.specs.Prelude.{◌&&◌, ◌==◌}
use Rattle.std.proofs.lemmas.Bool.{eq-eqb, and_parts}
use Rattle.std.proofs.lemmas.Bool.Decides.{nat_tests}
use Rattle.lockpaths.specs.declared.nodes.PathEdge.{PathEdge}
use Rattle.lockpaths.specs.declared.nodes.PathEdge.TheVariants.{Local, Final}
use Rattle.lockpaths.specs.contracts.nodes.PathEdgePartialEq.TheImpl.{ghosts}
use Rattle.lockpaths.proofs.Numbered.{grown, are_more, numbered}
use Rattle.lockpaths.proofs.nodes.Nodes.insert.Goals as goal

self : (s : PathEdge) → ghosts.eq s s ≡ true
self (Local l) = eq-eqb l l refl
self (Final n k) = ap (λ b. b && (k == k)) (eq-eqb n n refl) ∙ eq-eqb k k refl

same : (x y : PathEdge) → ghosts.eq x y ≡ true → x ≡ y
same (Local l) (Local m) h = let e : l ≡ m = grind (arith, nat_tests, h) in ap Local e
same (Local l) (Final n k) h = absurd (true≢false (sym h))
same (Final n k) (Local l) h = absurd (true≢false (sym h))
same (Final n k) (Final m j) h =
    let parts = and_parts (n == m) (k == j) h in
    let a : n ≡ m = grind (arith, nat_tests, parts.0) in
    let b : k ≡ j = grind (arith, nat_tests, parts.1) in
    ap (λ x. Final x k) a ∙ ap (Final m) b

pub returns-clause-node : goal.returns-clause-node
returns-clause-node c =
    numbered ghosts.eq self c.self.inside.steps.keys c.insert_full.new.self.keys c.args.step c.args.self.now c.self.invariant c.self.view_is c.requires
    c.in_ok-node.ensures.keys same c.in_ok-node.ensures.unique c.in_ok-node.node c.in_ok-node.ensures.stored

pub returns-clause-grown : goal.returns-clause-grown
returns-clause-grown c =
    grown ghosts.eq self c.self.inside.steps.keys c.insert_full.new.self.keys c.args.step c.args.self.now c.self.invariant c.self.view_is c.requires
    c.in_ok-node.ensures.keys

pub invariant_of-self-2 : goal.invariant_of-self-2
invariant_of-self-2 c =
    are_more ghosts.eq self c.self.inside.steps.keys c.insert_full.new.self.keys c.args.step c.args.self.now c.self.invariant c.self.view_is c.requires
    c.in_ok-node.ensures.keys c.in_ok-node.ensures.unique
