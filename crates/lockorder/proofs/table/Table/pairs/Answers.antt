use Rattle.std.proofs.Common.{ℕ, ◌+◌, Vec, Global, sym, ap, subst, ◌∙◌, arith}
use Rattle.lockorder.proofs.Listed.{AreListed, none_listed, listed_more, listed_same, next_row, all_listed}
use Rattle.lockorder.proofs.table.Table.pairs.Goals as goal
use Rattle.lockorder.proofs.table.Table.pairs.Goals.{then-has_edge+in_ok-push, else-has_edge}

pub loop-from-init : goal.loop-from-init
loop-from-init c = subst (AreListed c.args.self.now.before.items 0 0) (sym c.new-pairs.ensures.items) (none_listed c.args.self.now.before.items)

pub loop-to-preserved : goal.loop-to-preserved
loop-to-preserved c =
    let before = c.args.self.now.before.items in
    let from = c.loop-from.from in
    let to = c.loop-to.to in
    let pairs = c.loop-to.pairs.items in
    elim c.if-has_edge.branch [
      | then-has_edge+in_ok-push w ↦
          subst (AreListed before from (to + 1)) (sym (ap (λ (v : Vec (ℕ × ℕ) Global). v.items) w.pairs-is ∙ w.in_ok-push.ensures.items))
          (listed_more before from to pairs c.loop-to.invariant (sym c.has_edge.ensures ∙ w.if-has_edge.true))
      | else-has_edge w ↦
          subst (AreListed before from (to + 1)) (sym (ap (λ (v : Vec (ℕ × ℕ) Global). v.items) w.pairs-is))
          (listed_same before from to pairs c.loop-to.invariant (sym c.has_edge.ensures ∙ w.if-has_edge.false))
    ]

pub loop-from-preserved : goal.loop-from-preserved
loop-from-preserved c = next_row c.args.self.now.before.items c.loop-from.from c.loop-to.pairs.items c.loop-to.to (omega (arith, c.loop-to-test.false, c.len-to-end.ensures, c.args.self.now.before.ok.0)) c.loop-to.invariant

pub returns : goal.returns
returns c = all_listed c.args.self.now.before.items c.loop-from.from c.loop-from.pairs.items (omega (arith, c.loop-from-test.false, c.len-from-end.ensures, c.args.self.now.before.ok.0)) c.args.self.now.within c.loop-from.invariant
