use Rattle.std.proofs.Common.{◌∙◌, ap, sym}
use Rattle.locks.specs.Sets.{has}
use Rattle.language_server.proofs.Holding.{listed, passed}
use Rattle.language_server.proofs.held_paths.numbers_in.Goals as goal
use Rattle.language_server.proofs.held_paths.numbers_in.Goals.{then-contains+in_ok-push, else-contains}

pub loop-path-preserved : goal.loop-path-preserved
loop-path-preserved c =
    let path = c.loop-path.path in
    let old = c.loop-path.list.items in
    let new = c.if-contains.list.items in
    elim c.if-contains.branch [
      | then-contains+in_ok-push w ↦
          listed (has c.args.set) path c.args.many old new _ c.loop-path-test.true (sym c.contains.ensures ∙ w.if-contains.true)
          (ap (λ v. v.items) w.list-is ∙ w.in_ok-push.ensures.items) c.loop-path.invariant
      | else-contains w ↦
          passed (has c.args.set) path c.args.many old new _ c.loop-path-test.true (sym c.contains.ensures ∙ w.if-contains.false)
          (ap (λ v. v.items) w.list-is) c.loop-path.invariant
    ]
