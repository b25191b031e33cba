use Rattle.std.proofs.Common.{map, subst, arith}
use Rattle.std.specs.Prelude.{slice_index}
use Rattle.inserter.specs.Working.Keys.{AreKeys, AreDue}
use Rattle.inserter.proofs.DueLists.{are_lists}
use Rattle.inserter.proofs.section_lists.lists_before.Goals as goal

pub returns : goal.returns
returns c =
    let x = c.args.points.now in
    let keys = c.in_ok-keys.keys.items in
    let lists = map (λ list. list.items) c.in_ok-before.before.items in
    let due_of_wanted = subst (λ l. AreDue c.deref-2.result.now l c.deref-4.result.now lists) c.deref-3.ensures.value c.in_ok-before.ensures in
    let due_of_held = subst (λ l. AreDue c.deref-2.result.now c.in_ok-wanted.wanted.items l lists) c.deref-4.ensures.value due_of_wanted in
    let due = subst (λ l. AreDue l c.in_ok-wanted.wanted.items c.in_ok-held.held.items lists) c.deref-2.ensures.value due_of_held in
    are_lists x c.args.ranks.now keys c.in_ok-wanted.wanted.items c.in_ok-held.held.items lists
    (omega (arith, x.few, x.classes.ok.0)) (subst (λ l. AreKeys (map (slice_index c.args.ranks.now) l) keys) c.deref.ensures.value c.in_ok-keys.ensures) c.in_ok-wanted.ensures
    c.in_ok-held.ensures due
