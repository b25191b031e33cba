use Rattle.std.proofs.Common.{◌≡◌, ℕ, ◌+◌, ◌<◌, List, [], ◌∷◌, ◌++◌, length, map, drop, drop-cons, add-one, get_or}
use Rattle.std.proofs.Common.{slice_set, ap, sym, subst, refl}
use Rattle.std.proofs.lemmas.List.{map-append}
use Rattle.driver.specs.Working.Running.{scheduled_of}
use Rattle.driver.proofs.OrderLemmas.{IsAlong, along_further, never_stuck, step_is}
use Rattle.driver.proofs.order_calls.order_calls.Goals as goal
use Rattle.driver.proofs.order_calls.order_calls.Goals.{in-Some+in_ok-push, in_default}

drop_step : (xs : List ℕ) (i : ℕ) → i < length xs → drop i xs ≡ get_or xs i 0 ∷ drop (i + 1) xs
drop_step xs i within = rw (add-one, drop-cons xs i 0) refl

pub loop-thread-preserved : goal.loop-thread-preserved
loop-thread-preserved c =
    let program = c.args.program.now in
    let order = c.args.order.now in
    let i = c.loop-thread.thread-index in
    let t = get_or order i 0 in
    let done = c.loop-thread.done.items in
    let ss = map scheduled_of c.loop-thread.calls.items in
    let along = subst (λ (xs : List ℕ). IsAlong program order ss done xs) (drop_step order i c.loop-thread-test.true) c.loop-thread.invariant in
    elim c.match-next.branch [
      | in-Some+in_ok-push w ↦ (
          let next = rw c.deref.ensures.value at w.in-Some.ensures.next in
          let further = along_further program order ss done t (drop (i + 1) order) (scheduled_of w.in-Some.call) along next in
          let step = step_is program done t (scheduled_of w.in-Some.call) next in
          let set = ap (λ (n : ℕ). slice_set done t (n + 1)) step in
          rw (w.calls-is, w.done-is, w.in_ok-push.ensures.items, map-append)
          (subst (λ (ds : List ℕ). IsAlong program order (ss ++ scheduled_of w.in-Some.call ∷ []) ds (drop (i + 1) order)) (sym set) further))
      | in_default w ↦ absurd (
          let none = rw (c.deref.ensures.value, w.in_default.is) at c.next.ensures.next in
          never_stuck program order ss done t (drop (i + 1) order) along none)
    ]
