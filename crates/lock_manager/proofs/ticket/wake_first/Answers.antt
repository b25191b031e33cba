use Rattle.std.proofs.Common.{◌≡◌, ◌∙◌, ◌++◌, List, [], ◌∷◌, drop, length, ℕ, refl, sym, ap, append-nil, arith, vec_len}
use Rattle.std.proofs.Common.{vec_capacity}
use Rattle.std.proofs.lemmas.List.{at_drop_all}
use Rattle.locks.specs.declared.lock.Lock.{Lock}
use Rattle.lock_manager.specs.Working.Calls.{first_waiters}
use Rattle.lock_manager.proofs.ticket.wake_first.Goals.{in-Some, in_default}
use Rattle.lock_manager.proofs.Awaited.{none_awaited, awaiting_left}
use Rattle.lock_manager.proofs.Queued.{one_woken, none_woken, one_longer}
use Rattle.lock_manager.proofs.ticket.wake_first.Goals as goal

no_items : (xs ys : List ℕ) → length xs ≡ 0 → ys ≡ xs ++ ys
no_items [] ys e = refl
no_items (x ∷ xs) ys e = absurd (omega (arith, e))

pub loop-lock-init : goal.loop-lock-init
loop-lock-init c =
    let wake = c.args.wake.now in
    let none : length wake.items ≡ 0 = omega (arith, c.requires.none, wake.ok.0) in
    record {
      so_far = no_items wake.items (first_waiters c.args.queue.now c.args.held.now) none;
      few = omega (arith, c.requires.none);
      room = c.requires.room;
      left = c.requires.awaiting;
    }

pub returns-then-left-eq0 : goal.returns-then-left-eq0
returns-then-left-eq0 c =
    let wake = c.loop-lock.wake.items in
    let rest = drop c.loop-lock.lock-index c.args.held.now in
    sym (append-nil wake)
    ∙ ap (λ (ts : List ℕ). wake ++ ts) (sym (none_awaited c.args.queue.now rest (omega (arith, c.loop-lock.invariant.left, c.if-left-eq0.true))))
    ∙ sym c.loop-lock.invariant.so_far

pub overflow_sub-left : goal.overflow_sub-left
overflow_sub-left c =
    let d : Lock = record { class = 0; object = 0 } in
    omega (arith, c.count-left.ensures, awaiting_left c.args.queue.now c.args.held.now c.loop-lock.lock-index d c.requires.distinct c.loop-lock-test.true, c.loop-lock.invariant.left)

pub returns : goal.returns
returns c =
    sym (append-nil c.loop-lock.wake.items)
    ∙ sym (at_drop_all (λ (ls : List Lock). c.loop-lock.wake.items ++ first_waiters c.args.queue.now ls) c.args.held.now c.loop-lock.lock-index c.loop-lock-test.false)
    ∙ sym c.loop-lock.invariant.so_far

pub loop-lock-preserved : goal.loop-lock-preserved
loop-lock-preserved c =
    let d : Lock = record { class = 0; object = 0 } in
    let left = awaiting_left c.args.queue.now c.args.held.now c.loop-lock.lock-index d c.requires.distinct c.loop-lock-test.true in
    elim c.match-nth.branch [
      | in-Some w ↦ record {
        so_far = one_woken c.args.queue.now c.args.held.now c.loop-lock.lock-index d c.loop-lock.wake.items c.loop-lock-test.true c.loop-lock.invariant.so_far c.match-nth.wake.items
            w.in-Some.first (sym w.in-Some.is ∙ c.nth.ensures) (ap (λ v. v.items) w.wake-is ∙ (rw w.unwrap.ensures at w.push.ensures.items));
        few = omega (arith, ap vec_len w.wake-is, one_longer _ (vec_len w.push.new.self) (vec_len c.loop-lock.wake) w.push.ensures.len, c.loop-lock.invariant.few);
        room = omega (arith, ap vec_capacity w.wake-is, w.push.ensures.capacity, c.loop-lock.invariant.room);
        left = omega (arith, w.left-is, w.count-left.ensures, left, c.loop-lock.invariant.left);
      }
      | in_default w ↦ record {
        so_far = none_woken c.args.queue.now c.args.held.now c.loop-lock.lock-index d c.loop-lock.wake.items c.loop-lock-test.true c.loop-lock.invariant.so_far c.match-nth.wake.items
            (sym w.in_default.is ∙ c.nth.ensures) (ap (λ v. v.items) w.wake-is);
        few = omega (arith, ap vec_len w.wake-is, c.loop-lock.invariant.few);
        room = omega (arith, ap vec_capacity w.wake-is, c.loop-lock.invariant.room);
        left = omega (arith, w.left-is, left, c.loop-lock.invariant.left);
      }
    ]
