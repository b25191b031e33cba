use Rattle.std.proofs.Common.{◌≡◌, ◌∙◌, ◌<◌, ◌≤◌, ◌++◌, ◌∷◌, [], ℕ, List, length, length-append, sym, ap, subst, arith}
use Rattle.std.proofs.Common.{vec_len, vec_capacity}
use Rattle.locks.specs.declared.lock.Lock.{Lock}
use Rattle.lock_manager.specs.Manager.{SessionOf}
use Rattle.lock_manager.specs.Working.Sessions.{TicketOf, with_lock}
use Rattle.lock_manager.specs.Working.Ties.{HasWakingRoom}
use Rattle.lock_manager.specs.declared.ticket.TicketBlock.{TicketBlock}
use Rattle.lock_manager.proofs.ticket.Ticket.grant.Goals as goal

one_more_held : (held : List Lock) (lock : Lock) (room capacity : ℕ) → length held < room → room ≤ capacity →
    length (held ++ lock ∷ []) ≤ capacity
one_more_held held lock room capacity lt le = omega (arith, lt, le, length-append held (lock ∷ []))

pub invariant_of-self : goal.invariant_of-self
invariant_of-self c =
    let p = c.self.inside.pass.value in
    let same : c.deref_mut.result.now ≡ p = c.deref_mut.ensures.value in
    let s = p.session in
    let capacity = vec_capacity p.wake in
    let lt = subst (λ (t : TicketOf). length t.session.held < t.session.room.locks) (sym c.self.view_is) c.requires in
    let granted : c.grant.new.self ≡ with_lock s c.args.lock = c.grant.ensures ∙ ap (λ (p : TicketBlock). with_lock p.session c.args.lock) same in
    let kept : HasWakingRoom (with_lock s c.args.lock) (vec_len p.wake) capacity = record {
      none_yet = c.self.invariant.none_yet;
      held = one_more_held s.held c.args.lock s.room.locks capacity lt c.self.invariant.locks;
      locks = c.self.invariant.locks;
    } in
    subst (λ (p : TicketBlock). HasWakingRoom c.grant.new.self (vec_len p.wake) (vec_capacity p.wake)) (sym same)
    (subst (λ (s : SessionOf). HasWakingRoom s (vec_len p.wake) capacity) (sym granted) kept)
