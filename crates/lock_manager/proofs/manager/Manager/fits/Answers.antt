use Rattle.std.proofs.Common.{◌≡◌, List, subst, sym, ap, ◌∙◌, ℕ, Option, None, false, refl, Some}
use Rattle.std.specs.Prelude.{is_some}
use Rattle.std.proofs.lemmas.Bool.{false≢true}
use Rattle.std.specs.List.{All, Contains}
use Rattle.locks.specs.declared.lock.Lock.{Lock}
use Rattle.lock_manager.specs.Manager.{SessionOf, Managed}
use Rattle.lock_manager.specs.Working.Managers.{managed}
use Rattle.lock_manager.specs.Working.Calls.{AreOf, Knows, IsOwnWrite}
use Rattle.lock_manager.proofs.Rules.{listed_held, listed_grants}
use Rattle.lock_manager.proofs.manager.Manager.fits.Goals.{then-thread-via-then-thread}
use Rattle.lock_manager.proofs.manager.Manager.fits.Goals.{then-thread-via-else-thread+then-begun}
use Rattle.core_lang.specs.declared.value.Value.{Value}
use Rattle.code.specs.Memory.{overwritten, Agrees}
use Rattle.moved_cells.specs.Working.Grants.{GrantOf, cells_in}
use Rattle.lock_manager.proofs.manager.Manager.fits.Goals as goal

pub are_of-requires : goal.are_of-requires
are_of-requires c =
    let x = c.self.inside in
    let m = managed x.committed x.ranks.now x.places.items x.queue x.sections x.history.commits in
    let ticket = c.args.ticket.now in
    let known = subst (λ (v : Managed). Knows v ticket) (sym c.self.view_is) (c.knows.ensures.0 c.if-not-knows.false) in
    subst (λ (ls : List Lock). All (Contains c.args.self.now.layout.locks) ls) (sym (c.held.ensures ∙ ap (λ (s : SessionOf). s.held) c.session-session.ensures))
    (subst (λ (v : Managed). All (Contains v.layout.locks) ticket.session.held) c.self.view_is (listed_held m ticket.thread ticket.session c.self.invariant.0 known))

pub are_now-requires-clause-listed : goal.are_now-requires-clause-listed
are_now-requires-clause-listed c =
    let x = c.self.inside in
    let m = managed x.committed x.ranks.now x.places.items x.queue x.sections x.history.commits in
    let ticket = c.args.ticket.now in
    let known = subst (λ (v : Managed). Knows v ticket) (sym c.self.view_is) (c.knows.ensures.0 c.if-not-knows.false) in
    let held = c.held.ensures ∙ ap (λ (s : SessionOf). s.held) c.session-session.ensures in
    let listed = listed_held m ticket.thread ticket.session c.self.invariant.0 known in
    let own = subst (λ (v : Managed). AreOf v.layout.cell_locks c.held.result.now c.args.grants.now) (sym c.self.view_is) (c.are_of.ensures.0 c.if-not-are_of.false) in
    listed_grants m ticket.session.held c.args.grants.now listed (subst (λ (ls : List Lock). AreOf m.layout.cell_locks ls c.args.grants.now) held own)

pub returns-then-not-knows : goal.returns-then-not-knows
returns-then-not-knows c = (λ t. absurd (false≢true t), λ can. c.if-not-knows.ensures.1 can.0)

pub returns-then-is_some : goal.returns-then-is_some
returns-then-is_some c =
    (λ t. absurd (false≢true t), λ can. sym (ap is_some (c.ask.ensures ∙ ap (λ (s : SessionOf). s.ask) c.session-session.ensures ∙ can.1.no_ask)) ∙ sym c.if-is_some.ensures)

pub returns-then-not-are_of : goal.returns-then-not-are_of
returns-then-not-are_of c =
    let held = c.held.ensures ∙ ap (λ (s : SessionOf). s.held) c.session-session.ensures in
    (λ t. absurd (false≢true t), λ can. c.if-not-are_of.ensures.1 (subst (λ (ls : List Lock). AreOf c.args.self.now.layout.cell_locks ls c.args.grants.now) (sym held) can.1.own))

pub returns-then-not-agrees : goal.returns-then-not-agrees
returns-then-not-agrees c =
    let values : c.self.inside.committed.values ≡ c.args.self.now.values = ap (λ (m : Managed). m.values) c.self.view_is in
    (λ t. absurd (false≢true t), λ can. c.if-not-agrees.ensures.1 (rw (values, c.reads.ensures) can.1.reads))

pub returns-then-not-are_own : goal.returns-then-not-are_own
returns-then-not-are_own c =
    let m = c.args.self.now in
    (λ t. absurd (false≢true t), λ can. c.if-not-are_own.ensures.1 (subst (All (IsOwnWrite m.layout.cell_locks c.args.ticket.now.session.held)) (sym c.writes.ensures) can.1.writes))

pub are_now-requires-clause-whole : goal.are_now-requires-clause-whole
are_now-requires-clause-whole c =
    (subst (λ (v : Managed). AreOf v.layout.cell_locks c.held.result.now c.args.grants.now) (sym c.self.view_is) (c.are_of.ensures.0 c.if-not-are_of.false)).whole

pub returns-then-thread : goal.returns-then-thread
returns-then-thread c =
    elim c.then-thread.branch [
      | then-thread-via-then-thread w ↦ (
        λ t. absurd (false≢true t),
        λ can.
            absurd (w.if-thread.true (c.thread.ensures ∙ can.1.thread ∙ sym (c.thread-2.ensures))),
      )
      | then-thread-via-else-thread+then-begun w ↦ (
        λ t. absurd (false≢true t),
        λ can.
            absurd (w.if-begun.true (w.begun.ensures ∙ can.1.begun ∙ sym (w.begun-else-thread.ensures ∙ ap (λ (s : SessionOf). s.begun) c.session-session.ensures))),
      )
    ]

nothing_asked : (o : Option Lock) → false ≡ is_some o → o ≡ None
nothing_asked None e = refl
nothing_asked (Some lock) e = absurd (false≢true e)

pub returns : goal.returns
returns c =
    let ticket = c.args.ticket.now in
    let grants = c.args.grants.now in
    let entry = c.args.entry.now in
    let m = c.args.self.now in
    let x = c.self.inside in
    let values = ap (λ (v : Managed). v.values) c.self.view_is in
    let locks = ap (λ (v : Managed). v.layout.cell_locks) c.self.view_is in
    let held = c.held.ensures ∙ ap (λ (s : SessionOf). s.held) c.session-session.ensures in (
      λ e. (
        c.knows.ensures.0 c.if-not-knows.false,
        record {
          no_ask = sym (c.ask.ensures ∙ ap (λ (s : SessionOf). s.ask) c.session-session.ensures) ∙ nothing_asked c.ask.result c.if-is_some.ensures;
          own = subst (λ (ls : List Lock). AreOf m.layout.cell_locks ls grants) held (c.are_of.ensures.0 c.if-not-are_of.false);
          thread = sym c.thread.ensures ∙ c.if-thread.false ∙ c.thread-2.ensures;
          begun = sym c.begun.ensures ∙ c.if-begun.false ∙ c.begun-else-thread.ensures ∙ ap (λ (s : SessionOf). s.begun) c.session-session.ensures;
          reads = subst (λ (h : List Value). Agrees h entry.reads) values (subst (Agrees x.committed.values) c.reads.ensures (c.agrees.ensures.0 c.if-not-agrees.false));
          writes = subst (All (IsOwnWrite m.layout.cell_locks ticket.session.held)) c.writes.ensures (c.are_own.ensures.0 c.if-not-are_own.false);
          now = subst (λ (h : List Value). All (λ (g : GrantOf). Agrees (overwritten h entry.writes) (cells_in m.layout.cell_locks g)) grants) values
              (subst (λ (ls : List Lock). All (λ (g : GrantOf). Agrees (overwritten x.committed.values entry.writes) (cells_in ls g)) grants) locks
              (subst (λ (ws : List (ℕ × Value)). All (λ (g : GrantOf). Agrees (overwritten x.committed.values ws) (cells_in x.committed.layout.cell_locks g)) grants) c.writes-2.ensures
              (c.are_now.ensures.0 e)));
        },
      ),
      λ can. c.are_now.ensures.1
          (subst (λ (ws : List (ℕ × Value)). All (λ (g : GrantOf). Agrees (overwritten x.committed.values ws) (cells_in x.committed.layout.cell_locks g)) grants) (sym c.writes-2.ensures)
          (subst (λ (ls : List Lock). All (λ (g : GrantOf). Agrees (overwritten x.committed.values entry.writes) (cells_in ls g)) grants) (sym locks)
          (subst (λ (h : List Value). All (λ (g : GrantOf). Agrees (overwritten h entry.writes) (cells_in m.layout.cell_locks g)) grants) (sym values) can.1.now))),
    )
