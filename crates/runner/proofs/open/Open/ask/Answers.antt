use Rattle.std.specs.Prelude.{◌≡◌, ◌≢◌, ◌≤◌, true, false, List, [], ◌++◌, length, drop, slice_get, Some}
use Rattle.std.proofs.Common.{refl, sym, ap, ◌∙◌, subst, arith}
use Rattle.locks.specs.declared.lock.Lock.{Lock}
use Rattle.layout.specs.LockCells.{cells_of}
use Rattle.moved_cells.specs.Working.Grants.{numbered}
use Rattle.runner_machine.specs.Working.Held.{CanHold, with_grant}
use Rattle.lock_manager.specs.Working.Sessions.{TicketOf, with_lock, with_ask}
use Rattle.lock_manager.specs.Working.Calls.{CanAsk, ticket_with, after_refusal}
use Rattle.worlds.specs.Worlds.{granted}
use Rattle.worlds.specs.Waiting.{first_if}
use Rattle.runner_machine.specs.Working.Machines.{RunOf, holding_of, with_holding}
use Rattle.runner.specs.declared.body.SectionFrame.{SectionFrame}
use Rattle.runner.specs.Working.Asked.{AreTaken}
use Rattle.runner.specs.Working.Opens.{OpenOf, IsKnown, Waits, further, ticket_of}
use Rattle.runner.specs.Working.Ties.{open_as, open_in, its_call, IsKeptOpen}
use Rattle.runner.proofs.Asks.{IsAsking, first_and_rest, may_ask, are_lent, can_hold, kept_granted, kept_waiting}
use Rattle.runner.proofs.Taken.{taken_granted}
use Rattle.runner.proofs.open.Open.ask.Goals as goal

pub request-requires-clause-asks : goal.request-requires-clause-asks
request-requires-clause-asks c =
    let x = c.self.inside in
    let o = open_in x.program.now x.ticket x.body.value in
    let lock = c.first-lock.result in
    let rest = drop 1 x.body.value.pending.locks in
    let a : IsAsking o lock rest = record {
      is_open = c.self.invariant.0.is_open;
      pending = first_and_rest x.body.value.pending.locks lock
          (λ e. c.requires.pending (sym (ap (λ (s : OpenOf). s.activation.pending) c.self.view_is) ∙ e)) (subst (λ (b : SectionFrame). slice_get b.pending.locks 0 ≡ Some lock) c.deref.ensures c.first-lock.ensures);
    } in
    let known : IsKnown c.args.manager.now o = subst (IsKnown c.args.manager.now) (sym c.self.view_is) c.requires.known in
    subst (λ (t : TicketOf). CanAsk c.args.manager.now t lock) (sym c.self.invariant.0.ticket_is)
    (may_ask c.args.manager.now o lock rest c.sections_stay_in_order.ensures known a)

pub grant-requires : goal.grant-requires
grant-requires c =
    let x = c.self.inside in
    let o = open_in x.program.now x.ticket x.body.value in
    let lock = c.first-lock.result in
    let rest = drop 1 x.body.value.pending.locks in
    let a : IsAsking o lock rest = record {
      is_open = c.self.invariant.0.is_open;
      pending = first_and_rest x.body.value.pending.locks lock
          (λ e. c.requires.pending (sym (ap (λ (s : OpenOf). s.activation.pending) c.self.view_is) ∙ e)) (subst (λ (b : SectionFrame). slice_get b.pending.locks 0 ≡ Some lock) c.deref.ensures c.first-lock.ensures);
    } in
    let known : IsKnown c.args.manager.now o = subst (IsKnown c.args.manager.now) (sym c.self.view_is) c.requires.known in
    let lent = are_lent c.args.manager.now o lock c.in-Granted.grant.values a.is_open c.heaps_have_values.ensures.whole
    c.heaps_have_values.ensures.agree c.slots_are_cells.ensures.cells c.keeps_its_rules.ensures.rules_kept known
    c.in-Granted.ensures.was_free in
    subst (λ (b : SectionFrame). CanHold (holding_of b.machine) c.in-Granted.grant) (sym c.deref_mut-body.ensures.value)
    (can_hold o lock rest x.ticket x.body.value.machine x.body.value.pending.room c.in-Granted.grant
    c.sections_stay_in_order.ensures c.precedes_is_strict.ensures a c.self.invariant.0 refl c.in-Granted.ensures.lock_is lent)

pub take_first-requires : goal.take_first-requires
take_first-requires c =
    let x = c.self.inside in
    let o = open_in x.program.now x.ticket x.body.value in
    let lock = c.first-lock.result in
    let rest = drop 1 x.body.value.pending.locks in
    let a : IsAsking o lock rest = record {
      is_open = c.self.invariant.0.is_open;
      pending = first_and_rest x.body.value.pending.locks lock
          (λ e. c.requires.pending (sym (ap (λ (s : OpenOf). s.activation.pending) c.self.view_is) ∙ e)) (subst (λ (b : SectionFrame). slice_get b.pending.locks 0 ≡ Some lock) c.deref.ensures c.first-lock.ensures);
    } in
    let known : IsKnown c.args.manager.now o = subst (IsKnown c.args.manager.now) (sym c.self.view_is) c.requires.known in
    subst (λ (b : SectionFrame). b.pending.locks ≢ []) (sym c.deref_mut-body.ensures.value)
    (λ none. absurd (omega (arith, ap (λ (ls : List Lock). length ls) (sym a.pending ∙ none))))

pub invariant_of-self : goal.invariant_of-self
invariant_of-self c =
    let x = c.self.inside in
    let o = open_in x.program.now x.ticket x.body.value in
    let lock = c.first-lock.result in
    let rest = drop 1 x.body.value.pending.locks in
    let a : IsAsking o lock rest = record {
      is_open = c.self.invariant.0.is_open;
      pending = first_and_rest x.body.value.pending.locks lock
          (λ e. c.requires.pending (sym (ap (λ (s : OpenOf). s.activation.pending) c.self.view_is) ∙ e)) (subst (λ (b : SectionFrame). slice_get b.pending.locks 0 ≡ Some lock) c.deref.ensures c.first-lock.ensures);
    } in
    let known : IsKnown c.args.manager.now o = subst (IsKnown c.args.manager.now) (sym c.self.view_is) c.requires.known in
    let lent = are_lent c.args.manager.now o lock c.in-Granted.grant.values a.is_open c.heaps_have_values.ensures.whole
    c.heaps_have_values.ensures.agree c.slots_are_cells.ensures.cells c.keeps_its_rules.ensures.rules_kept known
    c.in-Granted.ensures.was_free in
    let grant = c.in-Granted.grant in
    let o' = further o (granted o.activation lock rest (numbered (cells_of o.plan.layout.cell_locks lock) grant.values)) in
    let m = x.body.value.machine.machine in
    let run' : RunOf = record (with_holding x.body.value.machine (with_grant (holding_of x.body.value.machine) grant)) { machine = o'.activation.machine } in
    let room = c.take_first.new.self.room in
    let same_body : c.deref_mut-body.result.now ≡ x.body.value = c.deref_mut-body.ensures.value in
    let longer : x.body.value.pending.room ≤ room =
    subst (λ (b : SectionFrame). b.pending.room ≤ room) same_body c.take_first.ensures.room in
    let kept = kept_granted o lock rest x.ticket x.body.value.machine x.body.value.pending.room room grant
    c.sections_stay_in_order.ensures a c.self.invariant.0 refl c.in-Granted.ensures.lock_is lent
    longer in
    let ticket : c.request.new.ticket ≡ ticket_of o' =
    c.in-Granted.ensures.ticket_is
    ∙ ap (λ (t : TicketOf). ticket_with t (with_lock t.session lock)) c.self.invariant.0.ticket_is in
    let run : c.grant.new.self ≡ run' =
    c.grant.ensures
    ∙ ap (λ (b : SectionFrame). with_holding b.machine (with_grant (holding_of b.machine) grant)) c.deref_mut-body.ensures.value
    ∙ (λ i. record (with_holding x.body.value.machine (with_grant (holding_of x.body.value.machine) grant)) {
      machine = record m {
        memory = record m.memory {
          cells = m.memory.cells ++ numbered (cells_of (c.self.invariant.0.layout i).cell_locks (c.in-Granted.ensures.lock_is i)) grant.values;
        };
      };
    }) in
    let rest_is : c.take_first.new.self.locks ≡ rest =
    c.take_first.ensures.locks ∙ ap (λ (b : SectionFrame). drop 1 b.pending.locks) same_body in
    let call = its_call x.body.value in
    let at_ticket = subst (λ (t : TicketOf). IsKeptOpen (open_as x.program.now t x.body.value.step call c.grant.new.self c.take_first.new.self.locks false) t
    c.grant.new.self room) (sym ticket)
    (subst (λ (r : RunOf). IsKeptOpen (open_as x.program.now (ticket_of o') x.body.value.step call r c.take_first.new.self.locks false) (ticket_of o')
    r room) (sym run)
    (subst (λ (ps : List Lock). IsKeptOpen (open_as x.program.now (ticket_of o') x.body.value.step call run' ps false) (ticket_of o')
    run' room) (sym rest_is) kept)) in (
      subst (λ (b : SectionFrame).
          IsKeptOpen (open_as x.program.now c.request.new.ticket b.step (its_call b) c.grant.new.self c.take_first.new.self.locks false)
          c.request.new.ticket c.grant.new.self room) (sym same_body) at_ticket,
      ap (λ (b : SectionFrame). b.grants.items) same_body ∙ c.self.invariant.1,
      subst (λ (b : SectionFrame). AreTaken x.program.now b.section (c.request.new.ticket.session.held ++ c.take_first.new.self.locks) b.taken)
          (sym same_body)
          (taken_granted x.program.now x.body.value.section x.ticket.session.held c.request.new.ticket.session.held x.body.value.pending.locks
          c.take_first.new.self.locks rest lock x.body.value.taken a.pending (ap (λ (t : TicketOf). t.session.held) ticket) rest_is c.self.invariant.2),
    )

pub invariant_of-self-in-Held : goal.invariant_of-self-in-Held
invariant_of-self-in-Held c =
    let x = c.self.inside in
    let o = open_in x.program.now x.ticket x.body.value in
    let lock = c.first-lock.result in
    let rest = drop 1 x.body.value.pending.locks in
    let a : IsAsking o lock rest = record {
      is_open = c.self.invariant.0.is_open;
      pending = first_and_rest x.body.value.pending.locks lock
          (λ e. c.requires.pending (sym (ap (λ (s : OpenOf). s.activation.pending) c.self.view_is) ∙ e)) (subst (λ (b : SectionFrame). slice_get b.pending.locks 0 ≡ Some lock) c.deref.ensures c.first-lock.ensures);
    } in
    let known : IsKnown c.args.manager.now o = subst (IsKnown c.args.manager.now) (sym c.self.view_is) c.requires.known in
    let kept = kept_waiting o lock rest x.ticket x.body.value.machine x.body.value.pending.room
    c.sections_stay_in_order.ensures a c.self.invariant.0 in
    let o' = further o (record o.activation { asked = true }) in
    let ticket : c.request.new.ticket ≡ ticket_of o' =
    c.in-Held.ensures.ticket_is
    ∙ ap (λ (t : TicketOf). ticket_with t (with_ask t.session lock)) c.self.invariant.0.ticket_is
    ∙ ap (λ (ps : List Lock). ticket_with (ticket_of o) (record (ticket_of o).session { ask = first_if true ps })) (sym a.pending) in
    let same_body : c.deref_mut.result.now ≡ x.body.value = c.deref_mut.ensures.value in
    let at_ticket = subst (λ (t : TicketOf). IsKeptOpen (open_as x.program.now t x.body.value.step (its_call x.body.value) x.body.value.machine x.body.value.pending.locks true) t
    x.body.value.machine x.body.value.pending.room) (sym ticket) kept in (
      subst (λ (b : SectionFrame).
          IsKeptOpen (open_as x.program.now c.request.new.ticket b.step (its_call b) b.machine b.pending.locks true)
          c.request.new.ticket b.machine b.pending.room) (sym same_body) at_ticket,
      ap (λ (b : SectionFrame). b.grants.items) same_body ∙ c.self.invariant.1,
      subst (λ (b : SectionFrame). AreTaken x.program.now b.section (c.request.new.ticket.session.held ++ b.pending.locks) b.taken) (sym same_body)
          (subst (λ (ls : List Lock). AreTaken x.program.now x.body.value.section (ls ++ x.body.value.pending.locks) x.body.value.taken)
          (sym (ap (λ (t : TicketOf). t.session.held) ticket)) c.self.invariant.2),
    )

pub returns-in-Held : goal.returns-in-Held
returns-in-Held c =
    let x = c.self.inside in
    let o = open_in x.program.now x.ticket x.body.value in
    let lock = c.first-lock.result in
    let rest = drop 1 x.body.value.pending.locks in
    let a : IsAsking o lock rest = record {
      is_open = c.self.invariant.0.is_open;
      pending = first_and_rest x.body.value.pending.locks lock
          (λ e. c.requires.pending (sym (ap (λ (s : OpenOf). s.activation.pending) c.self.view_is) ∙ e)) (subst (λ (b : SectionFrame). slice_get b.pending.locks 0 ≡ Some lock) c.deref.ensures c.first-lock.ensures);
    } in
    let known : IsKnown c.args.manager.now o = subst (IsKnown c.args.manager.now) (sym c.self.view_is) c.requires.known in
    let o' = further o (record o.activation { asked = true }) in
    let ticket : c.request.new.ticket ≡ ticket_of o' =
    c.in-Held.ensures.ticket_is
    ∙ ap (λ (t : TicketOf). ticket_with t (with_ask t.session lock)) c.self.invariant.0.ticket_is
    ∙ ap (λ (ps : List Lock). ticket_with (ticket_of o) (record (ticket_of o).session { ask = first_if true ps })) (sym a.pending) in
    let same_body : c.deref_mut.result.now ≡ x.body.value = c.deref_mut.ensures.value in
    let is : open_as x.program.now c.request.new.ticket c.deref_mut.result.now.step (its_call c.deref_mut.result.now)
    c.deref_mut.result.now.machine c.deref_mut.result.now.pending.locks true ≡ o' =
    (λ i. open_as x.program.now (ticket i) (same_body i).step (its_call (same_body i)) (same_body i).machine
    (same_body i).pending.locks true) in
    subst (λ (s : OpenOf). Waits c.args.manager.now s c.in-Held.holder
    (open_as x.program.now c.request.new.ticket c.deref_mut.result.now.step (its_call c.deref_mut.result.now)
    c.deref_mut.result.now.machine c.deref_mut.result.now.pending.locks true) c.request.new.self) c.self.view_is
    (record {
      lock = lock;
      rest = rest;
      pending = a.pending;
      was_taken = c.in-Held.ensures.was_taken;
      by_another = λ e. c.in-Held.ensures.by_another e;
      is = is;
      manager = c.in-Held.ensures.manager ∙ ap (λ (t : TicketOf). after_refusal c.args.manager.now t lock) c.self.invariant.0.ticket_is;
    })
