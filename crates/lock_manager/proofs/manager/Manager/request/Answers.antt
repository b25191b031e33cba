use Rattle.std.proofs.Common.{ℕ, Option, Some, set, ◌∙◌, sym, ap, subst, ◌≡◌}
use Rattle.locks.specs.declared.lock.Lock.{Lock}
use Rattle.lock_manager.specs.declared.places.LockPlace.TheVariants.{Taken, Free}
use Rattle.lock_manager.specs.Working.Sessions.{with_lock, with_ask}
use Rattle.lock_manager.specs.Working.Queues.{leaving, joining}
use Rattle.lock_manager.specs.Manager.{Managed, session_in}
use Rattle.lock_manager.specs.Working.Managers.{managed, place_of}
use Rattle.lock_manager.specs.Working.Calls.{Knows, CanAsk, Refuses, after_grant}
use Rattle.lock_manager.proofs.GivenBack.{place_at, put_at}
use Rattle.lock_manager.proofs.Rules.{held_by_another, place_within}
use Rattle.lock_manager.proofs.Sound.{sound_grant, sound_refusal, room_to_wait}
use Rattle.std.specs.List.{Contains}
use Rattle.std.proofs.lemmas.Option.{none-some}
use Rattle.moved_cells.specs.Working.Grants.{GrantOf}
use Rattle.lock_manager.proofs.manager.Manager.request.Goals as goal

pub invariant_of-self : goal.invariant_of-self
invariant_of-self c =
    let x = c.self.inside in
    let m = managed x.committed x.ranks.now x.places.items x.queue x.sections x.history.commits in
    let ticket = c.args.ticket.now in
    let known = subst (λ (v : Managed). Knows v ticket) (sym c.self.view_is) c.requires.known in
    let asks = subst (λ (v : Managed). CanAsk v ticket c.args.lock) (sym c.self.view_is) c.requires.asks in
    (sound_grant m x.history.promised ticket c.args.lock c.in-Ok.cells c.number_of-number.result c.take.new.places.items c.leave.new.self c.grant.new.self c.self.invariant known asks
    c.number_of-number.ensures.found c.in-Ok.ensures.free
    (c.in-Ok.ensures.gone ∙ ap (λ (u : ℕ). set x.places.items c.number_of-number.result (Taken u)) c.thread-thread.ensures)
    (c.leave.ensures ∙ ap (λ (u : ℕ). leaving u x.queue) c.thread-thread.ensures)
    (c.grant.ensures ticket.session (ap (session_in x.sections) c.thread-thread.ensures ∙ known) ∙ ap (λ (u : ℕ). set x.sections u (Some (with_lock ticket.session c.args.lock))) c.thread-thread.ensures)).1

pub wait-requires : goal.wait-requires
wait-requires c =
    let x = c.self.inside in
    let m = managed x.committed x.ranks.now x.places.items x.queue x.sections x.history.commits in
    let ticket = c.args.ticket.now in
    let known = subst (λ (v : Managed). Knows v ticket) (sym c.self.view_is) c.requires.known in
    let asks = subst (λ (v : Managed). CanAsk v ticket c.args.lock) (sym c.self.view_is) c.requires.asks in
    λ free. room_to_wait m x.history.promised ticket c.self.invariant known (sym c.ask.ensures ∙ free)

pub invariant_of-self-in-Err : goal.invariant_of-self-in-Err
invariant_of-self-in-Err c =
    let x = c.self.inside in
    let m = managed x.committed x.ranks.now x.places.items x.queue x.sections x.history.commits in
    let ticket = c.args.ticket.now in
    let known = subst (λ (v : Managed). Knows v ticket) (sym c.self.view_is) c.requires.known in
    let asks = subst (λ (v : Managed). CanAsk v ticket c.args.lock) (sym c.self.view_is) c.requires.asks in
    (sound_refusal m x.history.promised ticket c.args.lock c.take.new.places.items c.wait.new.self c.note.new.self c.self.invariant known asks
    c.in-Err.ensures.stay
    (c.wait.ensures ∙ ap (λ (o : Option Lock). joining o (record { thread = c.thread-thread.result; lock = c.args.lock }) x.queue) c.ask.ensures
    ∙ ap (λ (u : ℕ). joining ticket.session.ask (record { thread = u; lock = c.args.lock }) x.queue) c.thread-thread.ensures)
    (c.note.ensures ticket.session (ap (session_in x.sections) c.thread-thread.ensures ∙ known) ∙ ap (λ (u : ℕ). set x.sections u (Some (with_ask ticket.session c.args.lock))) c.thread-thread.ensures)).1

pub returns-in-Err : goal.returns-in-Err
returns-in-Err c =
    let x = c.self.inside in
    let m = managed x.committed x.ranks.now x.places.items x.queue x.sections x.history.commits in
    let ticket = c.args.ticket.now in
    let known = subst (λ (v : Managed). Knows v ticket) (sym c.self.view_is) c.requires.known in
    let asks = subst (λ (v : Managed). CanAsk v ticket c.args.lock) (sym c.self.view_is) c.requires.asks in
    let here = place_at m.layout.locks m.places c.args.lock c.number_of-number.result c.number_of-number.ensures.found ∙ c.in-Err.ensures.taken in
    subst (λ (v : Managed). Refuses v ticket c.args.lock c.in-Err.holder (managed x.committed x.ranks.now c.take.new.places.items c.wait.new.self c.note.new.self x.history.commits) c.note-in-Err.new.self) c.self.view_is
    (record {
      was_taken = here;
      by_another = held_by_another m ticket c.args.lock c.in-Err.holder c.self.invariant.0 known asks.rises c.precedes_is_strict.ensures here;
      ticket_is = c.note-in-Err.ensures;
      manager = (sound_refusal m x.history.promised ticket c.args.lock c.take.new.places.items c.wait.new.self c.note.new.self c.self.invariant known asks
          c.in-Err.ensures.stay
          (c.wait.ensures ∙ ap (λ (o : Option Lock). joining o (record { thread = c.thread-thread.result; lock = c.args.lock }) x.queue) c.ask.ensures
          ∙ ap (λ (u : ℕ). joining ticket.session.ask (record { thread = u; lock = c.args.lock }) x.queue) c.thread-thread.ensures)
          (c.note.ensures ticket.session (ap (session_in x.sections) c.thread-thread.ensures ∙ known) ∙ ap (λ (u : ℕ). set x.sections u (Some (with_ask ticket.session c.args.lock))) c.thread-thread.ensures)).0;
    })

pub take-requires : goal.take-requires
take-requires c =
    let x = c.self.inside in
    let m = managed x.committed x.ranks.now x.places.items x.queue x.sections x.history.commits in
    place_within m c.number_of-number.result c.args.lock c.self.invariant.0 c.number_of-number.ensures.at

pub number_of-number-requires : goal.number_of-number-requires
number_of-number-requires c = subst (λ (v : Managed). Contains v.layout.locks c.args.lock) (sym c.self.view_is) c.requires.asks.listed

pub grant-requires : goal.grant-requires
grant-requires c =
    let known = subst (λ (v : Managed). Knows v c.args.ticket.now) (sym c.self.view_is) c.requires.known in
    record { session = c.args.ticket.now.session; is = ap (session_in c.self.inside.sections) c.thread-thread.ensures ∙ known; room = c.requires.asks.room }

pub note-requires : goal.note-requires
note-requires c =
    let known = subst (λ (v : Managed). Knows v c.args.ticket.now) (sym c.self.view_is) c.requires.known in
    λ none. none-some c.args.ticket.now.session (sym none ∙ ap (session_in c.self.inside.sections) c.thread-thread.ensures ∙ known)

pub returns-in-Ok : goal.returns-in-Ok
returns-in-Ok c =
    let x = c.self.inside in
    let m = managed x.committed x.ranks.now x.places.items x.queue x.sections x.history.commits in
    let ticket = c.args.ticket.now in
    let lock = c.args.lock in
    let n = c.number_of-number.result in
    let known = subst (λ (v : Managed). Knows v ticket) (sym c.self.view_is) c.requires.known in
    let places = c.in-Ok.ensures.gone ∙ ap (λ (u : ℕ). set x.places.items n (Taken u)) c.thread-thread.ensures
    ∙ sym (put_at m.layout.locks m.places lock (Taken ticket.thread) n c.number_of-number.ensures.found) in
    let waiters = c.leave.ensures ∙ ap (λ (u : ℕ). leaving u x.queue) c.thread-thread.ensures in
    let slots = c.grant.ensures ticket.session (ap (session_in x.sections) c.thread-thread.ensures ∙ known) ∙ ap (λ (u : ℕ). set x.sections u (Some (with_lock ticket.session lock))) c.thread-thread.ensures in
    let same : managed x.committed x.ranks.now c.take.new.places.items c.leave.new.self c.grant.new.self x.history.commits ≡ after_grant m ticket lock =
    λ i. managed x.committed x.ranks.now (places i) (waiters i) (slots i) x.history.commits in
    record {
      lock_is = ap (λ (g : GrantOf). g.lock) c.new.ensures;
      was_free = sym (ap (λ (v : Managed). place_of v lock) c.self.view_is) ∙ place_at m.layout.locks m.places lock n c.number_of-number.ensures.found ∙ c.in-Ok.ensures.free
          ∙ ap (λ (g : GrantOf). Some (Free g.values)) (sym c.new.ensures);
      ticket_is = c.grant-in-Ok.ensures;
      manager = same ∙ ap (λ (v : Managed). after_grant v ticket lock) c.self.view_is;
    }
