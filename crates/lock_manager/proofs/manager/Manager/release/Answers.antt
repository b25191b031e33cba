use Rattle.std.proofs.Common.{◌<◌, ℕ, None, set, subst, sym, ap, ◌∙◌, length, ◌≡◌}
use Rattle.std.specs.List.{All, Contains}
use Rattle.code.specs.Memory.{overwritten}
use Rattle.moved_cells.specs.Working.Grants.{GrantOf}
use Rattle.history.specs.Working.Histories.{IsWithin}
use Rattle.lock_manager.specs.Working.Committed.{CommittedOf, AreOfCells, with_writes}
use Rattle.lock_manager.specs.Manager.{Managed, session_in}
use Rattle.lock_manager.specs.Working.Managers.{managed, given_back, threads}
use Rattle.lock_manager.specs.Working.Ties.{cells_if_open}
use Rattle.lock_manager.specs.Working.Calls.{Knows, Fits, after_release, first_waiters}
use Rattle.lock_manager.proofs.Rules.{listed_held, listed_grants, thread_within, writes_within}
use Rattle.lock_manager.proofs.Sound.{Sound, promised_one, sound_release}
use Rattle.lock_manager.proofs.manager.Manager.release.Goals as goal

pub overwrite-requires : goal.overwrite-requires
overwrite-requires c =
    let x = c.self.inside in
    let m = managed x.committed x.ranks.now x.places.items x.queue x.sections x.history.commits in
    let fits = subst (λ (v : Managed). Fits v c.args.ticket c.args.grants.now.items c.args.entry.now) (sym c.self.view_is) c.requires.fits in
    subst (AreOfCells x.committed) (sym c.writes.ensures) (writes_within m c.args.ticket.session.held c.args.entry.now.writes c.self.invariant.0 c.one_entry_more.ensures.size fits.writes)

pub enter-requires-clause-promised : goal.enter-requires-clause-promised
enter-requires-clause-promised c =
    let x = c.self.inside in
    let m = managed x.committed x.ranks.now x.places.items x.queue x.sections x.history.commits in
    promised_one m x.history.promised c.args.ticket.thread c.cells-cells.result c.args.ticket.session c.self.invariant (subst (λ (v : Managed). Knows v c.args.ticket) (sym c.self.view_is) c.requires.known)
    (c.cells-cells.ensures ∙ ap (λ (t : ℕ). cells_if_open (session_in x.sections t)) c.woken-thread.ensures.thread)

pub enter-requires-clause-within : goal.enter-requires-clause-within
enter-requires-clause-within c =
    let x = c.self.inside in
    let known = subst (λ (v : Managed). Knows v c.args.ticket) (sym c.self.view_is) c.requires.known in
    let cells = c.cells-cells.ensures ∙ ap (λ (t : ℕ). cells_if_open (session_in x.sections t)) c.woken-thread.ensures.thread ∙ ap cells_if_open known in
    subst (λ (n : ℕ). IsWithin n c.args.entry.now) (sym cells) c.requires.within

pub put_back-requires-clause-listed : goal.put_back-requires-clause-listed
put_back-requires-clause-listed c =
    let x = c.self.inside in
    let m = managed x.committed x.ranks.now x.places.items x.queue x.sections x.history.commits in
    let known = subst (λ (v : Managed). Knows v c.args.ticket) (sym c.self.view_is) c.requires.known in
    let fits = subst (λ (v : Managed). Fits v c.args.ticket c.args.grants.now.items c.args.entry.now) (sym c.self.view_is) c.requires.fits in
    subst (λ (v : CommittedOf). All (λ (g : GrantOf). Contains v.layout.locks g.lock) c.args.grants.now.items) (sym c.overwrite.ensures)
    (listed_grants m c.args.ticket.session.held c.args.grants.now.items (listed_held m c.args.ticket.thread c.args.ticket.session c.self.invariant.0 known) fits.own)

pub close-requires : goal.close-requires
close-requires c =
    let x = c.self.inside in
    let m = managed x.committed x.ranks.now x.places.items x.queue x.sections x.history.commits in
    let known = subst (λ (v : Managed). Knows v c.args.ticket) (sym c.self.view_is) c.requires.known in
    subst (λ (t : ℕ). t < threads) (sym c.woken-thread.ensures.thread) (thread_within m c.args.ticket.thread c.args.ticket.session c.self.invariant.0 known)

pub invariant_of-self : goal.invariant_of-self
invariant_of-self c =
    let x = c.self.inside in
    let m = managed x.committed x.ranks.now x.places.items x.queue x.sections x.history.commits in
    let known = subst (λ (v : Managed). Knows v c.args.ticket) (sym c.self.view_is) c.requires.known in
    let fits = subst (λ (v : Managed). Fits v c.args.ticket c.args.grants.now.items c.args.entry.now) (sym c.self.view_is) c.requires.fits in
    subst (λ (v : CommittedOf). Sound (managed v x.ranks.now c.put_back.new.places.items x.queue c.close.new.self c.enter.new.self.commits) c.enter.new.self.promised) (sym c.overwrite.ensures)
    (sound_release m x.history.promised c.args.ticket c.args.grants.now.items c.args.entry.now c.put_back.new.places.items c.close.new.self c.enter.new.self.commits
    (overwritten x.committed.values c.writes.result.now) c.enter.new.self.promised c.cells-cells.result c.self.invariant known fits
    c.commuting.ensures.writes c.one_entry_more.ensures.heap c.one_entry_more.ensures.legal
    (c.put_back.ensures.back ∙ ap (λ (v : CommittedOf). given_back v.layout.locks x.places.items c.args.grants.now.items) c.overwrite.ensures)
    (c.close.ensures ∙ ap (λ (t : ℕ). set x.sections t None) c.woken-thread.ensures.thread)
    c.enter.ensures.commits
    (ap (overwritten x.committed.values) c.writes.ensures)
    c.enter.ensures.promised
    (c.cells-cells.ensures ∙ ap (λ (t : ℕ). cells_if_open (session_in x.sections t)) c.woken-thread.ensures.thread))

pub put_back-requires-clause-count : goal.put_back-requires-clause-count
put_back-requires-clause-count c = c.self.invariant.0.lock_count ∙ sym (ap (λ (v : CommittedOf). length v.layout.locks) c.overwrite.ensures)

pub returns-clause-released : goal.returns-clause-released
returns-clause-released c =
    let x = c.self.inside in
    let m = managed x.committed x.ranks.now x.places.items x.queue x.sections x.history.commits in
    let committed = c.overwrite.ensures ∙ ap (with_writes x.committed) c.writes.ensures in
    let places = c.put_back.ensures.back ∙ ap (λ (v : CommittedOf). given_back v.layout.locks x.places.items c.args.grants.now.items) c.overwrite.ensures in
    let slots = c.close.ensures ∙ ap (λ (t : ℕ). set x.sections t None) c.woken-thread.ensures.thread in
    let same : managed c.overwrite.new.self x.ranks.now c.put_back.new.places.items x.queue c.close.new.self c.enter.new.self.commits ≡ after_release m c.args.ticket c.args.grants.now.items c.args.entry.now =
    λ i. managed (committed i) x.ranks.now (places i) x.queue (slots i) (c.enter.ensures.commits i) in
    record {
      position = c.len-position.ensures ∙ ap (λ (v : Managed). length v.history) c.self.view_is;
      wake = c.woken-thread.ensures.wake ∙ ap (λ (v : Managed). first_waiters v.waiters c.args.ticket.session.held) c.self.view_is;
      manager = same ∙ ap (λ (v : Managed). after_release v c.args.ticket c.args.grants.now.items c.args.entry.now) c.self.view_is;
    }
