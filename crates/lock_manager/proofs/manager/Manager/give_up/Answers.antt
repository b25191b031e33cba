use Rattle.std.proofs.Common.{List, subst, sym, ◌≡◌, ◌∙◌, ℕ, ap, refl}
use Rattle.moved_cells.specs.Working.Grants.{GrantOf}
use Rattle.lock_manager.specs.Manager.{Managed}
use Rattle.lock_manager.specs.Working.Managers.{managed}
use Rattle.lock_manager.specs.Working.Calls.{AreItsGrants, after_give_up}
use Rattle.lock_manager.proofs.Rules.{listed_held, listed_grants, thread_within}
use Rattle.lock_manager.proofs.Sound.{promised_one, sound_give_up}
use Rattle.lock_manager.proofs.Lists.{never_both}
use Rattle.lock_manager.proofs.manager.Manager.give_up.Goals as goal

pub restore-requires-clause-listed : goal.restore-requires-clause-listed
restore-requires-clause-listed c =
    let x = c.self.inside in
    let m = managed x.committed x.ranks.now x.places.items x.queue x.sections x.history.commits in
    let its = subst (λ (gs : List GrantOf). AreItsGrants m c.into_thread-thread.result gs) c.deref.ensures.value
    (subst (λ (v : Managed). AreItsGrants v c.into_thread-thread.result c.deref.result.now) (sym c.self.view_is) (c.are_its_grants.ensures.0 c.if-are_its_grants.true)) in
    listed_grants m its.session.held c.args.grants.now.items (listed_held m c.into_thread-thread.result its.session c.self.invariant.0 its.is) its.own

pub close-requires : goal.close-requires
close-requires c =
    let x = c.self.inside in
    let m = managed x.committed x.ranks.now x.places.items x.queue x.sections x.history.commits in
    let its = subst (λ (v : Managed). AreItsGrants v c.into_thread-thread.result c.deref.result.now) (sym c.self.view_is) (c.are_its_grants.ensures.0 c.if-are_its_grants.true) in
    thread_within m c.into_thread-thread.result its.session c.self.invariant.0 its.is

pub forgo-requires : goal.forgo-requires
forgo-requires c =
    let x = c.self.inside in
    let m = managed x.committed x.ranks.now x.places.items x.queue x.sections x.history.commits in
    let its = subst (λ (v : Managed). AreItsGrants v c.into_thread-thread.result c.deref.result.now) (sym c.self.view_is) (c.are_its_grants.ensures.0 c.if-are_its_grants.true) in
    promised_one m x.history.promised c.into_thread-thread.result c.cells-cells.result its.session c.self.invariant its.is c.cells-cells.ensures

pub invariant_of-self : goal.invariant_of-self
invariant_of-self c =
    let x = c.self.inside in
    let m = managed x.committed x.ranks.now x.places.items x.queue x.sections x.history.commits in
    let its = subst (λ (gs : List GrantOf). AreItsGrants m c.into_thread-thread.result gs) c.deref.ensures.value
    (subst (λ (v : Managed). AreItsGrants v c.into_thread-thread.result c.deref.result.now) (sym c.self.view_is) (c.are_its_grants.ensures.0 c.if-are_its_grants.true)) in
    (sound_give_up m x.history.promised c.into_thread-thread.result c.args.grants.now.items c.restore.new.places.items c.leave.new.self c.close.new.self c.forgo.new.self.commits c.forgo.new.self.promised c.cells-cells.result
    c.self.invariant its c.restore.ensures.back c.leave.ensures c.close.ensures c.forgo.ensures.commits c.forgo.ensures.promised c.cells-cells.ensures).1

pub restore-requires-clause-whole : goal.restore-requires-clause-whole
restore-requires-clause-whole c =
    let x = c.self.inside in
    let m = managed x.committed x.ranks.now x.places.items x.queue x.sections x.history.commits in
    (subst (λ (gs : List GrantOf). AreItsGrants m c.into_thread-thread.result gs) c.deref.ensures.value
    (subst (λ (v : Managed). AreItsGrants v c.into_thread-thread.result c.deref.result.now) (sym c.self.view_is) (c.are_its_grants.ensures.0 c.if-are_its_grants.true))).own.whole

pub restore-requires-clause-count : goal.restore-requires-clause-count
restore-requires-clause-count c = c.self.invariant.0.lock_count

pub returns-then-are_its_grants-clause-given_up : goal.returns-then-are_its_grants-clause-given_up
returns-then-are_its_grants-clause-given_up c =
    let x = c.self.inside in
    let m = managed x.committed x.ranks.now x.places.items x.queue x.sections x.history.commits in
    let grants = c.args.grants.now.items in
    let its = subst (λ (u : ℕ). AreItsGrants c.args.self.now u grants) c.into_thread-thread.ensures
    (subst (λ (gs : List GrantOf). AreItsGrants c.args.self.now c.into_thread-thread.result gs) c.deref.ensures.value (c.are_its_grants.ensures.0 c.if-are_its_grants.true)) in
    let same : managed x.committed x.ranks.now c.restore.new.places.items c.leave.new.self c.close.new.self c.forgo.new.self.commits ≡ after_give_up m c.into_thread-thread.result grants =
    λ i. managed x.committed x.ranks.now (c.restore.ensures.back i) (c.leave.ensures i) (c.close.ensures i) (c.forgo.ensures.commits i) in
    let now = same ∙ ap (λ (v : Managed). after_give_up v c.into_thread-thread.result grants) c.self.view_is in
    record {
      own = λ own. now ∙ ap (λ (u : ℕ). after_give_up c.args.self.now u grants) c.into_thread-thread.ensures;
      not_own = λ no. absurd (no its);
      entries = record {
        layout = ap (λ (v : Managed). v.layout) now;
        ranks = ap (λ (v : Managed). v.ranks) now;
        history = ap (λ (v : Managed). v.history) now;
        values = ap (λ (v : Managed). v.values) now;
      };
    }

pub returns-else-are_its_grants-clause-given_up : goal.returns-else-are_its_grants-clause-given_up
returns-else-are_its_grants-clause-given_up c = record {
  own = λ own. never_both (c.are_its_grants.ensures.1
      (subst (λ (gs : List GrantOf). AreItsGrants c.args.self.now c.into_thread-thread.result gs) (sym c.deref.ensures.value)
      (subst (λ (u : ℕ). AreItsGrants c.args.self.now u c.args.grants.now.items) (sym c.into_thread-thread.ensures) own))) c.if-are_its_grants.false;
  not_own = λ no. refl;
  entries = record { layout = refl; ranks = refl; history = refl; values = refl };
}
