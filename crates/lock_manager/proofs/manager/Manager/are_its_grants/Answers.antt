use Rattle.std.proofs.Common.{sym, subst, List, ap, ◌∙◌}
use Rattle.std.specs.List.{All, Contains}
use Rattle.lock_manager.specs.Manager.{Managed, session_of}
use Rattle.lock_manager.specs.Working.Managers.{managed}
use Rattle.lock_manager.proofs.Rules.{listed_held}
use Rattle.locks.specs.declared.lock.Lock.{Lock}
use Rattle.lock_manager.specs.Manager.{SessionOf}
use Rattle.lock_manager.specs.Working.Calls.{AreOf}
use Rattle.std.proofs.lemmas.Option.{none-some}
use Rattle.lock_manager.proofs.manager.Manager.are_its_grants.Goals as goal
use Rattle.core_lang.specs.Theory.Items.{both_false, some_same}

pub are_of-requires : goal.are_of-requires
are_of-requires c =
    let x = c.self.inside in
    let m = managed x.committed x.ranks.now x.places.items x.queue x.sections x.history.commits in
    subst (All (Contains c.args.self.now.layout.locks)) (sym c.held.ensures)
    (subst (λ (v : Managed). All (Contains v.layout.locks) c.in-Some.session.now.held) c.self.view_is (listed_held m c.args.thread c.in-Some.session.now c.self.invariant.0 c.in-Some.ensures))

pub returns-in-None : goal.returns-in-None
returns-in-None c = both_false (λ its. none-some its.session (sym c.in-None.ensures ∙ ap (λ (v : Managed). session_of v c.args.thread) c.self.view_is ∙ its.is))

pub returns-in-Some : goal.returns-in-Some
returns-in-Some c =
    let s = c.in-Some.session.now in
    let is = sym (ap (λ (v : Managed). session_of v c.args.thread) c.self.view_is) ∙ c.in-Some.ensures in (
      λ e. record { session = s; is = is; own = subst (λ (ls : List Lock). AreOf c.args.self.now.layout.cell_locks ls c.args.grants.now) c.held.ensures (c.are_of.ensures.0 e) },
      λ its. c.are_of.ensures.1
          (subst (λ (ls : List Lock). AreOf c.args.self.now.layout.cell_locks ls c.args.grants.now)
          (ap (λ (x : SessionOf). x.held) (some_same its.session s (sym its.is ∙ is)) ∙ sym c.held.ensures) its.own),
    )
