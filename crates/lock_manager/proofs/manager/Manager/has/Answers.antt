use Rattle.std.proofs.Common.{subst, sym}
use Rattle.std.specs.List.{Contains}
use Rattle.lock_manager.specs.Manager.{Managed}
use Rattle.lock_manager.specs.Working.Managers.{managed}
use Rattle.lock_manager.specs.Working.Calls.{Knows}
use Rattle.lock_manager.proofs.Lists.{never_both}
use Rattle.lock_manager.proofs.Rules.{listed_held}
use Rattle.lock_manager.proofs.manager.Manager.has.Goals as goal
use Rattle.core_lang.specs.Theory.Items.{all_contained, both_false}

pub returns-else-has_lock : goal.returns-else-has_lock
returns-else-has_lock c =
    let x = c.self.inside in
    let m = managed x.committed x.ranks.now x.places.items x.queue x.sections x.history.commits in
    let ticket = c.args.ticket.now in
    let known = subst (λ (v : Managed). Knows v ticket) (sym c.self.view_is) c.requires in
    both_false (λ held. never_both
    (c.has_lock.ensures.1 (all_contained (Contains m.layout.locks) ticket.session.held c.args.lock (listed_held m ticket.thread ticket.session c.self.invariant.0 known) held))
    c.if-has_lock.false)
