use Rattle.std.proofs.Common.{◌≡◌, sym, subst, ◌∙◌}
use Rattle.lock_manager.specs.Manager.{Managed}
use Rattle.workers.specs.Logs.{Begins}
use Rattle.workers.specs.Working.LockEnds.{AreAsSeen}
use Rattle.workers.proofs.LockEnds.{seen_whole, seen_so}
use Rattle.workers.proofs.guarded.Guarded.are_as_seen.Goals.{then-len, else-len}
use Rattle.workers.proofs.guarded.Guarded.are_as_seen.Goals as goal

pub returns : goal.returns
returns g c =
    let plan = g.J.Naming.plan in
    let m = c.self.inside.manager in
    let locks = c.args.locks.now in
    let seen = c.args.front.now in
    let is : c.front-log.result ≡ m.history = c.front-log.ensures ∙ c.self.invariant.1 in
    let begins : Begins seen c.front-log.result = c.begins.ensures.exact.0 c.if-not-begins.false in
    elim c.if-len.branch [
      | then-len w ↦ λ t. subst (λ (v : Managed). AreAsSeen plan locks seen v.history) c.self.view_is
          (seen_whole plan m c.self.invariant.0 c.keeps_its_rules.ensures.rules_kept seen c.front-log.result is begins c.len.result c.len.ensures locks
          c.len-2.result c.len-2.ensures w.if-len.true)
      | else-len w ↦ λ t. subst (λ (v : Managed). AreAsSeen plan locks seen v.history) c.self.view_is
          (seen_so plan m c.self.invariant.0 c.keeps_its_rules.ensures.rules_kept seen c.front-log.result is begins w.len-else-len.result
          w.len-else-len.ensures locks c.commuting.ensures.commits c.one_entry_more.ensures.size c.self.inside.ends c.self.invariant.2 c.self.invariant.3
          (w.are_before.ensures (sym w.result-is ∙ t)))
    ]
