use Rattle.std.proofs.Common.{sym, subst, ◌∙◌}
use Rattle.lock_manager.specs.Manager.{Managed}
use Rattle.workers.specs.Working.LockEnds.{AreAsSeen, asked_open}
use Rattle.workers.proofs.Parts.{guarded_kept, still_part, part_at}
use Rattle.workers.proofs.guarded.Guarded.ask.Goals as goal

pub invariant_of-self : goal.invariant_of-self
invariant_of-self g c =
    guarded_kept g.J.Naming.plan _ _ c.self.inside.log c.self.inside.ends c.give_up.ensures.given_up.gives_up.entries c.self.invariant.0
    c.self.invariant.1 c.self.invariant.2 c.self.invariant.3

pub invariant_of-self-2 : goal.invariant_of-self-2
invariant_of-self-2 g c =
    guarded_kept g.J.Naming.plan _ _ c.self.inside.log c.self.inside.ends c.ask_on.ensures.entries
    c.self.invariant.0 c.self.invariant.1 c.self.invariant.2 c.self.invariant.3

pub returns-clause-part : goal.returns-clause-part
returns-clause-part g c =
    let plan = g.J.Naming.plan in
    let m = c.self.inside.manager in
    let o = c.args.asking in
    let laws = c.sections_stay_part.ensures in
    let of = c.self.invariant.0 in
    let kept = c.keeps_its_rules-2.ensures.rules_kept in
    part_at laws plan m of kept c.front.result (asked_open c.ask_on.result.0) (c.front.ensures ∙ c.self.invariant.1)
    (c.ask_on.ensures.part
    (still_part laws plan m of kept o c.requires.plan c.keeps_its_rules.ensures.kept c.held.result.now c.args.front.now c.held.ensures
    (subst (λ (v : Managed). AreAsSeen plan c.held.result.now c.args.front.now v.history) (sym c.self.view_is)
    (c.are_as_seen.ensures c.if-not-are_as_seen.false)) c.requires.part))
