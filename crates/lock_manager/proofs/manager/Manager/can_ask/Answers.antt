use Rattle.std.proofs.Common.{List, subst, sym, ap, ◌∙◌}
use Rattle.locks.specs.declared.lock.Lock.{Lock}
use Rattle.lock_manager.specs.Manager.{SessionOf, Managed}
use Rattle.lock_manager.specs.Working.Managers.{ComesAfter}
use Rattle.lock_manager.proofs.Lists.{never_both}
use Rattle.std.specs.List.{Contains}
use Rattle.lock_manager.specs.Working.Ties.{MayTake}
use Rattle.lock_manager.proofs.manager.Manager.can_ask.Goals as goal
use Rattle.core_lang.specs.Theory.Items.{both_false}

pub returns-then-not-comes_after : goal.returns-then-not-comes_after
returns-then-not-comes_after c =
    let x = c.self.inside in
    let held = c.held.ensures ∙ ap (λ (s : SessionOf). s.held) c.session-session.ensures in
    both_false (λ asks.
    let rises = subst (λ (m : Managed). ComesAfter m.ranks c.args.ticket.now.session.held c.args.lock) (sym c.self.view_is) asks.rises in
    let after = subst (λ (ls : List Lock). ComesAfter x.ranks.now ls c.args.lock) (sym held) rises in
    never_both (c.comes_after.ensures.1 after) c.if-not-comes_after.true)

pub returns-then-not-may_take : goal.returns-then-not-may_take
returns-then-not-may_take c =
    let session = c.session-session.ensures in
    both_false (λ asks. never_both
    (c.may_take.ensures.1 (subst (λ (s : SessionOf). MayTake s c.args.lock) (sym session) (record { same = asks.same; room = asks.room }))) c.if-not-may_take.true)

pub returns : goal.returns
returns c =
    let session = c.session-session.ensures in
    let may = subst (λ (s : SessionOf). MayTake s c.args.lock) session (c.may_take.ensures.0 c.if-not-may_take.false) in
    let held = c.held.ensures ∙ ap (λ (s : SessionOf). s.held) session in (
      λ e. record {
        listed = subst (λ (m : Managed). Contains m.layout.locks c.args.lock) c.self.view_is (c.has_lock.ensures.0 e);
        rises = subst (λ (m : Managed). ComesAfter m.ranks c.args.ticket.now.session.held c.args.lock) c.self.view_is
            (subst (λ (ls : List Lock). ComesAfter c.self.inside.ranks.now ls c.args.lock) held (c.comes_after.ensures.0 c.if-not-comes_after.false));
        same = may.same;
        room = may.room;
      },
      λ asks. c.has_lock.ensures.1 (subst (λ (m : Managed). Contains m.layout.locks c.args.lock) (sym c.self.view_is) asks.listed),
    )
