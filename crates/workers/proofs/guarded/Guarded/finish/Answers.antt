use Rattle.std.proofs.Common.{◌≡◌, ◌≤◌, ◌∙◌, ◌++◌, ◌∷◌, [], length, List, sym, ap, subst, arith, rules}
use Rattle.std.specs.List.{All}
use Rattle.locks.specs.declared.lock.Lock.{Lock}
use Rattle.history.specs.Commits.{Commit}
use Rattle.lock_manager.specs.Manager.{Managed}
use Rattle.lock_manager.specs.Working.Calls.{IsOwnWrite}
use Rattle.lowering.specs.Plans.{Plan}
use Rattle.runner.specs.Working.Opens.{CanBeReleased}
use Rattle.workers.specs.Working.Guarding.{IsManagerOf}
use Rattle.workers.specs.Working.LockEnds.{AreAsSeen, AreGivenBack}
use Rattle.workers.specs.Working.Within.{IsEntered}
use Rattle.workers.specs.Logs.{Begins, IsSound}
use Rattle.workers.proofs.Guarding.{released_manager, entered, history_after, sound_after, sees_its_own}
use Rattle.workers.proofs.LockEnds.{ends_entered}
use Rattle.workers.proofs.Parts.{same_layout, still_part, own_entry}
use Rattle.workers.proofs.guarded.Guarded.finish.Goals as goal

pub fits_as_part-requires-clause-layout : goal.fits_as_part-requires-clause-layout
fits_as_part-requires-clause-layout g c =
    let o = c.args.ended in
    same_layout c.sections_stay_part.ensures g.J.Naming.plan c.self.inside.manager c.self.invariant.0 c.keeps_its_rules-2.ensures.rules_kept
    o c.requires.plan c.keeps_its_rules.ensures.kept

pub fits_as_part-requires-clause-part : goal.fits_as_part-requires-clause-part
fits_as_part-requires-clause-part g c =
    still_part c.sections_stay_part.ensures g.J.Naming.plan c.self.inside.manager c.self.invariant.0 c.keeps_its_rules-2.ensures.rules_kept
    c.args.ended c.requires.plan c.keeps_its_rules.ensures.kept c.held.result.now c.args.front.now c.held.ensures
    (subst (λ (v : Managed). AreAsSeen g.J.Naming.plan c.held.result.now c.args.front.now v.history) (sym c.self.view_is)
    (c.are_as_seen.ensures c.if-not-are_as_seen.false)) c.requires.part

pub invariant_of-self-2 : goal.invariant_of-self-2
invariant_of-self-2 g c =
    let o = c.args.ended in
    let m = c.self.inside.manager in
    let m' = c.release.new.manager in
    let d : IsManagerOf o.plan m = subst (λ (p : Plan). IsManagerOf p m) (sym c.requires.plan) c.self.invariant.0 in
    let can : CanBeReleased m o = search rules in
    let its = c.entry-entry.ensures in
    let e = c.entry-entry.result in
    let history : m'.history ≡ m.history ++ e ∷ [] = history_after m m' o _ _ e its c.release.ensures in
    let log : c.front-2.result ≡ m'.history =
    c.front-2.ensures ∙ c.if-not-enter.ensures ∙ ap (λ (l : List Commit). l ++ e ∷ []) c.self.invariant.1 ∙ sym history in
    let given : AreGivenBack c.self.inside.ends o.activation.held c.len.result c.give_back.new.self =
    subst (λ (ls : List Lock). AreGivenBack c.self.inside.ends ls c.len.result c.give_back.new.self) c.held-2.ensures c.give_back.ensures in
    let own : All (IsOwnWrite m.layout.cell_locks o.activation.held) e.writes =
    own_entry c.sections_stay_part.ensures g.J.Naming.plan m c.self.invariant.0 c.keeps_its_rules-2.ensures.rules_kept o c.requires.plan
    c.keeps_its_rules.ensures.kept e _ _ m' can c.release.ensures its in (
      subst (λ (p : Plan). IsManagerOf p m') c.requires.plan
          (released_manager m m' o _ _ c.sections_stay_in_order.ensures c.one_entry_more.ensures.all_true d c.keeps_its_rules.ensures.kept
          can c.release.ensures),
      c.if-not-enter.ensures ∙ ap (λ (l : List Commit). l ++ e ∷ []) c.self.invariant.1 ∙ sym history,
      c.give_back.ensures.layout ∙ c.self.invariant.2,
      ends_entered g.J.Naming.plan m m' c.self.inside.ends c.give_back.new.self e o.activation.held c.len.result c.self.invariant.0 c.self.invariant.2
          c.self.invariant.3 given (c.len.ensures ∙ ap (λ (l : List Commit). length l) log) history own,
    )

pub returns-clause-entered : goal.returns-clause-entered
returns-clause-entered g c =
    let o = c.args.ended in
    let m = c.self.inside.manager in
    let d : IsManagerOf o.plan m = subst (λ (p : Plan). IsManagerOf p m) (sym c.requires.plan) c.self.invariant.0 in
    let began : c.begun-begun.result ≡ o.activation.begun = c.begun-begun.ensures ∙ ap (λ (e : Commit). e.begun) c.entry-entry.ensures.is in
    let long : c.len-position.result ≡ length m.history = c.len-position.ensures ∙ ap (λ (es : List Commit). length es) c.history.ensures in
    let above : length c.args.seen.now ≤ o.activation.begun = omega (arith, c.if-begun-floor.false, began, c.len-floor.ensures) in
    let below : o.activation.begun ≤ length m.history = omega (arith, c.if-position-begun.false, began, long) in
    let can : CanBeReleased m o = search rules in
    let stands : IsEntered o.plan (length c.args.seen.now) o c.release.result.1.position =
    entered m _ o _ _ (length c.args.seen.now) c.sections_stay_in_order.ensures d c.keeps_its_rules-2.ensures.rules_kept c.keeps_its_rules.ensures.kept
    can c.release.ensures above below in
    subst (λ (p : Plan). IsEntered p (length c.args.seen.now) o c.release.result.1.position) c.requires.plan stands

pub returns-clause-own : goal.returns-clause-own
returns-clause-own g c =
    let log = c.self.inside.log in
    let e = c.entry-entry.result in
    let begins : Begins c.args.seen.now log =
    subst (Begins c.args.seen.now) c.front.ensures (c.begins-2.ensures.exact.0 c.if-not-begins.false) in
    sees_its_own c.args.ended e c.args.seen.now log c.front-2.result c.release.result.1.position c.len-floor.result c.thread.result c.entry-entry.ensures
    begins c.len-floor.ensures c.thread.ensures (c.has_none_of.ensures.0 c.if-not-has_none_of.false) (c.front-2.ensures ∙ c.if-not-enter.ensures)
    (c.release.ensures.releases.position ∙ ap (λ (es : List Commit). length es) (sym c.self.invariant.1))

pub returns-clause-sound : goal.returns-clause-sound
returns-clause-sound g c =
    let o = c.args.ended in
    let m = c.self.inside.manager in
    let d : IsManagerOf o.plan m = subst (λ (p : Plan). IsManagerOf p m) (sym c.requires.plan) c.self.invariant.0 in
    let began : c.begun-begun.result ≡ o.activation.begun = c.begun-begun.ensures ∙ ap (λ (e : Commit). e.begun) c.entry-entry.ensures.is in
    let long : c.len-position.result ≡ length m.history = c.len-position.ensures ∙ ap (λ (es : List Commit). length es) c.history.ensures in
    let above : length c.args.seen.now ≤ o.activation.begun = omega (arith, c.if-begun-floor.false, began, c.len-floor.ensures) in
    let below : o.activation.begun ≤ length m.history = omega (arith, c.if-position-begun.false, began, long) in
    let can : CanBeReleased m o = search rules in
    let e = c.entry-entry.result in
    let after : IsSound o.plan (m.history ++ e ∷ []) =
    sound_after m _ o _ _ e (length c.args.seen.now) c.one_entry_more.ensures.legal c.one_entry_more.ensures.all_true c.sections_stay_in_order.ensures d
    c.keeps_its_rules-2.ensures.rules_kept c.keeps_its_rules.ensures.kept can c.release.ensures above below c.entry-entry.ensures in
    let is : c.front-2.result ≡ m.history ++ e ∷ [] =
    c.front-2.ensures ∙ c.if-not-enter.ensures ∙ ap (λ (l : List Commit). l ++ e ∷ []) c.self.invariant.1 in
    subst (λ (p : Plan). IsSound p c.front-2.result) c.requires.plan (subst (IsSound o.plan) (sym is) after)
