use Rattle.std.proofs.Common.{List, sym, ap, subst, ◌∙◌}
use Rattle.std.specs.List.{Contains}
use Rattle.locks.specs.declared.lock.Lock.{Lock}
use Rattle.lock_manager.specs.Manager.{SessionOf}
use Rattle.locks.specs.Theory.Order.{is_contained}
use Rattle.std.proofs.lemmas.Option.{none-some}
use Rattle.lock_manager.proofs.sections.Sections.holds.Goals as goal
use Rattle.core_lang.specs.Theory.Items.{both_false, some_same}

pub returns-in-None : goal.returns-in-None
returns-in-None c = both_false (λ h. none-some h.session (sym c.in-None.ensures ∙ h.is))

pub returns-in-Some : goal.returns-in-Some
returns-in-Some c =
    let s = c.in-Some.session.now in (
      λ e. record { session = s; is = c.in-Some.ensures; held = subst (λ (ls : List Lock). Contains ls c.args.lock) c.held.ensures ((is_contained c.held.result.now c.args.lock c.is_among.result c.is_among.ensures).0 e) },
      λ h. (is_contained c.held.result.now c.args.lock c.is_among.result c.is_among.ensures).1
          (subst (λ (ls : List Lock). Contains ls c.args.lock) (ap (λ (x : SessionOf). x.held) (some_same h.session s (sym h.is ∙ c.in-Some.ensures)) ∙ sym c.held.ensures) h.held),
    )
