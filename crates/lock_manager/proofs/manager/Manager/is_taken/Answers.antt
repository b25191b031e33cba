use Rattle.std.proofs.Common.{◌∙◌, Some, ap, subst, sym}
use Rattle.std.proofs.lemmas.Bool.{eq-eqb, eqb-true}
use Rattle.lock_manager.specs.Manager.{Managed}
use Rattle.lock_manager.specs.Working.Managers.{managed}
use Rattle.lock_manager.specs.Working.Calls.{Knows}
use Rattle.lock_manager.proofs.Rules.{place_within, taken_is_held, free_not_held, held_by_its_thread}
use Rattle.lock_manager.proofs.manager.Manager.is_taken.Goals as goal
use Rattle.core_lang.specs.Theory.Items.{read_at, both_false}

pub returns-in-Free : goal.returns-in-Free
returns-in-Free c =
    let x = c.self.inside in
    let m = managed x.committed x.ranks.now x.places.items x.queue x.sections x.history.commits in
    let n = c.number_of.result in
    let known = subst (λ (v : Managed). Knows v c.args.ticket.now) (sym c.self.view_is) c.requires.known in
    let here = read_at m.places n c.index.result.now (place_within m n c.args.lock c.self.invariant.0 c.number_of.ensures.at) c.index.ensures ∙ ap Some c.in-Free.is in
    both_false (free_not_held m c.args.ticket.now c.args.lock n c.in-Free.field-0 c.self.invariant.0 known c.number_of.ensures.found here)

pub returns-in-Taken : goal.returns-in-Taken
returns-in-Taken c =
    let x = c.self.inside in
    let m = managed x.committed x.ranks.now x.places.items x.queue x.sections x.history.commits in
    let n = c.number_of.result in
    let t = c.in-Taken.thread in
    let known = subst (λ (v : Managed). Knows v c.args.ticket.now) (sym c.self.view_is) c.requires.known in
    let here = read_at m.places n c.index.result.now (place_within m n c.args.lock c.self.invariant.0 c.number_of.ensures.at) c.index.ensures ∙ ap Some c.in-Taken.is in (
      λ e. taken_is_held m c.args.ticket.now c.args.lock n t c.self.invariant.0 known c.number_of.ensures.found here (eqb-true t c.thread.result e ∙ c.thread.ensures),
      λ held. eq-eqb t c.thread.result (held_by_its_thread m c.args.ticket.now c.args.lock n t c.self.invariant.0 known c.number_of.ensures.found here held ∙ sym c.thread.ensures),
    )
