use Rattle.std.specs.Prelude.{◌≡◌, ◌+◌, List}
use Rattle.std.proofs.Common.{◌∙◌, refl, sym, ap, subst}
use Rattle.lock_manager.specs.Working.Sessions.{TicketOf}
use Rattle.moved_cells.specs.Working.Grants.{GrantOf}
use Rattle.history.specs.Commits.{Commit}
use Rattle.lock_manager.specs.Working.Calls.{Fits, Releases}
use Rattle.runner.specs.declared.body.SectionFrame.{SectionFrame}
use Rattle.runner.specs.Working.Opens.{OpenOf, ReadyOf, CanGiveBack, Released, entry_of}
use Rattle.runner.specs.Working.Ties.{ended_in, entry_in}
use Rattle.runner.proofs.Endings.{own_release}
use Rattle.runner.proofs.states.Ended.release.Goals as goal

pub release-receipt-requires-clause-fits : goal.release-receipt-requires-clause-fits
release-receipt-requires-clause-fits c =
    let x = c.self.inside in
    let b = x.body.value in
    let m = c.args.manager.now in
    let o = ended_in x.program.now x.ticket b in
    let grants : c.swap.new.x.items ≡ b.grants.items =
    (λ i. (c.swap.ensures.x_after i).items) ∙ ap (λ (b : SectionFrame). b.grants.items) c.deref_mut.ensures.value in
    let entry : c.entry-entry.result ≡ entry_in x.ticket b =
    c.entry-entry.ensures ∙ ap (entry_in x.ticket) c.deref-3.ensures ∙ ap (entry_in x.ticket) c.deref_mut.ensures.value in
    let own = own_release m o x.ticket b.machine b.grants.items b.outcome c.self.invariant refl
    (subst (CanGiveBack m) (sym c.self.view_is) c.requires.back) in
    subst (λ (gs : List GrantOf). Fits m x.ticket gs c.entry-entry.result) (sym grants)
    (subst (λ (e : Commit). Fits m x.ticket b.grants.items e) (sym entry) own.1)

pub returns : goal.returns
returns c =
    let x = c.self.inside in
    let b = x.body.value in
    let m = c.args.manager.now in
    let o = ended_in x.program.now x.ticket b in
    let grants : c.swap.new.x.items ≡ b.grants.items =
    (λ i. (c.swap.ensures.x_after i).items) ∙ ap (λ (b : SectionFrame). b.grants.items) c.deref_mut.ensures.value in
    let entry : c.entry-entry.result ≡ entry_in x.ticket b =
    c.entry-entry.ensures ∙ ap (entry_in x.ticket) c.deref-3.ensures ∙ ap (entry_in x.ticket) c.deref_mut.ensures.value in
    let own = own_release m o x.ticket b.machine b.grants.items b.outcome c.self.invariant refl
    (subst (CanGiveBack m) (sym c.self.view_is) c.requires.back) in
    let m' = c.release-receipt.new.self in
    let receipt = c.release-receipt.result in
    subst (λ (r : ReadyOf). Released m c.args.self r receipt m') (sym c.after.ensures)
    (subst (λ (s : OpenOf). Released m s (record { thread = c.thread-thread.result; step = c.deref.result.now.step + 1 }) receipt m') c.self.view_is
    (record {
      grants = b.grants.items;
      outcome = b.outcome;
      its = c.self.invariant.its;
      over = refl;
      ready_is = λ i. record { thread = c.thread-thread.ensures i; step = (c.deref.ensures i).step + 1 };
      releases =
          subst (λ (t : TicketOf). Releases m t b.grants.items (entry_of o b.outcome) receipt m') c.self.invariant.ticket_is
          (subst (λ (e : Commit). Releases m x.ticket b.grants.items e receipt m') entry
          (subst (λ (gs : List GrantOf). Releases m x.ticket gs c.entry-entry.result receipt m') grants c.release-receipt.ensures.released));
    }))
