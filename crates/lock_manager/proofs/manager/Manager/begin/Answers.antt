use Rattle.std.proofs.Common.{ℕ, Some, set, ap, ◌∙◌, List, Option}
use Rattle.history.specs.Working.Histories.{HistoryOf}
use Rattle.lock_manager.specs.Manager.{SessionOf}
use Rattle.lock_manager.specs.Working.Sessions.{fresh}
use Rattle.lock_manager.specs.Manager.{Managed, session_of}
use Rattle.lock_manager.specs.Working.Managers.{managed}
use Rattle.lock_manager.proofs.Sound.{sound_begin}
use Rattle.lock_manager.proofs.manager.Manager.begin.Goals as goal

pub invariant_of-self-2 : goal.invariant_of-self-2
invariant_of-self-2 c =
    let x = c.self.inside in
    let t = c.args.thread in
    sound_begin (managed x.committed x.ranks.now x.places.items x.queue x.sections x.history.commits) x.history.promised t c.args.room
    c.open.new.self c.promise.new.self.commits c.promise.new.self.promised c.self.invariant c.requires.thread
    (ap (λ (v : Managed). session_of v t) c.self.view_is ∙ c.requires.closed)
    (c.open.ensures ∙ ap (λ (ss : List (Option SessionOf)). set ss t (Some c.in_ok-slot.slot)) c.session.ensures.same
    ∙ ap (λ (s : SessionOf). set x.sections t (Some s)) (c.in_ok-slot.ensures.ok ∙ ap (λ (n : ℕ). fresh n c.args.room) c.len-begun.ensures))
    (ap (λ (h : HistoryOf). h.commits) c.in_ok-promise.ensures.ok)
    (ap (λ (h : HistoryOf). h.promised) c.in_ok-promise.ensures.ok)
