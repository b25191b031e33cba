use Rattle.std.proofs.Common.{List, Option, length, sym, ap, ◌∙◌}
use Rattle.std.proofs.lemmas.Bool.{ltb-true}
use Rattle.lock_manager.specs.Manager.{SessionOf, session_in}
use Rattle.lock_manager.proofs.Slots.{none_there, session_read, none_past}
use Rattle.lock_manager.proofs.sections.Sections.of.Goals as goal

pub returns-in-Some : goal.returns-in-Some
returns-in-Some c =
    let slots = c.deref.result.now in
    let found = c.in_ok-session.ensures.lookup in
    sym (ap (λ (v : List (Option SessionOf)). session_in v c.args.thread) (c.deref.ensures.value ∙ c.self.view_is))
    ∙ session_read slots c.args.thread c.in_ok-session.field-0.now c.in-Some.session (ltb-true c.args.thread (length slots) (sym found.0)) found.1 c.in-Some.is

pub returns-in-None : goal.returns-in-None
returns-in-None c =
    sym (ap (λ (v : List (Option SessionOf)). session_in v c.args.thread) (c.deref.ensures.value ∙ c.self.view_is))
    ∙ none_there c.deref.result.now c.args.thread c.in_ok-session.field-0.now c.in_ok-session.ensures.lookup.1 c.in-None.is

pub returns-in_err-session : goal.returns-in_err-session
returns-in_err-session c =
    let none = sym (ap (λ (v : List (Option SessionOf)). session_in v c.args.thread) (c.deref.ensures.value ∙ c.self.view_is))
    ∙ none_past c.deref.result.now c.args.thread c.in_err-session.ensures.lookup.3 in
    rw c.from_residual.ensures none
