use Rattle.std.proofs.Common.{◌∙◌, ℕ, List, sym, subst, ap}
use Rattle.outcomes.specs.declared.state.Change.{Change}
use Rattle.outcomes.specs.Working.Changes.{AreChanges}
use Rattle.outcomes.specs.Working.Hashes.{hash}
use Rattle.outcomes.specs.Working.States.{Layered, reached_of}
use Rattle.outcomes.specs.Working.Tables.{IsKey}
use Rattle.outcomes.proofs.layer.Layer.push.Goals as goal

pub push_by-requires-clause-key : goal.push_by-requires-clause-key
push_by-requires-clause-key c =
    let start = c.self.inside.start in
    let state = c.args.state in
    let are : AreChanges c.self.inside.opening.now state.changes.items =
    subst (λ (v : Layered). AreChanges v.opening state.changes.items) (sym c.self.view_is) c.requires.changes in
    subst (λ (v : Layered). IsKey v (reached_of v.opening state) c.hash-key.result) c.self.view_is
    (c.hash-key.ensures ∙ ap (λ (d : List ℕ). hash start d c.deref-2.result.now c.deref-3.result.now) c.deref.ensures.value
    ∙ ap (λ (v : List Change). hash start state.done.items v c.deref-3.result.now) c.deref-2.ensures.value
    ∙ ap (hash start state.done.items state.changes.items) c.deref-3.ensures.value
    ∙ ap (λ (v : List Change). hash start state.done.items v state.answers.items) are)
