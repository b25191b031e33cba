use Rattle.std.proofs.Common.{ap, subst, List}
use mathlib.Core.List.{IsPrefix}
use Rattle.history.specs.Commits.{Commit}
use Rattle.workers.proofs.Fronts.{one_begins, first_begins, no_longer}
use Rattle.workers.proofs.front.Front.begins.Goals as goal

pub returns-clause-one : goal.returns-clause-one
returns-clause-one g c =
    let both = c.learn.new.self.log in
    let this : IsPrefix c.self.inside.seen.log both = subst (λ (l : List Commit). IsPrefix l both) (ap (λ s. s.log) c.again-both.ensures) c.learn.ensures.2 in
    rw (← c.self.view_is, ← c.other.view_is)
    (one_begins c.self.inside.seen.log c.other.inside.seen.log both c.self.inside.count c.other.inside.count c.self.invariant.0 c.other.invariant.0 this c.learn.ensures.3)

pub returns-clause-exact : goal.returns-clause-exact
returns-clause-exact g c =
    let both = c.learn.new.self.log in
    let this : IsPrefix c.self.inside.seen.log both = subst (λ (l : List Commit). IsPrefix l both) (ap (λ s. s.log) c.again-both.ensures) c.learn.ensures.2 in
    rw (← c.self.view_is, ← c.other.view_is) (
      λ is. first_begins c.self.inside.seen.log c.other.inside.seen.log both c.self.inside.count c.other.inside.count c.self.invariant.0 c.other.invariant.0 this c.learn.ensures.3 is,
      λ begins. no_longer c.self.inside.seen.log c.other.inside.seen.log c.self.inside.count c.other.inside.count c.self.invariant.0 c.other.invariant.0 begins,
    )
