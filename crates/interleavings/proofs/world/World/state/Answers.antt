use Rattle.std.proofs.Common.{◌≡◌, Some, List, length, true, ltb, refl, sym, ap, ◌∙◌, arith}
use Rattle.std.proofs.lemmas.Option.{slice_get_read}
use borrow.Author.Tests.{ltb-true}
use Rattle.interleavings.specs.declared.state.TypedState.{TypedState}
use Rattle.std.specs.Prelude.{slice_get}
use Rattle.interleavings.specs.Threads.{ThreadsOf}
use Rattle.interleavings.specs.Statuses.{status_of}
use Rattle.interleavings.proofs.Turning.{status_is}
use Rattle.interleavings.proofs.world.World.state.Goals as goal

pub returns-in-Some : goal.returns-in-Some
returns-in-Some c =
    let here : slice_get c.self.inside.states.items c.args.thread ≡ Some c.in-Some.state.now =
    ap (λ (ss : List TypedState). slice_get ss c.args.thread) (sym c.deref.ensures.value)
    ∙ slice_get_read c.deref.result.now (length c.deref.result.now) c.args.thread c.in-Some.state.now refl
    (let found : ltb c.args.thread (length c.deref.result.now) ≡ true = sym c.in-Some.ensures.lookup.0 in omega (arith, ltb-true c.args.thread (length c.deref.result.now) found)) c.in-Some.ensures.lookup.1 in
    c.status.ensures
    ∙ status_is c.self.inside.program.now c.self.inside.manager c.self.inside.states.items c.args.thread c.self.invariant c.keeps_its_rules.ensures.rules_kept c.in-Some.state.now here
    ∙ ap (λ (w : ThreadsOf). status_of w.plan w.world c.args.thread) c.self.view_is
