use Rattle.std.proofs.Common.{◌≡◌, Some, List, length, true, ltb, refl, sym, ap, ◌∙◌, arith}
use Rattle.std.proofs.lemmas.Option.{slice_get_read}
use borrow.Author.Tests.{ltb-true}
use Rattle.interleavings.specs.declared.state.TypedState.{TypedState}
use Rattle.std.specs.Prelude.{slice_get}
use Rattle.interleavings.specs.Threads.{ThreadsOf}
use Rattle.interleavings.specs.Coming.{coming_to}
use Rattle.interleavings.proofs.ComingTo.{coming_is}
use Rattle.interleavings.proofs.world.World.coming.Goals as goal

pub returns : goal.returns
returns c =
    let here : slice_get c.self.inside.states.items c.args.thread ≡ Some c.in-Some.state.now =
    ap (λ (ss : List TypedState). slice_get ss c.args.thread) (sym c.deref.ensures.value)
    ∙ slice_get_read c.deref.result.now (length c.deref.result.now) c.args.thread c.in-Some.state.now refl
    (let found : ltb c.args.thread (length c.deref.result.now) ≡ true = sym c.in-Some.ensures.lookup.0 in omega (arith, ltb-true c.args.thread (length c.deref.result.now) found)) c.in-Some.ensures.lookup.1 in
    c.coming.ensures
    ∙ coming_is c.self.inside.program.now c.self.inside.manager c.self.inside.states.items c.args.thread c.self.invariant c.in-Some.state.now here
    ∙ ap (λ (w : ThreadsOf). coming_to w.world c.args.thread) c.self.view_is
