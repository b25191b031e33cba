use Rattle.std.proofs.Common.{sym, subst, refl}
use Rattle.worlds.specs.declared.event.Event.TheVariants as event
use Rattle.interleavings.specs.declared.state.TypedState.{TypedState}
use Rattle.interleavings.specs.Working.Steps.{Steps}
use Rattle.interleavings.proofs.stepping.step.Goals as goal

pub returns-in-Running : goal.returns-in-Running
returns-in-Running c =
    subst (λ (x : TypedState). Steps c.args.program.now c.args.manager.now x event.Moved c.state_of.result c.args.manager.now)
    (sym c.in-Running.is)
    (record {
      next = c.step.result;
      state_is = c.state_of.ensures;
      is = c.step.ensures.is;
      named = c.step.ensures.named;
      manager = refl;
    })
