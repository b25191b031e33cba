use Rattle.std.proofs.Common.{ℕ, ap, sym, refl, ◌∙◌}
use Rattle.core_lang.specs.Serial.{invocation}
use Rattle.worlds.specs.Worlds.{call_at}
use Rattle.interleavings.specs.declared.state.TypedState.TheVariants as state
use Rattle.interleavings.proofs.stepping.begin.Goals as goal

pub returns-in-Ok : goal.returns-in-Ok
returns-in-Ok c =
    let plan = c.args.program.now in
    record {
      call = invocation c.in-Some.call.now;
      call_is = ap (λ (t : ℕ). call_at plan t c.args.ready.step) (sym c.thread.ensures)
          ∙ ap (λ (step : ℕ). call_at plan c.thread.result step) (sym c.step.ensures) ∙ c.in-Some.ensures.is;
      section = c.in-Ok.running;
      state_is = refl;
      began = c.in-Ok.ensures.ok;
    }

pub returns-in-Err : goal.returns-in-Err
returns-in-Err c =
    let plan = c.args.program.now in
    let is = ap (λ (t : ℕ). call_at plan t c.args.ready.step) (sym c.thread.ensures)
    ∙ ap (λ (step : ℕ). call_at plan c.thread.result step) (sym c.step.ensures) ∙ c.in-Some.ensures.is in
    ((invocation c.in-Some.call.now, is), (ap state.Ready c.in-Err.ensures.err, c.in-Err.ensures.same))
