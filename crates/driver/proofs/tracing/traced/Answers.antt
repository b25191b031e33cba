use Rattle.std.proofs.Common.{List, rules, ap, ◌∙◌}
use Rattle.rope.specs.Working.Ropes.{rope_text}
use Rattle.input_files.specs.declared.turn.Turn.{Turn}
use Rattle.input_files.specs.Turns.{steps_of}
use Rattle.report_runs.specs.Trace.{trace_text}
use Rattle.driver.specs.Traces as answer
use Rattle.driver.proofs.tracing.traced.Goals as goal

pub returns : goal.returns
returns c = answer.traced (record {
  turns = c.in-Ok.turns.items;
  said = search rules;
  headline = search rules;
  ended = c.done.ensures.ended;
  written = c.done.ensures.written ∙ ap rope_text c.of.ensures ∙ c.in_ok-out.ensures
      ∙ ap (λ (ts : List Turn). trace_text c.args.trace.now.text.now c.args.trace.now.program.now c.args.trace.now.moves c.args.trace.now.all (steps_of ts)) c.deref.ensures.value;
  told = c.done.ensures.told;
})
