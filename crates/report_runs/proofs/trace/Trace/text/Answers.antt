use Rattle.std.proofs.Common.{◌∙◌, ◌++◌, string_bytes, ap}
use Rattle.input_files.specs.Turns.{steps_of}
use Rattle.report_runs.proofs.TraceSteps.{trace_made}
use Rattle.report_runs.proofs.trace.Trace.text.Goals as goal

pub returns : goal.returns
returns c =
    let out = string_bytes c.take_turns.new.out in
    trace_made c.in_ok-teller.teller c.args.self.now.text.now c.args.self.now.program.now c.args.self.now.moves c.args.self.now.all
    (steps_of c.args.turns.now) c.in_ok-world.world c.take_turns.new.world c.new-out.result c.take_turns.new.out
    (string_bytes c.push_str.new.self) c.in_ok-teller.ensures c.in_ok-world.ensures c.new-out.ensures.bytes
    c.in_ok-take_turns.ensures
    (c.in_ok-push_str.ensures.bytes ∙ ap (λ l. out ++ l) (c.deref.ensures ∙ c.in_ok-simulation_text.ensures))
