use Rattle.driver.proofs.CallLemmas.{can_call_all}
use Rattle.driver.proofs.running.run_scripts.Goals as goal

pub run_calls-requires-clause-calls : goal.run_calls-requires-clause-calls
run_calls-requires-clause-calls c =
    rw (c.requires.same, c.deref.ensures.value, c.in_ok-calls.ensures) (can_call_all c.args.program.now c.requires.checked)
