use Rattle.std.proofs.Common.{◌+◌, drop}
use Rattle.syntax.specs.Views.{expr_of}
use Rattle.resolution.specs.declared.wanted.Want.TheVariants.{Anything}
use Rattle.resolution.specs.Working.Findings.{found_in}
use Rattle.resolution.specs.Working.FaultLists.{wanted_faults}
use Rattle.types_symbols.specs.Theory.Steps.{step, noted_one}
use Rattle.types_bodies.specs.Working.Checkers.{scope}
use Rattle.types_bodies.specs.Working.Calls.{each_blamed}
use Rattle.types_bodies.proofs.call.report_each.Goals as goal

pub loop-e-preserved : goal.loop-e-preserved
loop-e-preserved c =
    let sc = scope c.args.checker.now in
    let es = c.args.arguments.now in
    let i = c.loop-e.e-index in
    let e = c.e-item.result in
    record {
      faults = step (λ xs. found_in c.loop-e.firsts (each_blamed sc xs)) (λ xs. found_in c.value.new.firsts (each_blamed sc xs)) es i e _ c.loop-e-test.true c.e-item.is
          (noted_one c.loop-e.firsts c.value.new.firsts (wanted_faults sc Anything (expr_of e)) (each_blamed sc (drop (i + 1) es)) c.in_ok-value.ensures.faults) c.loop-e.invariant.faults;
    }
