use Rattle.std.proofs.Common.{◌∙◌, ap}
use Rattle.std.specs.Prelude.{nat_le}
use Rattle.source.specs.declared.fault.Code.TheVariants.{LimitExceeded}
use Rattle.resolution.specs.Working.Findings.{found_in}
use Rattle.resolution.specs.declared.body_limits.BodyLimits.{BodyLimits}
use Rattle.resolution.specs.Working.FaultLists.{one_if}
use Rattle.core_lang.specs.declared.tree.LocalKind.TheVariants.{Parameter}
use Rattle.syntax.specs.Views.{ident}
use Rattle.resolution.specs.Scopes.{bound}
use Rattle.types_symbols.specs.Theory.Steps.{param_step}
use Rattle.types_bodies.specs.Working.Checkers.{scope}
use Rattle.types_bodies.proofs.Blocks.{param_fault_step}
use Rattle.types_bodies.proofs.section.check_params.Goals as goal

pub loop-place-preserved : goal.loop-place-preserved
loop-place-preserved c =
    let sc = scope c.loop-place.checker in
    let sc' = scope c.bind.new.self in
    let behind = c.in_ok-bind.ensures ∙ ap (bound sc Parameter (ident c.index-params-place.result.name)) c.declared_type-t.ensures.value in
    record {
      faults = param_fault_step sc sc' c.args.params.now c.loop-place.place c.index-params-place.result _ _ _ _ _ c.loop-place-test.true c.index-params-place.is c.report_name.ensures
          (c.report_if.ensures ∙ ap (λ (l : BodyLimits). found_in c.report_name.new.firsts (one_if (nat_le l.parameters c.loop-place.place) LimitExceeded (ident c.index-params-place.result.name).span.start)) c.limits.ensures)
          c.declared_type-t.ensures.faults behind c.loop-place.invariant.faults;
      scope = param_step sc sc' _ c.args.params.now c.loop-place.place c.index-params-place.result c.loop-place-test.true c.index-params-place.is behind c.loop-place.invariant.scope;
    }
