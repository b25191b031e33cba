use Rattle.std.specs.Prelude.{◌≡◌}
use Rattle.std.proofs.Common.{sym, ap, ◌∙◌, subst}
use Rattle.runner_machine.specs.Working.Machines.{IsFinished}
use Rattle.runner.specs.declared.body.SectionFrame.{SectionFrame}
use Rattle.runner.specs.Working.Opens.{OpenOf, moved, entry_of}
use Rattle.runner.specs.Working.Ties.{over_by, its_call, ended_as, IsKeptEnded}
use Rattle.runner.proofs.Endings.{IsOver, ended_is, kept_ended}
use Rattle.runner.proofs.states.end.Goals as goal

pub invariant_of-result : goal.invariant_of-result
invariant_of-result c =
    let x = c.opened.inside in
    let b = x.body.value in
    let outcome = c.args.outcome in
    let run = c.finish.new.self in
    let grants = c.finish.new.grants.items in
    let same_body : c.deref_mut-block.result.now ≡ b = c.deref_mut-block.ensures.value in
    let over : IsOver x.program.now x.ticket b.step (its_call b) b.machine b.pending.locks b.asked b.pending.room outcome
    run grants =
    record {
      kept = c.opened.invariant.0;
      none = ap (λ (s : OpenOf). s.activation.pending) c.opened.view_is ∙ c.requires.pending;
      leads = subst (λ (s : OpenOf). moved s ≡ over_by s outcome) (sym c.opened.view_is) c.requires.leads;
      finished = subst (λ (b : SectionFrame). IsFinished b.machine grants run) same_body c.finish.ensures;
    } in
    subst (λ (b : SectionFrame).
    IsKeptEnded (ended_as x.program.now x.ticket b.step (its_call b) run grants b.asked outcome) x.ticket run grants
    (entry_of (ended_as x.program.now x.ticket b.step (its_call b) run grants b.asked outcome) outcome)) (sym same_body)
    (kept_ended x.program.now x.ticket b.step (its_call b) b.machine b.pending.locks b.asked b.pending.room outcome
    run grants c.sections_stay_in_order.ensures over)

pub returns : goal.returns
returns c =
    let x = c.opened.inside in
    let b = x.body.value in
    let outcome = c.args.outcome in
    let run = c.finish.new.self in
    let grants = c.finish.new.grants.items in
    let same_body : c.deref_mut-block.result.now ≡ b = c.deref_mut-block.ensures.value in
    let over : IsOver x.program.now x.ticket b.step (its_call b) b.machine b.pending.locks b.asked b.pending.room outcome
    run grants =
    record {
      kept = c.opened.invariant.0;
      none = ap (λ (s : OpenOf). s.activation.pending) c.opened.view_is ∙ c.requires.pending;
      leads = subst (λ (s : OpenOf). moved s ≡ over_by s outcome) (sym c.opened.view_is) c.requires.leads;
      finished = subst (λ (b : SectionFrame). IsFinished b.machine grants run) same_body c.finish.ensures;
    } in
    ap (λ (b : SectionFrame). ended_as x.program.now x.ticket b.step (its_call b) run grants b.asked outcome) same_body
    ∙ ended_is x.program.now x.ticket b.step (its_call b) b.machine b.pending.locks b.asked b.pending.room outcome
    run grants over
    ∙ ap (λ (s : OpenOf). over_by s outcome) c.opened.view_is
