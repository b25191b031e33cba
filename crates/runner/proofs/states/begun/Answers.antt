use Rattle.std.specs.Prelude.{◌≡◌, ◌++◌}
use Rattle.std.proofs.Common.{sym, ap, ◌∙◌, subst}
use Rattle.runner.specs.declared.body.SectionFrame.{SectionFrame}
use Rattle.runner.specs.Working.Asked.{AreTaken}
use Rattle.runner.specs.Working.Ties.{open_in, IsKeptOpen}
use Rattle.runner.proofs.Begun.{as_begun, kept_at_first}
use Rattle.runner.proofs.Taken.{none_taken}
use Rattle.runner.proofs.states.begun.Goals as goal

pub invariant_of-result : goal.invariant_of-result
invariant_of-result c =
    let b = c.args.memory.body.value in
    let t = c.args.ticket in
    let same : c.deref_mut.result.now ≡ b = c.deref_mut.ensures.value ∙ c.into_body-body.ensures.body in (
      subst (λ (x : SectionFrame). IsKeptOpen (open_in c.args.program.now t (record x { step = c.args.step })) t x.machine x.pending.room) (sym same)
          (kept_at_first c.args.program.now b t c.args.step c.sections_stay_in_order.ensures c.requires.prepared c.requires.ticket),
      ap (λ (x : SectionFrame). x.grants.items) same ∙ c.args.memory.grants,
      subst (λ (x : SectionFrame). AreTaken c.args.program.now x.section (t.session.held ++ x.pending.locks) x.taken) (sym same)
          (none_taken c.args.program.now b.section (t.session.held ++ b.pending.locks) b.taken c.requires.prepared.none_taken),
    )

pub returns : goal.returns
returns c =
    let b = c.args.memory.body.value in
    let t = c.args.ticket in
    let same : c.deref_mut.result.now ≡ b = c.deref_mut.ensures.value ∙ c.into_body-body.ensures.body in
    ap (λ (x : SectionFrame). open_in c.args.program.now t (record x { step = c.args.step })) same ∙ as_begun c.args.program.now b t c.args.step c.requires.prepared c.requires.ticket
