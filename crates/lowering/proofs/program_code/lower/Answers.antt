use Rattle.std.proofs.Common.{◌≡◌, ◌∙◌, ◌<◌, length, Some, inl, inr, refl, sym, ap, subst, arith}
use Rattle.std.specs.Prelude.{slice_get}
use Rattle.std.proofs.lemmas.Option.{same_Some, slice_get_read}
use Rattle.core_lang.specs.Theory.Items.{pushed_at}
use Rattle.inserter.specs.Placement.{all_lists}
use Rattle.code.specs.Lowering.{lists_at}
use Rattle.lowering.specs.Working.Lowered.{IsLowered}
use Rattle.lowering.proofs.program_code.lower.Goals as goal

pub loop-k-preserved : goal.loop-k-preserved
loop-k-preserved c =
    let program = c.args.program.now in
    let lists = all_lists c.args.placed.now in
    let here = c.index-section.result.now in
    let new = c.in_ok-code_of.field-0 in
    record {
      long = omega (arith, c.in_ok-push.ensures.len, c.loop-k.invariant.long, c.loop-k.sections.ok.0, c.push.new.self.ok.0);
      each = λ j section made at e.
          let split = pushed_at c.loop-k.sections.items new j made in
          elim (split (subst (λ l. slice_get l j ≡ Some made) c.in_ok-push.ensures.items e)) [
            | inl old ↦ c.loop-k.invariant.each j section made at old
            | inr last ↦
                let k : j ≡ c.loop-k.k = last.0 ∙ c.loop-k.invariant.long in
                let lt : c.loop-k.k < length program.sections.items =
                omega (arith, c.loop-k-test.true, c.len-k-end.ensures, program.sections.ok.0) in
                let there : slice_get program.sections.items c.loop-k.k ≡ Some here =
                slice_get_read program.sections.items (length program.sections.items) c.loop-k.k here refl lt
                c.index-section.ensures in
                let same : section ≡ here =
                same_Some section here (sym at ∙ ap (slice_get program.sections.items) k ∙ there) in
                let done : IsLowered here (lists_at lists c.loop-k.k) new =
                subst (λ ls. IsLowered here ls new) c.lists_before-lists.ensures (record {
                  instructions = c.in_ok-code_of.ensures.instructions;
                  begins = c.in_ok-code_of.ensures.begins;
                  operands = c.in_ok-code_of.ensures.operands;
                }) in
                subst (λ m. IsLowered section (lists_at lists j) m) last.1
                (subst (λ s. IsLowered s (lists_at lists j) new) (sym same)
                (subst (λ i. IsLowered here (lists_at lists i) new) (sym k) done))
          ];
    }

pub returns : goal.returns
returns c = record {
  long = omega (arith, c.loop-k.invariant.long, c.loop-k-test.false, c.loop-k.auto.k-end, c.len-k-end.ensures, c.args.program.now.sections.ok.0);
  each = c.loop-k.invariant.each;
}
