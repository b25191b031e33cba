use Rattle.std.proofs.Common.{sym, ap, ◌∙◌, Some, arith}
use Rattle.syntax.specs.Views.{member_of}
use Rattle.resolution.specs.CoreViews.{core_of}
use Rattle.types_symbols.specs.Working.Views.{decls_of}
use Rattle.types.specs.Working.Grown.{if_right}
use Rattle.types.specs.Working.Slots.{slot_of}
use Rattle.types.proofs.Lost.{parts_next, parts_lost, few_fields}
use Rattle.types.proofs.grown.Builder.add_parts.Goals as goal

pub returns-then-not-branch : goal.returns-then-not-branch
returns-then-not-branch c =
    parts_lost (decls_of c.args.self.now.symbols.now) c.args.members.now c.loop-place.place c.index-members-place.result c.loop-place-test.true c.index-members-place.is (slot_of c.args.slot) c.loop-place.place c.loop-place.fields _ _
    c.loop-place.invariant.value (ap (λ b. if_right b c.add_part.new.program) (sym c.if-not-branch.true) ∙ c.in_ok-add_part.ensures)

pub loop-place-preserved : goal.loop-place-preserved
loop-place-preserved c =
    let few = few_fields (member_of c.index-members-place.result) in
    record {
      value = parts_next (decls_of c.args.self.now.symbols.now) c.args.members.now c.loop-place.place c.index-members-place.result c.loop-place-test.true c.index-members-place.is (slot_of c.args.slot) c.loop-place.place c.loop-place.fields c.field_count.result (Some (core_of c.loop-place.program)) _ _
          c.loop-place.invariant.value (ap (λ b. if_right b c.add_part.new.program) (sym c.if-not-branch.false) ∙ c.in_ok-add_part.ensures) c.field_count.ensures;
      few = omega (arith, few, c.field_count.ensures, c.loop-place.invariant.few);
    }
