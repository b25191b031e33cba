use Rattle.std.proofs.Common.{◌≡◌, ℕ, length, Some}
use Rattle.std.specs.Prelude.{slice_get}
use Rattle.core_lang.specs.declared.tree.Section.{Section}
use Rattle.code.specs.declared.section_code.SectionCode.{SectionCode}
use Rattle.inserter.specs.Placement.{all_lists}
use Rattle.code.specs.Lowering.{lists_at}
use Rattle.lowering.specs.Working.Lowered.{IsLowered}
use Rattle.lowering.proofs.program_code.lower.Given as goal

abbrev pub invariant-loop-k : goal.invariant-loop-k
invariant-loop-k l = record {
  long : length l.sections.items ≡ l.k;
  each : (j : ℕ) (section : Section) (made : SectionCode) → slice_get l.program.sections.items j ≡ Some section →
      slice_get l.sections.items j ≡ Some made → IsLowered section (lists_at (all_lists l.placed) j) made;
}
