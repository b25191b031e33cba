use Rattle.std.proofs.Common.{◌≡◌, length}
use Rattle.report_check.proofs.Listed.{AreListed}
use Rattle.report_check.proofs.section_points.points_of_sections.Given as goal

abbrev pub invariant-loop-section : goal.invariant-loop-section
invariant-loop-section l = record {
  long : length l.each.items ≡ l.section;
  listed : AreListed l.program l.each.items;
}
