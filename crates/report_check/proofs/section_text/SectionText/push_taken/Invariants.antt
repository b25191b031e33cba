use Rattle.std.proofs.Common.{◌≡◌, ◌++◌, take}
use Rattle.rope.specs.Working.Ropes.{rope_text}
use Rattle.code.specs.Listing.{paths_text}
use Rattle.report_check.proofs.section_text.SectionText.push_taken.Given as goal

abbrev pub invariant-loop-number : goal.invariant-loop-number
invariant-loop-number l = record {
  text : rope_text l.out
      ≡ rope_text l.initial.out ++ paths_text l.self.program.now l.self.section.now (take l.number-index l.list);
  groups : l.out.groups ≡ l.initial.out.groups;
}
