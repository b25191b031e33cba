use Rattle.std.proofs.Common.{◌≡◌, drop}
use Rattle.std.specs.Prelude.{map}
use Rattle.syntax.specs.Views.{member_of}
use Rattle.resolution.specs.Working.Findings.{found_in}
use Rattle.resolution.specs.Working.FaultLists.{members_faults}
use Rattle.types_symbols.specs.Working.Views.{decls_of, members_seen}
use Rattle.types.proofs.grown.Builder.report_members.Given as goal

abbrev pub invariant-loop-m : goal.invariant-loop-m
invariant-loop-m l = record {
  faults : found_in l.firsts (members_faults (decls_of l.self.symbols.now) l.place (members_seen l.table) (map member_of (drop l.m-index l.members))) ≡ found_in l.fn.firsts (members_faults (decls_of l.self.symbols.now) l.place (members_seen l.table) (map member_of l.members));
}
