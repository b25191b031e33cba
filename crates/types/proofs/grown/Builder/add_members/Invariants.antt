use Rattle.std.proofs.Common.{◌≡◌, drop, Some}
use Rattle.std.specs.Prelude.{map}
use Rattle.syntax.specs.Views.{member_of}
use Rattle.resolution.specs.Working.Building.{members_added}
use Rattle.types_symbols.specs.Working.Views.{decls_of, members_seen}
use Rattle.types.specs.Working.StructBuilders.{builder_of}
use Rattle.types.proofs.grown.Builder.add_members.Given as goal

abbrev pub invariant-loop-m : goal.invariant-loop-m
invariant-loop-m l = record {
  value : members_added (decls_of l.self.symbols.now) l.here.number l.here.place (members_seen l.here.table.now) (Some (builder_of l.builder)) (map member_of (drop l.m-index l.members)) ≡ members_added (decls_of l.self.symbols.now) l.here.number l.here.place (members_seen l.here.table.now) (Some (builder_of l.fn.builder)) (map member_of l.members);
}
