use Rattle.std.proofs.Common.{◌≡◌, drop}
use Rattle.std.specs.Prelude.{map}
use Rattle.syntax.specs.Views.{member_of}
use Rattle.resolution.specs.Working.FaultLists.{lacks}
use Rattle.types_symbols.specs.Working.Views.{decls_of, members_seen}
use Rattle.types.proofs.pool.lacks.Given as goal

abbrev pub invariant-loop-place : goal.invariant-loop-place
invariant-loop-place l = record {
  same : lacks (decls_of l.symbols) l.pool l.count (members_seen l.structure) l.place (map member_of (drop l.place l.structure.members.items)) ≡ lacks (decls_of l.symbols) l.pool l.count (members_seen l.structure) 0 (members_seen l.structure);
}
