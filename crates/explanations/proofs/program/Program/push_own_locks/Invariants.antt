use Rattle.std.proofs.Common.{◌≡◌, ◌≤◌, ◌++◌, drop, map}
use Rattle.syntax.specs.Views.{member_of}
use Rattle.explanations.specs.Warnings.{own_locks}
use Rattle.explanations.specs.Working.Found.{warned}
use Rattle.explanations.specs.Working.Judged.{decls_in, warnings_seen}
use Rattle.explanations.proofs.program.Program.push_own_locks.Given as goal

abbrev pub invariant-loop-member : goal.invariant-loop-member
invariant-loop-member l = record {
  few : l.number ≤ l.member-index;
  told : warnings_seen l.warnings.items ++ warned (decls_in l.self) (own_locks (decls_in l.self) l.place l.number (map member_of (drop l.member-index l.members)))
      ≡ warnings_seen l.initial.warnings.items ++ warned (decls_in l.self) (own_locks (decls_in l.self) l.place 0 (map member_of l.members));
}
