use Rattle.std.proofs.Common.{take}
use Rattle.points.specs.Working.Scoping.{AreScopes, IsAfter, of_block, behind_block}
use Rattle.points.proofs.roots.Roots.+scopes.Given as goal

abbrev pub invariant-push_block-loop-statement : goal.invariant-push_block-loop-statement
invariant-push_block-loop-statement l = record {
  sets : AreScopes l.self.paths.now l.initial.now (of_block (take l.statement-index l.statements)) l.initial.sets l.sets;
  behind : IsAfter l.self.paths.now l.initial.now (behind_block (take l.statement-index l.statements)) l.now;
}
