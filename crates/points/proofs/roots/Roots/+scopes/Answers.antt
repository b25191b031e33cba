use Rattle.std.proofs.Common.{subst}
use Rattle.std.proofs.lemmas.List.{take_all}
use Rattle.points.specs.Working.Scoping.{AreScopes, IsAfter, of_block, behind_block}
use Rattle.points.proofs.Scopings.{scopes_none, scopes_if, scopes_if_else, scopes_while, scopes_turn, behind_turn}
use Rattle.points.proofs.roots.Roots.+scopes.Goals as goal

pub push_block-loop-statement-preserved : goal.push_block-loop-statement-preserved
push_block-loop-statement-preserved t c =
    let i = c.loop-statement.invariant in
    let r = c.args.self.now.paths.now in
    record {
      sets =
          scopes_turn r c.args.statements.now c.loop-statement.statement-index c.statement-item.result _ _ c.args.sets.now c.loop-statement.sets
          c.push.new.self c.push_inner.new.sets c.statement-item.is c.loop-statement-test.true i.behind i.sets c.in_ok-push.ensures.items c.in_ok-push_inner.ensures;
      behind =
          behind_turn r c.args.statements.now c.loop-statement.statement-index c.statement-item.result _ _ _ c.statement-item.is c.loop-statement-test.true
          i.behind c.behind-now.ensures;
    }

pub push_inner-returns-in_ok-push_block-in-If : goal.push_inner-returns-in_ok-push_block-in-If
push_inner-returns-in_ok-push_block-in-If t c =
    scopes_if c.args.self.now.paths.now _ _ _ _ _ c.args.sets.now c.push_block.new.sets c.in-If.is c.deref.ensures.value c.in_ok-push_block-in-If.ensures.sets

pub push_inner-returns-in_ok-push_block-in-IfElse-2 : goal.push_inner-returns-in_ok-push_block-in-IfElse-2
push_inner-returns-in_ok-push_block-in-IfElse-2 t c =
    scopes_if_else c.args.self.now.paths.now _ _ _ _ _ _ _ c.args.sets.now c.push_block-in-IfElse.new.sets c.push_block-in-IfElse-2.new.sets c.in-IfElse.is
    c.deref-in-IfElse.ensures.value c.deref-in-IfElse-2.ensures.value c.in_ok-push_block-in-IfElse.ensures.sets c.in_ok-push_block-in-IfElse-2.ensures.sets

pub push_inner-returns-in_ok-push_block-in-While : goal.push_inner-returns-in_ok-push_block-in-While
push_inner-returns-in_ok-push_block-in-While t c =
    scopes_while c.args.self.now.paths.now _ _ _ _ _ c.args.sets.now c.push_block-in-While.new.sets c.in-While.is c.deref-in-While.ensures.value
    c.in_ok-push_block-in-While.ensures.sets

pub push_block-returns-clause-behind : goal.push_block-returns-clause-behind
push_block-returns-clause-behind t c =
    let all = take_all c.loop-statement.statement-index c.args.statements.now c.loop-statement-test.false in
    subst (λ ss. IsAfter c.args.self.now.paths.now c.args.scope (behind_block ss) c.loop-statement.now) all c.loop-statement.invariant.behind

pub push_block-loop-statement-init : goal.push_block-loop-statement-init
push_block-loop-statement-init t c = record {
  sets = scopes_none c.args.self.now.paths.now c.args.scope c.args.sets.now;
  behind = λ locals opens. opens;
}

pub push_block-returns-clause-sets : goal.push_block-returns-clause-sets
push_block-returns-clause-sets t c =
    let all = take_all c.loop-statement.statement-index c.args.statements.now c.loop-statement-test.false in
    subst (λ ss. AreScopes c.args.self.now.paths.now c.args.scope (of_block ss) c.args.sets.now c.loop-statement.sets) all c.loop-statement.invariant.sets
