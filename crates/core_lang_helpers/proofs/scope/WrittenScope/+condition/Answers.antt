use Rattle.core_lang.specs.Expansion.{RenamesTest}
use Rattle.core_lang_helpers.specs.Working.Scopes.{pairs_of}
use Rattle.core_lang_helpers.proofs.Pairs.{zip_one_more}
use Rattle.core_lang_helpers.proofs.Rows.{and_renamed, or_renamed}
use Rattle.core_lang_helpers.proofs.scope.WrittenScope.+condition.Goals as goal

pub condition-returns-in_ok-last-in-And : goal.condition-returns-in_ok-last-in-And
condition-returns-in_ok-last-in-And t c =
    and_renamed (pairs_of c.args.self.now) c.args.condition.now c.in-And.before c.in_ok-before-in-And.before c.in-And.last c.in_ok-last-in-And.last
    c.deref-in-And.result.now c.deref-in-And-2.result.now c.in-And.is c.deref-in-And.ensures.value c.deref-in-And-2.ensures c.in_ok-before-in-And.ensures c.in_ok-last-in-And.ensures

pub condition-returns-in_ok-last-in-Or : goal.condition-returns-in_ok-last-in-Or
condition-returns-in_ok-last-in-Or t c =
    or_renamed (pairs_of c.args.self.now) c.args.condition.now c.in-Or.before c.in_ok-before-in-Or.before c.in-Or.last c.in_ok-last-in-Or.last
    c.deref-in-Or.result.now c.deref-in-Or-2.result.now c.in-Or.is c.deref-in-Or.ensures.value c.deref-in-Or-2.ensures c.in_ok-before-in-Or.ensures c.in_ok-last-in-Or.ensures

pub conditions-loop-condition-preserved : goal.conditions-loop-condition-preserved
conditions-loop-condition-preserved t c =
    zip_one_more (RenamesTest (pairs_of c.args.self.now)) c.args.conditions.now c.loop-condition.condition-index c.condition-item.result _ c.loop-condition.made.items
    c.push.new.self.items c.loop-condition-test.true c.condition-item.is c.in_ok-push.ensures.items c.loop-condition.invariant c.in_ok-condition.ensures
