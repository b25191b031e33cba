use Rattle.std.proofs.Common.{sym, ◌∙◌}
use Rattle.locks.specs.declared.lock.Lock.{Lock}
use Rattle.locks.specs.Order.{Precedes}
use Rattle.std.proofs.lemmas.List.Elements.{All-more}
use Rattle.lock_manager.proofs.Lists.{all_fails, all_whole, never_both}
use Rattle.lock_manager.proofs.asking.comes_after.Goals as goal
use Rattle.core_lang.specs.Theory.Items.{all_contained, all_from}

pub returns-then-not-precedes : goal.returns-then-not-precedes
returns-then-not-precedes c =
    let before = λ (other : Lock). Precedes c.args.ranks.now other c.args.lock in
    let told = all_fails before c.args.held.now c.loop-other.other-index _ c.loop-other-test.true
    (λ p. never_both (c.precedes.ensures ∙ p) c.if-not-precedes.true) in
    (λ t other held. all_contained before c.args.held.now other (told.0 t) held, λ after. told.1 (all_from before c.args.held.now after))

pub loop-other-preserved : goal.loop-other-preserved
loop-other-preserved c =
    All-more (λ (other : Lock). Precedes c.args.ranks.now other c.args.lock) c.args.held.now c.loop-other.other-index _ c.loop-other-test.true c.loop-other.invariant
    (sym c.precedes.ensures ∙ c.if-not-precedes.false)

pub returns : goal.returns
returns c =
    let before = λ (other : Lock). Precedes c.args.ranks.now other c.args.lock in
    let told = all_whole before c.args.held.now c.loop-other.other-index c.loop-other.invariant c.loop-other-test.false in
    (λ t other held. all_contained before c.args.held.now other (told.0 t) held, λ after. told.1 (all_from before c.args.held.now after))
