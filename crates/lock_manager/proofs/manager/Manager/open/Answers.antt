use Rattle.lock_manager.proofs.Rules.{sound_from, opened_from}
use Rattle.lock_manager.proofs.manager.Manager.open.Goals as goal

pub invariant_of-result : goal.invariant_of-result
invariant_of-result c =
    sound_from c.args.layout.now c.args.ranks.now c.in_ok-committed.committed c.in_ok-places.places.items c.in_ok-queue.queue c.in_ok-sections.sections c.new-3.result
    c.requires c.in_ok-committed.ensures c.in_ok-places.ensures c.in_ok-queue.ensures c.in_ok-sections.ensures c.new-3.ensures

pub returns : goal.returns
returns c =
    opened_from c.args.layout.now c.args.ranks.now c.in_ok-committed.committed c.in_ok-places.places.items c.in_ok-queue.queue c.in_ok-sections.sections c.new-3.result
    c.in_ok-committed.ensures c.in_ok-places.ensures c.in_ok-queue.ensures c.in_ok-sections.ensures c.new-3.ensures
