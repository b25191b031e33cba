use Rattle.std.proofs.Common.{length, ap, arith}
use Rattle.runner_machine.specs.Working.Held.{HoldingOf}
use Rattle.runner_machine.proofs.Granted.{length_locks}
use Rattle.runner_machine.proofs.Holds.{all_counts_agree, as_many_held, held_granted}
use Rattle.runner_machine.proofs.Steps.{kept_after, granted_after}
use Rattle.runner_machine.proofs.holding.Holding.grant.Goals as goal

pub hold-requires-clause-few : goal.hold-requires-clause-few
hold-requires-clause-few c =
    omega (
      arith,
      all_counts_agree c.self.inside.grants.items c.self.inside.held.items c.self.invariant.3,
      c.self.invariant.0.cells_fit,
      c.self.ranges,
    )

pub hold-requires-clause-room : goal.hold-requires-clause-room
hold-requires-clause-room c =
    omega (
      arith,
      as_many_held c.self.inside.grants.items c.self.inside.held.items c.self.invariant.3,
      length_locks c.self.inside.grants.items,
      ap (λ (h : HoldingOf). length h.locks) c.self.view_is,
      ap (λ (h : HoldingOf). h.lock_room) c.self.view_is,
      c.requires.lock_fits,
      c.self.invariant.2,
    )

pub invariant_of-self : goal.invariant_of-self
invariant_of-self c = (
  kept_after c.self.inside.layout.now c.self.inside.grants.items c.self.inside.reads c.self.inside.writes c.self.inside.lock_room c.self.inside.cell_room c.self.invariant.0
      c.args.self.now c.self.view_is c.args.grant c.requires c.push.new.self.items c.in-Ok.ensures.items,
  omega (arith, c.self.invariant.1, c.in-Ok.ensures.capacity),
  omega (arith, c.self.invariant.2, c.hold.ensures.capacity),
  held_granted c.self.inside.grants.items c.self.inside.held.items c.args.grant c.push.new.self.items c.hold.new.held.items c.lock.result (length c.values.result.now) c.self.invariant.3 c.in-Ok.ensures.items
      c.hold.ensures.held c.lock.ensures (ap length c.values.ensures),
  c.hold.ensures.held.runs,
)

pub returns : goal.returns
returns c =
    granted_after c.self.inside.layout.now c.self.inside.grants.items c.self.inside.reads c.self.inside.writes c.self.inside.lock_room c.self.inside.cell_room c.self.invariant.0
    c.args.self.now c.self.view_is c.args.grant c.requires c.push.new.self.items c.in-Ok.ensures.items
