use Rattle.std.proofs.Common.{rules, arith}
use Rattle.runner_machine.proofs.Holds.{none_held, no_runs}
use Rattle.runner_machine.proofs.Steps.{kept_over, left_over, few_reads, few_writes}
use Rattle.runner_machine.proofs.holding.Holding.finish.Goals as goal

pub invariant_of-self : goal.invariant_of-self
invariant_of-self c = (
  kept_over c.self.inside.layout.now c.self.inside.grants.items c.self.inside.reads c.self.inside.writes c.self.inside.lock_room c.self.inside.cell_room c.self.invariant.0
      c.args.self.now c.self.view_is c.swap.new.x.items (search rules)
      c.finish.new.self c.finish-2.new.self c.finish.ensures.list c.finish.ensures.room c.finish-2.ensures.list c.finish-2.ensures.room,
  omega arith,
  omega arith,
  none_held c.swap.new.x.items c.clear.new.self.items (search rules) (search rules),
  no_runs c.clear.new.self.items (search rules),
)

pub returns-clause-left : goal.returns-clause-left
returns-clause-left c =
    left_over c.self.inside.layout.now c.self.inside.grants.items c.self.inside.reads c.self.inside.writes c.self.inside.lock_room c.self.inside.cell_room c.self.invariant.0
    c.args.self.now c.self.view_is c.swap.new.x.items (search rules)
    c.finish.new.self c.finish-2.new.self c.finish.ensures.list c.finish.ensures.room c.finish-2.ensures.list c.finish-2.ensures.room

pub returns-clause-reads : goal.returns-clause-reads
returns-clause-reads c =
    few_reads c.self.inside.layout.now c.self.inside.grants.items c.self.inside.reads c.self.inside.writes c.self.inside.lock_room c.self.inside.cell_room c.self.invariant.0
    c.args.self.now c.self.view_is c.swap.new.x.items (search rules)
    c.finish.new.self c.finish-2.new.self c.finish.ensures.list c.finish.ensures.room c.finish-2.ensures.list c.finish-2.ensures.room

pub returns-clause-writes : goal.returns-clause-writes
returns-clause-writes c =
    few_writes c.self.inside.layout.now c.self.inside.grants.items c.self.inside.reads c.self.inside.writes c.self.inside.lock_room c.self.inside.cell_room c.self.invariant.0
    c.args.self.now c.self.view_is c.swap.new.x.items (search rules)
    c.finish.new.self c.finish-2.new.self c.finish.ensures.list c.finish.ensures.room c.finish-2.ensures.list c.finish-2.ensures.room
