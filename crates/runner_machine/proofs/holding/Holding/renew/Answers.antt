use Rattle.std.proofs.Common.{sym, ap, ◌∙◌, subst, arith}
use Rattle.moved_cells.specs.Working.Grants.{locks_of}
use Rattle.runner_machine.specs.Working.Finding.{AreInRuns}
use Rattle.runner_machine.specs.Working.Held.{HoldingOf}
use Rattle.runner_machine.proofs.Holds.{none_kept, still_held}
use Rattle.runner_machine.proofs.holding.Holding.renew.Goals as goal

pub invariant_of-self-in_err-renew_notes : goal.invariant_of-self-in_err-renew_notes
invariant_of-self-in_err-renew_notes c = (
  none_kept c.args.layout.now.cell_locks c.make_room.new.grants.items c.renew_notes.new.reads c.renew_notes.new.writes 0 0
      (ap locks_of c.make_room.ensures.grants ∙ ap (λ (h : HoldingOf). h.locks) c.self.view_is ∙ c.requires.none)
      c.in_err-renew_notes.ensures.err.0 c.in_err-renew_notes.ensures.err.1,
  omega arith,
  omega arith,
  still_held c.self.inside.grants.items c.make_room.new.grants.items c.self.inside.held.items c.make_room.new.held.items c.self.invariant.3
      c.make_room.ensures.grants c.make_room.ensures.held,
  subst AreInRuns (sym c.make_room.ensures.held) c.self.invariant.4,
)

pub invariant_of-self-2 : goal.invariant_of-self-2
invariant_of-self-2 c = (
  none_kept c.args.layout.now.cell_locks c.make_room.new.grants.items c.renew_notes.new.reads c.renew_notes.new.writes c.args.room.locks c.args.room.cells
      (ap locks_of c.make_room.ensures.grants ∙ ap (λ (h : HoldingOf). h.locks) c.self.view_is ∙ c.requires.none)
      c.in_ok-renew_notes.ensures.ok.0 c.in_ok-renew_notes.ensures.ok.1,
  c.in_ok-make_room.ensures.grants_room,
  c.in_ok-make_room.ensures.held_room,
  still_held c.self.inside.grants.items c.make_room.new.grants.items c.self.inside.held.items c.make_room.new.held.items c.self.invariant.3
      c.make_room.ensures.grants c.make_room.ensures.held,
  subst AreInRuns (sym c.make_room.ensures.held) c.self.invariant.4,
)
