use Rattle.std.proofs.Common.{List, sym, ap, subst, arith}
use Rattle.runner_machine.specs.declared.held_lock.HeldLock.{HeldLock}
use Rattle.runner_machine.specs.Working.Finding.{values_in, AreInRuns, AreCounted, IsPlace, HasNoPlace}
use Rattle.runner_machine.proofs.Holds.{all_counts_agree, counted, spot_at, elsewhere_at}
use Rattle.runner_machine.proofs.Steps.{index_within, offset_within, fits_room, write_fits, none_stored, kept_stored, held_stored, stored}
use Rattle.runner_machine.proofs.holding.Holding.store.Goals as goal

pub note-requires-clause-more : goal.note-requires-clause-more
note-requires-clause-more c =
    let spot = spot_at c.self.inside.layout.now.cell_locks c.self.inside.grants.items c.self.inside.held.items c.args.cell c.in-Some.spot.index c.in-Some.spot.offset c.in-Some.spot.place
    c.self.invariant.3 c.self.invariant.4 c.self.invariant.0.whole
    (subst (λ (hs : List HeldLock). IsPlace c.self.inside.layout.now.cell_locks hs c.args.cell c.in-Some.spot.index c.in-Some.spot.offset c.in-Some.spot.place)
    c.deref.ensures.value c.in-Some.ensures.some) in
    write_fits c.self.inside.layout.now c.self.inside.grants.items c.self.inside.reads c.self.inside.writes c.self.inside.lock_room c.self.inside.cell_room c.self.invariant.0
    c.args.self.now c.self.view_is c.args.cell c.in-Some.spot.index c.in-Some.spot.offset c.in-Some.spot.place spot c.slots_are_cells.ensures.read
    c.args.value

pub invariant_of-self : goal.invariant_of-self
invariant_of-self c =
    let spot = spot_at c.self.inside.layout.now.cell_locks c.self.inside.grants.items c.self.inside.held.items c.args.cell c.in-Some.spot.index c.in-Some.spot.offset c.in-Some.spot.place
    c.self.invariant.3 c.self.invariant.4 c.self.invariant.0.whole
    (subst (λ (hs : List HeldLock). IsPlace c.self.inside.layout.now.cell_locks hs c.args.cell c.in-Some.spot.index c.in-Some.spot.offset c.in-Some.spot.place)
    c.deref.ensures.value c.in-Some.ensures.some) in (
      kept_stored c.self.inside.layout.now c.self.inside.grants.items c.self.inside.reads c.self.inside.writes c.self.inside.lock_room c.self.inside.cell_room c.self.invariant.0
          c.args.self.now c.self.view_is c.args.cell c.in-Some.spot.index c.in-Some.spot.offset c.in-Some.spot.place spot c.slots_are_cells.ensures.read
          c.index_mut.result.now c.write.new.self c.args.value c.note.new.self c.index_mut.ensures.value c.write.ensures c.note.ensures,
      c.self.invariant.1,
      c.self.invariant.2,
      held_stored c.self.inside.layout.now c.self.inside.grants.items c.self.inside.reads c.self.inside.writes c.self.inside.lock_room c.self.inside.cell_room c.self.invariant.0
          c.args.self.now c.self.view_is c.args.cell c.in-Some.spot.index c.in-Some.spot.offset c.in-Some.spot.place spot c.slots_are_cells.ensures.read
          c.index_mut.result.now c.write.new.self c.args.value c.note.new.self c.index_mut.ensures.value c.write.ensures c.note.ensures
          c.self.inside.held.items c.self.invariant.3,
      c.self.invariant.4,
    )

pub returns-in-Some : goal.returns-in-Some
returns-in-Some c =
    let spot = spot_at c.self.inside.layout.now.cell_locks c.self.inside.grants.items c.self.inside.held.items c.args.cell c.in-Some.spot.index c.in-Some.spot.offset c.in-Some.spot.place
    c.self.invariant.3 c.self.invariant.4 c.self.invariant.0.whole
    (subst (λ (hs : List HeldLock). IsPlace c.self.inside.layout.now.cell_locks hs c.args.cell c.in-Some.spot.index c.in-Some.spot.offset c.in-Some.spot.place)
    c.deref.ensures.value c.in-Some.ensures.some) in
    stored c.self.inside.layout.now c.self.inside.grants.items c.self.inside.reads c.self.inside.writes c.self.inside.lock_room c.self.inside.cell_room c.self.invariant.0
    c.args.self.now c.self.view_is c.args.cell c.in-Some.spot.index c.in-Some.spot.offset c.in-Some.spot.place spot c.slots_are_cells.ensures.read
    c.index_mut.result.now c.write.new.self c.args.value c.note.new.self c.index_mut.ensures.value c.write.ensures c.note.ensures
    c.slots_are_cells.ensures.write

pub returns-in-None : goal.returns-in-None
returns-in-None c =
    let out = elsewhere_at c.self.inside.layout.now.cell_locks c.self.inside.grants.items c.self.inside.held.items c.args.cell c.self.invariant.3
    (subst (λ (hs : List HeldLock). HasNoPlace c.self.inside.layout.now.cell_locks hs c.args.cell) c.deref.ensures.value c.in-None.ensures.none) in
    none_stored c.self.inside.layout.now c.self.inside.grants.items c.self.inside.reads c.self.inside.writes c.self.inside.lock_room c.self.inside.cell_room c.self.invariant.0
    c.args.self.now c.self.view_is c.args.cell out c.args.value

pub spot_of-requires-clause-few : goal.spot_of-requires-clause-few
spot_of-requires-clause-few c =
    omega (
      arith,
      all_counts_agree c.self.inside.grants.items c.self.inside.held.items c.self.invariant.3,
      ap values_in c.deref.ensures.value,
      c.self.invariant.0.cells_fit,
      c.self.ranges,
    )

pub spot_of-requires-clause-runs : goal.spot_of-requires-clause-runs
spot_of-requires-clause-runs c = subst AreInRuns (sym c.deref.ensures.value) c.self.invariant.4

pub spot_of-requires-clause-counted : goal.spot_of-requires-clause-counted
spot_of-requires-clause-counted c =
    subst (AreCounted c.self.inside.layout.now.cell_locks) (sym c.deref.ensures.value)
    (counted c.self.inside.layout.now.cell_locks c.self.inside.grants.items c.self.inside.held.items c.self.invariant.3 c.self.invariant.0.whole)

pub index_mut-requires : goal.index_mut-requires
index_mut-requires c =
    let spot = spot_at c.self.inside.layout.now.cell_locks c.self.inside.grants.items c.self.inside.held.items c.args.cell c.in-Some.spot.index c.in-Some.spot.offset c.in-Some.spot.place
    c.self.invariant.3 c.self.invariant.4 c.self.invariant.0.whole
    (subst (λ (hs : List HeldLock). IsPlace c.self.inside.layout.now.cell_locks hs c.args.cell c.in-Some.spot.index c.in-Some.spot.offset c.in-Some.spot.place)
    c.deref.ensures.value c.in-Some.ensures.some) in
    omega (
      arith,
      index_within c.self.inside.layout.now c.self.inside.grants.items c.self.inside.reads c.self.inside.writes c.self.inside.lock_room c.self.inside.cell_room c.self.invariant.0
          c.args.self.now c.self.view_is c.args.cell c.in-Some.spot.index c.in-Some.spot.offset c.in-Some.spot.place spot c.slots_are_cells.ensures.read,
      c.self.inside.grants.ok.0,
    )

pub write-requires : goal.write-requires
write-requires c =
    let spot = spot_at c.self.inside.layout.now.cell_locks c.self.inside.grants.items c.self.inside.held.items c.args.cell c.in-Some.spot.index c.in-Some.spot.offset c.in-Some.spot.place
    c.self.invariant.3 c.self.invariant.4 c.self.invariant.0.whole
    (subst (λ (hs : List HeldLock). IsPlace c.self.inside.layout.now.cell_locks hs c.args.cell c.in-Some.spot.index c.in-Some.spot.offset c.in-Some.spot.place)
    c.deref.ensures.value c.in-Some.ensures.some) in
    offset_within c.self.inside.layout.now c.self.inside.grants.items c.self.inside.reads c.self.inside.writes c.self.inside.lock_room c.self.inside.cell_room c.self.invariant.0
    c.args.self.now c.self.view_is c.args.cell c.in-Some.spot.index c.in-Some.spot.offset c.in-Some.spot.place spot c.slots_are_cells.ensures.read
    c.index_mut.result.now c.index_mut.ensures.value

pub note-requires-clause-place : goal.note-requires-clause-place
note-requires-clause-place c =
    let spot = spot_at c.self.inside.layout.now.cell_locks c.self.inside.grants.items c.self.inside.held.items c.args.cell c.in-Some.spot.index c.in-Some.spot.offset c.in-Some.spot.place
    c.self.invariant.3 c.self.invariant.4 c.self.invariant.0.whole
    (subst (λ (hs : List HeldLock). IsPlace c.self.inside.layout.now.cell_locks hs c.args.cell c.in-Some.spot.index c.in-Some.spot.offset c.in-Some.spot.place)
    c.deref.ensures.value c.in-Some.ensures.some) in
    fits_room c.self.inside.layout.now c.self.inside.grants.items c.self.inside.reads c.self.inside.writes c.self.inside.lock_room c.self.inside.cell_room c.self.invariant.0
    c.args.self.now c.self.view_is c.args.cell c.in-Some.spot.index c.in-Some.spot.offset c.in-Some.spot.place spot c.slots_are_cells.ensures.read
    c.self.inside.writes c.self.invariant.0.writes_room
