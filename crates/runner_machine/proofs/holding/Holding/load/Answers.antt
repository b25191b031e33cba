use Rattle.std.proofs.Common.{List, sym, ap, subst, arith}
use Rattle.runner_machine.specs.declared.held_lock.HeldLock.{HeldLock}
use Rattle.runner_machine.specs.Working.Finding.{values_in, AreInRuns, AreCounted, IsPlace, HasNoPlace}
use Rattle.runner_machine.proofs.Holds.{all_counts_agree, counted, spot_at, elsewhere_at}
use Rattle.runner_machine.proofs.Steps.{index_within, offset_within, fits_room, read_fits, none_loaded, loaded_written, loaded_first, kept_noted}
use Rattle.runner_machine.proofs.holding.Holding.load.Goals as goal

pub number-requires : goal.number-requires
number-requires c =
    let spot = spot_at c.self.inside.layout.now.cell_locks c.self.inside.grants.items c.self.inside.held.items c.args.cell c.in-Some.spot.index c.in-Some.spot.offset c.in-Some.spot.place
    c.self.invariant.3 c.self.invariant.4 c.self.invariant.0.whole
    (subst (λ (hs : List HeldLock). IsPlace c.self.inside.layout.now.cell_locks hs c.args.cell c.in-Some.spot.index c.in-Some.spot.offset c.in-Some.spot.place)
    c.deref.ensures.value c.in-Some.ensures.some) in
    fits_room c.self.inside.layout.now c.self.inside.grants.items c.self.inside.reads c.self.inside.writes c.self.inside.lock_room c.self.inside.cell_room c.self.invariant.0
    c.args.self.now c.self.view_is c.args.cell c.in-Some.spot.index c.in-Some.spot.offset c.in-Some.spot.place spot c.slots_are_cells.ensures.read
    c.self.inside.writes c.self.invariant.0.writes_room

pub note-requires-clause-more : goal.note-requires-clause-more
note-requires-clause-more c =
    let spot = spot_at c.self.inside.layout.now.cell_locks c.self.inside.grants.items c.self.inside.held.items c.args.cell c.in-Some.spot.index c.in-Some.spot.offset c.in-Some.spot.place
    c.self.invariant.3 c.self.invariant.4 c.self.invariant.0.whole
    (subst (λ (hs : List HeldLock). IsPlace c.self.inside.layout.now.cell_locks hs c.args.cell c.in-Some.spot.index c.in-Some.spot.offset c.in-Some.spot.place)
    c.deref.ensures.value c.in-Some.ensures.some) in
    read_fits c.self.inside.layout.now c.self.inside.grants.items c.self.inside.reads c.self.inside.writes c.self.inside.lock_room c.self.inside.cell_room c.self.invariant.0
    c.args.self.now c.self.view_is c.args.cell c.in-Some.spot.index c.in-Some.spot.offset c.in-Some.spot.place spot c.slots_are_cells.ensures.read
    c.read-value.result

pub invariant_of-self : goal.invariant_of-self
invariant_of-self c =
    let spot = spot_at c.self.inside.layout.now.cell_locks c.self.inside.grants.items c.self.inside.held.items c.args.cell c.in-Some.spot.index c.in-Some.spot.offset c.in-Some.spot.place
    c.self.invariant.3 c.self.invariant.4 c.self.invariant.0.whole
    (subst (λ (hs : List HeldLock). IsPlace c.self.inside.layout.now.cell_locks hs c.args.cell c.in-Some.spot.index c.in-Some.spot.offset c.in-Some.spot.place)
    c.deref.ensures.value c.in-Some.ensures.some) in (
      kept_noted c.self.inside.layout.now c.self.inside.grants.items c.self.inside.reads c.self.inside.writes c.self.inside.lock_room c.self.inside.cell_room c.self.invariant.0
          c.args.self.now c.self.view_is c.args.cell c.in-Some.spot.index c.in-Some.spot.offset c.in-Some.spot.place spot c.slots_are_cells.ensures.read
          c.read-value.result c.note.new.self c.note.ensures,
      c.self.invariant.1,
      c.self.invariant.2,
      c.self.invariant.3,
      c.self.invariant.4,
    )

pub returns-in-Some-number : goal.returns-in-Some-number
returns-in-Some-number c =
    let spot = spot_at c.self.inside.layout.now.cell_locks c.self.inside.grants.items c.self.inside.held.items c.args.cell c.in-Some.spot.index c.in-Some.spot.offset c.in-Some.spot.place
    c.self.invariant.3 c.self.invariant.4 c.self.invariant.0.whole
    (subst (λ (hs : List HeldLock). IsPlace c.self.inside.layout.now.cell_locks hs c.args.cell c.in-Some.spot.index c.in-Some.spot.offset c.in-Some.spot.place)
    c.deref.ensures.value c.in-Some.ensures.some) in
    loaded_written c.self.inside.layout.now c.self.inside.grants.items c.self.inside.reads c.self.inside.writes c.self.inside.lock_room c.self.inside.cell_room c.self.invariant.0
    c.args.self.now c.self.view_is c.args.cell c.in-Some.spot.index c.in-Some.spot.offset c.in-Some.spot.place spot c.slots_are_cells.ensures.read
    c.index.result.now c.read-value.result c.in-Some-number.field-0 c.index.ensures c.read-value.ensures (sym c.in-Some-number.ensures)

pub returns-in-None-number : goal.returns-in-None-number
returns-in-None-number c =
    let spot = spot_at c.self.inside.layout.now.cell_locks c.self.inside.grants.items c.self.inside.held.items c.args.cell c.in-Some.spot.index c.in-Some.spot.offset c.in-Some.spot.place
    c.self.invariant.3 c.self.invariant.4 c.self.invariant.0.whole
    (subst (λ (hs : List HeldLock). IsPlace c.self.inside.layout.now.cell_locks hs c.args.cell c.in-Some.spot.index c.in-Some.spot.offset c.in-Some.spot.place)
    c.deref.ensures.value c.in-Some.ensures.some) in
    loaded_first c.self.inside.layout.now c.self.inside.grants.items c.self.inside.reads c.self.inside.writes c.self.inside.lock_room c.self.inside.cell_room c.self.invariant.0
    c.args.self.now c.self.view_is c.args.cell c.in-Some.spot.index c.in-Some.spot.offset c.in-Some.spot.place spot c.slots_are_cells.ensures.read
    c.index.result.now c.read-value.result c.note.new.self c.index.ensures c.read-value.ensures (sym c.in-None-number.ensures) c.note.ensures

pub returns-in-None : goal.returns-in-None
returns-in-None c =
    let out = elsewhere_at c.self.inside.layout.now.cell_locks c.self.inside.grants.items c.self.inside.held.items c.args.cell c.self.invariant.3
    (subst (λ (hs : List HeldLock). HasNoPlace c.self.inside.layout.now.cell_locks hs c.args.cell) c.deref.ensures.value c.in-None.ensures.none) in
    none_loaded c.self.inside.layout.now c.self.inside.grants.items c.self.inside.reads c.self.inside.writes c.self.inside.lock_room c.self.inside.cell_room c.self.invariant.0
    c.args.self.now c.self.view_is c.args.cell out

pub spot_of-requires-clause-few : goal.spot_of-requires-clause-few
spot_of-requires-clause-few c =
    omega (
      arith,
      all_counts_agree c.self.inside.grants.items c.self.inside.held.items c.self.invariant.3,
      ap values_in c.deref.ensures.value,
      c.self.invariant.0.cells_fit,
      c.self.ranges,
    )

pub spot_of-requires-clause-runs : goal.spot_of-requires-clause-runs
spot_of-requires-clause-runs c = subst AreInRuns (sym c.deref.ensures.value) c.self.invariant.4

pub spot_of-requires-clause-counted : goal.spot_of-requires-clause-counted
spot_of-requires-clause-counted c =
    subst (AreCounted c.self.inside.layout.now.cell_locks) (sym c.deref.ensures.value)
    (counted c.self.inside.layout.now.cell_locks c.self.inside.grants.items c.self.inside.held.items c.self.invariant.3 c.self.invariant.0.whole)

pub index-requires : goal.index-requires
index-requires c =
    let spot = spot_at c.self.inside.layout.now.cell_locks c.self.inside.grants.items c.self.inside.held.items c.args.cell c.in-Some.spot.index c.in-Some.spot.offset c.in-Some.spot.place
    c.self.invariant.3 c.self.invariant.4 c.self.invariant.0.whole
    (subst (λ (hs : List HeldLock). IsPlace c.self.inside.layout.now.cell_locks hs c.args.cell c.in-Some.spot.index c.in-Some.spot.offset c.in-Some.spot.place)
    c.deref.ensures.value c.in-Some.ensures.some) in
    omega (
      arith,
      index_within c.self.inside.layout.now c.self.inside.grants.items c.self.inside.reads c.self.inside.writes c.self.inside.lock_room c.self.inside.cell_room c.self.invariant.0
          c.args.self.now c.self.view_is c.args.cell c.in-Some.spot.index c.in-Some.spot.offset c.in-Some.spot.place spot c.slots_are_cells.ensures.read,
      c.self.inside.grants.ok.0,
    )

pub read-value-requires : goal.read-value-requires
read-value-requires c =
    let spot = spot_at c.self.inside.layout.now.cell_locks c.self.inside.grants.items c.self.inside.held.items c.args.cell c.in-Some.spot.index c.in-Some.spot.offset c.in-Some.spot.place
    c.self.invariant.3 c.self.invariant.4 c.self.invariant.0.whole
    (subst (λ (hs : List HeldLock). IsPlace c.self.inside.layout.now.cell_locks hs c.args.cell c.in-Some.spot.index c.in-Some.spot.offset c.in-Some.spot.place)
    c.deref.ensures.value c.in-Some.ensures.some) in
    offset_within c.self.inside.layout.now c.self.inside.grants.items c.self.inside.reads c.self.inside.writes c.self.inside.lock_room c.self.inside.cell_room c.self.invariant.0
    c.args.self.now c.self.view_is c.args.cell c.in-Some.spot.index c.in-Some.spot.offset c.in-Some.spot.place spot c.slots_are_cells.ensures.read
    c.index.result.now c.index.ensures

pub note-requires-clause-place : goal.note-requires-clause-place
note-requires-clause-place c =
    let spot = spot_at c.self.inside.layout.now.cell_locks c.self.inside.grants.items c.self.inside.held.items c.args.cell c.in-Some.spot.index c.in-Some.spot.offset c.in-Some.spot.place
    c.self.invariant.3 c.self.invariant.4 c.self.invariant.0.whole
    (subst (λ (hs : List HeldLock). IsPlace c.self.inside.layout.now.cell_locks hs c.args.cell c.in-Some.spot.index c.in-Some.spot.offset c.in-Some.spot.place)
    c.deref.ensures.value c.in-Some.ensures.some) in
    fits_room c.self.inside.layout.now c.self.inside.grants.items c.self.inside.reads c.self.inside.writes c.self.inside.lock_room c.self.inside.cell_room c.self.invariant.0
    c.args.self.now c.self.view_is c.args.cell c.in-Some.spot.index c.in-Some.spot.offset c.in-Some.spot.place spot c.slots_are_cells.ensures.read
    c.self.inside.reads c.self.invariant.0.reads_room
