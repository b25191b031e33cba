use Rattle.std.proofs.Common.{◌≡◌, ◌∙◌, Option, refl, ap}
use Rattle.std.specs.Prelude.{slice_get}
use Rattle.std.specs.Option.{option_map}
use Rattle.std.proofs.lemmas.Result.{on_ok_weaker}
use Rattle.locks.specs.LockPaths.{LockPath, global_path}
use Rattle.lockpaths.specs.Working.Told.{met_told}
use Rattle.lockpaths.proofs.Reading.{item_here, item_past, of_cell, cell_past, global_here, global_past, no_global}
use Rattle.lockpaths.proofs.Reading.{not_global}
use Rattle.lockpaths.proofs.finder.Finder.global.Goals as goal
use Rattle.lockpaths.specs.Working.Told.{seen}
use Rattle.lockpaths.proofs.finder.Finder.global.Goals.{in-Some+in-Global+in-Some-get, in-Some+in-Global+in-None-get}
use Rattle.lockpaths.proofs.finder.Finder.global.Goals.{in-Some+in-Element, in-None}

pub returns : goal.returns
returns c =
    let program = c.args.self.now.program.now in
    let cells = program.cells.items in
    let path = c.match-get.class in
    let same : option_map global_path path ≡ of_cell program (slice_get cells c.args.cell) = elim c.match-get.branch [
      | in-Some+in-Global+in-Some-get w ↦ global_here program path c.args.cell w.in-Some.cell.now w.in-Global.number w.in-Some-get.global.now w.in-Some-get.global.now.class
          (item_here cells c.deref.result.now c.args.cell c.deref.ensures.value w.in-Some.cell w.in-Some.ensures.lookup) w.in-Global.is
          (item_here program.globals.items w.deref-in-Global.result.now w.in-Global.number w.deref-in-Global.ensures.value w.in-Some-get.global w.in-Some-get.ensures.lookup)
          w.class-is refl
      | in-Some+in-Global+in-None-get w ↦ global_past program path c.args.cell w.in-Some.cell.now w.in-Global.number
          (item_here cells c.deref.result.now c.args.cell c.deref.ensures.value w.in-Some.cell w.in-Some.ensures.lookup) w.in-Global.is
          (item_past program.globals.items w.deref-in-Global.result.now w.in-Global.number w.deref-in-Global.ensures.value w.in-None-get.ensures.lookup) w.class-is
      | in-Some+in-Element w ↦ no_global program path c.args.cell w.in-Some.cell.now w.in-Some.cell.now.owner
          (item_here cells c.deref.result.now c.args.cell c.deref.ensures.value w.in-Some.cell w.in-Some.ensures.lookup) refl
          (not_global program w.in-Some.cell.now.owner w.in-Element.is) w.class-is
      | in-None w ↦ cell_past program path c.args.cell (item_past cells c.deref.result.now c.args.cell c.deref.ensures.value w.in-None.ensures.lookup) w.class-is
    ] in
    on_ok_weaker c.meet_global.result (λ e. e ∙ ap (λ (o : Option LockPath). met_told (seen c.args.found.now) c.args.start o) same) c.meet_global.ensures
