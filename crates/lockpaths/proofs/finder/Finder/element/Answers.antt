use Rattle.std.proofs.Common.{◌≡◌, ◌∙◌, Option, refl, ap}
use Rattle.std.specs.Prelude.{slice_get}
use Rattle.std.specs.Option.{option_map}
use Rattle.std.proofs.lemmas.Result.{on_ok_weaker}
use Rattle.locks.specs.LockPaths.{LockPath, global_path}
use Rattle.lockpaths.specs.Working.Told.{met_told}
use Rattle.lockpaths.proofs.Reading.{item_here, item_past, of_array, element_here, element_past}
use Rattle.lockpaths.proofs.finder.Finder.element.Goals as goal
use Rattle.lockpaths.specs.Working.Told.{seen}
use Rattle.lockpaths.proofs.finder.Finder.element.Goals.{in-Some, in-None}

pub returns : goal.returns
returns c =
    let program = c.args.self.now.program.now in
    let arrays = program.shape.arrays.items in
    let path = c.match-get.class in
    let same : option_map global_path path ≡ of_array (slice_get arrays c.args.array) = elim c.match-get.branch [
      | in-Some w ↦ element_here program path c.args.array w.in-Some.array.now w.in-Some.array.now.class
          (item_here arrays c.deref.result.now c.args.array c.deref.ensures.value w.in-Some.array w.in-Some.ensures.lookup) w.class-is refl
      | in-None w ↦ element_past program path c.args.array (item_past arrays c.deref.result.now c.args.array c.deref.ensures.value w.in-None.ensures.lookup) w.class-is
    ] in
    on_ok_weaker c.meet_global.result (λ e. e ∙ ap (λ (o : Option LockPath). met_told (seen c.args.found.now) c.args.start o) same) c.meet_global.ensures
