use Rattle.std.proofs.Common.{◌≡◌, map, drop}
use Rattle.lockpaths.specs.Working.Gathering.{place_from}
use Rattle.lockpaths.specs.Working.Places.{path_at}
use Rattle.lockpaths.proofs.found.PathCollector.number_of.Given as goal

abbrev pub invariant-loop-k : goal.invariant-loop-k
invariant-loop-k l =
    let at = path_at l.self-inside.forms.paths in
    place_from (at l.place) l.k (map at (drop l.k l.self-inside.places.items)) ≡ place_from (at l.place) 0 (map at l.self-inside.places.items)
