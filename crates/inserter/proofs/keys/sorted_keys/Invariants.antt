use Rattle.std.proofs.Common.{◌≡◌, map}
use Rattle.std.specs.Prelude.{slice_index}
use Rattle.inserter.specs.Working.Keys.{first_keys}
use Rattle.inserter.proofs.keys.sorted_keys.Given as goal

abbrev pub invariant-loop-path : goal.invariant-loop-path
invariant-loop-path l = l.keys.items ≡ first_keys (map (slice_index l.ranks) l.classes) l.path
