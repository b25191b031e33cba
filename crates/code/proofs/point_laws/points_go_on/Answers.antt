use Rattle.std.specs.Prelude.{slice_get}
use Rattle.code.specs.Memory.{load_from, store_to, load_held, store_held}
use Rattle.code.specs.Working.Seen.{held_value}
use Rattle.code.proofs.points.Memories.{heap_is_memory, held_is_memory}
use Rattle.code.proofs.points.Exact.{points_go_on}
use Rattle.code.proofs.point_laws.points_go_on.Goals as goal

pub returns-clause-heap : goal.returns-clause-heap
returns-clause-heap g c = points_go_on load_from store_to slice_get heap_is_memory

pub returns-clause-held : goal.returns-clause-held
returns-clause-held g c = points_go_on load_held store_held held_value held_is_memory
