use Rattle.code.proofs.points.Memories.{heap_is_memory, held_is_memory}
use Rattle.code.proofs.point_laws.memories_are_seen.Goals as goal

pub returns-clause-heap : goal.returns-clause-heap
returns-clause-heap c = heap_is_memory

pub returns-clause-held : goal.returns-clause-held
returns-clause-held c = held_is_memory
