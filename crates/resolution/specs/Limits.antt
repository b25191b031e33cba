-- The limits of parameters, locals, objects, cells and final references.
use Rattle.std.specs.Prelude.{ℕ, nat_le, if◌then◌else◌, Option, Some, None}
use Rattle.resolution.specs.declared.body_limits.BodyLimits.{BodyLimits}
pub use Rattle.source.specs.Limits.{STRUCT_LIMIT, MEMBER_LIMIT, FINAL_LIMIT, CLASS_LIMIT, OBJECT_LIMIT, CELL_LIMIT, SECTION_LIMIT, THREAD_LIMIT}
pub use Rattle.source.specs.Limits.{PARAMETER_LIMIT, LOCAL_LIMIT, CALL_LIMIT, SOURCE_LIMIT}

-- the limits of a section
abbrev pub section_limits : BodyLimits
section_limits = record { parameters = PARAMETER_LIMIT; locals = LOCAL_LIMIT }

-- the limits of a helper: no source is long enough to exceed them
abbrev pub helper_limits : BodyLimits
helper_limits = record { parameters = SOURCE_LIMIT; locals = SOURCE_LIMIT }

-- ---- numbers up to a limit

-- a number, if it is at most the limit
abbrev pub up_to : ℕ → ℕ → Option ℕ
up_to limit n = if nat_le n limit then Some n else None

-- the start of objects, up to the end of the last one, if it is at most the limit
abbrev pub object_at : ℕ → Option ℕ
object_at n = up_to OBJECT_LIMIT n

-- the start of cells, if it is at most the limit
abbrev pub cell_at : ℕ → Option ℕ
cell_at n = up_to CELL_LIMIT n

-- the start of final references, if it is at most 2,097,152: 65,536 objects with at most 32 each
abbrev pub final_at : ℕ → Option ℕ
final_at n = up_to 2097152 n
