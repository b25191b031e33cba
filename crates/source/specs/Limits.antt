-- The limits of source texts, programs and runs. The code has the same numbers in its module `limits`.
use Rattle.std.specs.Prelude.{ℕ}

-- the largest number that a text may write
abbrev pub NUMBER_LIMIT : ℕ
NUMBER_LIMIT = 9223372036854775807

-- the most bytes of a source
abbrev pub SOURCE_LIMIT : ℕ
SOURCE_LIMIT = 1048576

-- the most bytes of a line of a steps file or of a history
abbrev pub LINE_LIMIT : ℕ
LINE_LIMIT = 1024

-- the most bytes of a name
abbrev pub NAME_LIMIT : ℕ
NAME_LIMIT = 64

-- the most opening signs that are open at once
abbrev pub NESTING_LIMIT : ℕ
NESTING_LIMIT = 64

-- the most structs
abbrev pub STRUCT_LIMIT : ℕ
STRUCT_LIMIT = 64

-- the most members of a struct
abbrev pub MEMBER_LIMIT : ℕ
MEMBER_LIMIT = 32

-- the most final references of an annotation
abbrev pub FINAL_LIMIT : ℕ
FINAL_LIMIT = 3

-- the most lock classes
abbrev pub CLASS_LIMIT : ℕ
CLASS_LIMIT = 128

-- the most objects, the members of all pools together
abbrev pub OBJECT_LIMIT : ℕ
OBJECT_LIMIT = 65536

-- the most cells
abbrev pub CELL_LIMIT : ℕ
CELL_LIMIT = 262144

-- the most sections and helpers together
abbrev pub SECTION_LIMIT : ℕ
SECTION_LIMIT = 256

-- the most threads
abbrev pub THREAD_LIMIT : ℕ
THREAD_LIMIT = 64

-- the most calls of all threads together
abbrev pub CALL_LIMIT : ℕ
CALL_LIMIT = 100000

-- the most parameters of a section
abbrev pub PARAMETER_LIMIT : ℕ
PARAMETER_LIMIT = 8

-- the most locals of a section, parameters included, with and without those of its calls
abbrev pub LOCAL_LIMIT : ℕ
LOCAL_LIMIT = 64

-- the most points that calls bring to a section
abbrev pub POINT_LIMIT : ℕ
POINT_LIMIT = 65536

-- the greatest depth of the calls of a section
abbrev pub DEPTH_LIMIT : ℕ
DEPTH_LIMIT = 8

-- the most lock paths of a section
abbrev pub PATH_LIMIT : ℕ
PATH_LIMIT = 64

-- the most numbers that one run of a section prints
abbrev pub PRINT_LIMIT : ℕ
PRINT_LIMIT = 256

-- the most steps of a steps file
abbrev pub STEP_LIMIT : ℕ
STEP_LIMIT = 10000000
