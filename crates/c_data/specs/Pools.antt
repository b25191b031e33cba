-- The functions of a program's C text over the pools of a struct: a test of pointers, an object by its number, and an
-- object's name.
use Rattle.std.specs.Prelude.{ℕ, ◌+◌, ◌==◌, List, [], ◌∷◌, ◌++◌, codes, string_bytes}
use Rattle.std.specs.List.{flat_map}
use Rattle.std.specs.Fmt.{decimal}
use Rattle.core_lang.specs.declared.shape.Pool.{Pool}
use Rattle.core_lang.specs.declared.typed.Struct.{Struct}
use Rattle.core_lang.specs.declared.typed.Typed.{Typed}
use Rattle.c_data.specs.Joined.{joined}
use Rattle.c_statements.specs.Acquires.{numbered}
use Rattle.c_sections.specs.Instructions.{where_true}

-- the address a is one of a pool
abbrev pub within_text : Pool → List ℕ
within_text pool =
    (codes "a >= (uintptr_t)s->p_" ++ string_bytes pool.name)
    ++ joined (codes " && a < (uintptr_t)(s->p_" ∷ string_bytes pool.name ∷ codes " + " ∷ decimal pool.length
    ∷ codes ")" ∷ [])

-- the text for each pool of the struct with this number
abbrev pub of_struct : (Pool → List ℕ) → ℕ → Pool → List ℕ
of_struct text k pool = where_true (pool.structure == k) (text pool)

-- the texts for all pools of the struct with this number
abbrev pub for_pools : Typed → (Pool → List ℕ) → ℕ → List ℕ
for_pools program text k = flat_map (of_struct text k) program.shape.pools.items

-- a pointer to the state, and one to an object of a struct
abbrev pub state_pointer : List ℕ → List ℕ
state_pointer prefix = codes "struct " ++ prefix ++ codes "State *s"

-- the type of a pointer to an object of a struct
abbrev pub object_pointer : List ℕ → Struct → List ℕ
object_pointer prefix x = joined (codes "struct " ∷ prefix ∷ codes "_" ∷ string_bytes x.name ∷ codes " *" ∷ [])

-- ---- the test whether a pointer is NULL or one to an object of the struct

-- whether an address in a pool is that of a member
unfoldable pub pool_tested : Pool → List ℕ
pool_tested pool =
    codes "  if (" ++ within_text pool
    ++ (codes ") return (a - (uintptr_t)s->p_" ++ string_bytes pool.name ++ codes ") % sizeof *p == 0;\n")

-- the function that tests pointers to objects of a struct
unfoldable pub test_text : List ℕ → Typed → ℕ → Struct → List ℕ
test_text prefix program k x =
    codes "#ifdef AL_CHECK\nAL_INLINE int " ++ joined (prefix ∷ codes "Is_" ∷ string_bytes x.name ∷ codes "(" ∷ [])
    ++ state_pointer prefix ++ codes ", " ++ object_pointer prefix x
    ++ codes "p)\n{\n  uintptr_t a = (uintptr_t)p;\n  (void)s;\n  (void)a;\n  if (p == NULL) return 1;\n"
    ++ for_pools program pool_tested k ++ codes "  return 0;\n}\n#endif\n"

-- ---- the object with a number, where -1 is null

-- the object, where its number is that of a pool's member
unfoldable pub pool_numbered : Pool → List ℕ
pool_numbered pool =
    joined (codes "  if (o >= " ∷ decimal pool.first ∷ codes " && o < " ∷ decimal (pool.first + pool.length)
    ∷ codes ") return &s->p_" ∷ [])
    ++ joined (string_bytes pool.name ∷ codes "[o - " ∷ decimal pool.first ∷ codes "];\n" ∷ [])

-- the function that returns the object with a number
unfoldable pub number_text : List ℕ → Typed → ℕ → Struct → List ℕ
number_text prefix program k x =
    codes "AL_INLINE " ++ object_pointer prefix x ++ joined (prefix ∷ codes "At_" ∷ string_bytes x.name ∷ codes "("
    ∷ [])
    ++ state_pointer prefix ++ codes ", int64_t o)\n{\n" ++ for_pools program pool_numbered k
    ++ codes "  (void)s;\n  (void)o;\n  return NULL;\n}\n"

-- ---- an object's name, like p[0]; or null

-- the name of an object, where its address is one of a pool
unfoldable pub pool_written : Pool → List ℕ
pool_written pool =
    codes "  if (" ++ within_text pool ++ (codes ") {\n    fprintf(f, \"" ++ string_bytes pool.name
    ++ codes "[%\" PRId64 \"]\"")
    ++ (codes ", (int64_t)(p - s->p_" ++ string_bytes pool.name ++ codes "));\n    return;\n  }\n")

-- the function that writes the name of an object
unfoldable pub write_text : List ℕ → Typed → ℕ → Struct → List ℕ
write_text prefix program k x =
    joined (codes "AL_INLINE void " ∷ prefix ∷ codes "Write_" ∷ string_bytes x.name ∷ codes "(FILE *f, " ∷ [])
    ++ state_pointer prefix ++ codes ", " ++ object_pointer prefix x ++ codes "p)\n{\n  uintptr_t a = (uintptr_t)p;\n"
    ++ for_pools program pool_written k
    ++ codes "  (void)s;\n  (void)a;\n  fputs(\"null\", f);\n}\n"

-- both functions, for the program that runs the threads
unfoldable pub object_text : List ℕ → Typed → ℕ → Struct → List ℕ
object_text prefix program k x = number_text prefix program k x ++ write_text prefix program k x

-- ---- all structs

-- the functions that test pointers
unfoldable pub tests_text : List ℕ → Typed → List ℕ
tests_text prefix program = numbered (test_text prefix program) 0 program.structs.items

-- the functions that return and write objects
unfoldable pub objects_text : List ℕ → Typed → List ℕ
objects_text prefix program = numbered (object_text prefix program) 0 program.structs.items
