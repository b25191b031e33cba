-- The limit that the code finds, of those that are passed: the first, in the order of its tests. Nobody has to believe
-- this file.
use Rattle.std.specs.List.{filter_map, flat_map}
use Rattle.std.specs.Option.{option_or}
use Rattle.std.specs.Prelude.{ℕ, ◌==◌, ◌||◌, Bool, false, if◌then◌else◌, List, [], ◌∷◌, drop, map, Option, Some, None}
use Rattle.std.specs.Prelude.{codes}
use Rattle.resolution.specs.Limits.{STRUCT_LIMIT, MEMBER_LIMIT, CLASS_LIMIT, SECTION_LIMIT, THREAD_LIMIT}
use Rattle.resolution.specs.Limits.{PARAMETER_LIMIT, LOCAL_LIMIT}
use Rattle.resolution.specs.Scopes.{member_name}
use Rattle.syntax.specs.Trees.{Ident, Decl, struct, atomic}
use Rattle.explanation_names.specs.FirstBy.{first_by}
use Rattle.explanation_faults.specs.LimitsPassed.{struct_name, body_name, thread_name, lock_names, parameter_names}
use Rattle.explanation_names.specs.NameSpaces.{local_names}

abbrev pub some_starts : ℕ → List Ident → Bool
some_starts at [] = false
some_starts at (x ∷ xs) = (x.span.start == at) || some_starts at xs

-- one of the names after the first `limit` ones starts at the byte `at`
abbrev pub is_past : ℕ → ℕ → List Ident → Bool
is_past at limit names = some_starts at (drop limit names)

-- the words, if the test succeeds
abbrev pub said_if : Bool → List ℕ → Option (List ℕ)
said_if b words = if b then Some words else None

-- the limit of the program that is exceeded at the byte
abbrev pub limit_of_all : ℕ → List Decl → Option (List ℕ)
limit_of_all at decls =
    option_or (said_if (is_past at STRUCT_LIMIT (filter_map struct_name decls)) (codes "a program has at most 64 structs"))
    (option_or (said_if (is_past at SECTION_LIMIT (filter_map body_name decls)) (codes "a program has at most 256 sections and helpers"))
    (option_or (said_if (is_past at THREAD_LIMIT (filter_map thread_name decls)) (codes "a program has at most 64 threads"))
    (said_if (is_past at CLASS_LIMIT (flat_map lock_names decls)) (codes "a program has at most 128 lock classes"))))

-- the limit of names inside a declaration that is exceeded at the byte
abbrev pub limit_in : ℕ → Decl → Option (List ℕ)
limit_in at (struct s) = said_if (is_past at MEMBER_LIMIT (map member_name s.members)) (codes "a struct has at most 32 members")
limit_in at (atomic s) =
    option_or (said_if (is_past at PARAMETER_LIMIT (parameter_names s.params)) (codes "a section has at most 8 parameters"))
    (said_if (is_past at LOCAL_LIMIT (local_names s)) (codes "a section has at most 64 locals, parameters included"))
limit_in at _ = None

-- the limit by which a name that starts there is too many
abbrev pub limit_passed : List Decl → ℕ → Option (List ℕ)
limit_passed decls at = option_or (limit_of_all at decls) (first_by (limit_in at) decls)
