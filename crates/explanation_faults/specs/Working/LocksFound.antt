-- The lock that the code finds for what has none. Nobody has to believe this file.
use Rattle.std.specs.Prelude.{ℕ, ◌==◌, ◌||◌, Bool, false, if◌then◌else◌, List, [], ◌∷◌, Option, Some, None}
use Rattle.std.specs.Option.{option_or}
use Rattle.syntax.specs.Trees.{Ident, Protection, Member, field_member, Decl, lock, struct, global, array}
use Rattle.explanation_names.specs.FirstBy.{first_by}
use Rattle.explanation_faults.specs.LimitsPassed.{own_lock_in}

-- ---- locks

abbrev pub lock_in : Decl → Option Ident
lock_in (lock x) = Some x
lock_in _ = None

-- the first of the top level, and the first of a struct
abbrev pub global_lock : List Decl → Option Ident
global_lock decls = first_by lock_in decls

abbrev pub own_lock : List Member → Option Ident
own_lock members = first_by own_lock_in members

-- ---- a name without an annotation

-- the name stands at the byte, and does not have an annotation
abbrev pub lacks_lock : ℕ → Ident → Option Protection → Bool
lacks_lock at x None = x.span.start == at
lacks_lock at x (Some p) = false

abbrev pub field_lacks_lock : ℕ → Member → Bool
field_lacks_lock at (field_member f) = lacks_lock at f.name f.protection
field_lacks_lock at _ = false

abbrev pub some_lacks_lock : ℕ → List Member → Bool
some_lacks_lock at [] = false
some_lacks_lock at (m ∷ ms) = field_lacks_lock at m || some_lacks_lock at ms

-- the lock that could protect what a declaration leaves without an annotation at the byte. For a field it is the first
-- lock of its struct or, if the struct does not have one, the first of the top level; for a global or an array it is
-- the first of the top level
abbrev pub lock_for : List Decl → ℕ → Decl → Option Ident
lock_for decls at (struct s) = if some_lacks_lock at s.members then option_or (own_lock s.members) (global_lock decls) else None
lock_for decls at (global v) = if lacks_lock at v.name v.protection then global_lock decls else None
lock_for decls at (array a) = if lacks_lock at a.name a.protection then global_lock decls else None
lock_for decls at _ = None

-- the same for the first declaration that leaves something without an annotation at the byte
abbrev pub lock_at_hand : List Decl → ℕ → Option Ident
lock_at_hand decls at = first_by (lock_for decls at) decls
