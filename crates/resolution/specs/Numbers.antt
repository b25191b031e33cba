-- The lock classes, objects and cells of each declaration.
use Rattle.std.specs.Prelude.{ℕ, ◌+◌, ◌*◌, List, [], ◌∷◌, ◌++◌, take, Option, Some, None, Bool, true, false}
use Rattle.syntax.specs.Trees.{Decl, lock, struct, global, array, pool, thread, Member, lock_member, field_member}
use Rattle.syntax.specs.Trees.{Item, call, repeat, Items, no_items, item}
use Rattle.resolution.specs.Scopes.{place_of, count, the_decl, member_name, member_bears}

-- the member is a lock
abbrev pub is_lock : Member → Bool
is_lock (lock_member x) = true
is_lock _ = false

-- the number of lock classes that a declaration adds
abbrev pub classes_of : Decl → ℕ
classes_of (lock x) = 1
classes_of (struct s) = count is_lock s.members
classes_of _ = 0

-- the number of objects that a declaration adds
abbrev pub objects_of : Decl → ℕ
objects_of (pool p) = p.length.value
objects_of _ = 0

-- 1 for a field whose name no member before it has, else 0
abbrev pub new_field : Option ℕ → Member → ℕ
new_field (Some i) m = 0
new_field None (field_member f) = 1
new_field None m = 0

-- the number of fields among members, given those before them
abbrev pub fields_from : List Member → List Member → ℕ
fields_from before [] = 0
fields_from before (m ∷ ms) = new_field (place_of member_bears before (member_name m).text) m + fields_from (before ++ m ∷ []) ms

-- the number of cells of an object of a struct
abbrev pub width : Option (ℕ × Decl) → ℕ
width (Some (i, struct s)) = fields_from [] s.members
width _ = 0

-- the number of cells that a declaration adds
abbrev pub cells_of : List Decl → Decl → ℕ
cells_of decls (global v) = 1
cells_of decls (array a) = a.length.value
cells_of decls (pool p) = p.length.value * width (the_decl decls p.target.text)
cells_of decls _ = 0

-- the number of calls of a thread's items, with each `repeat` expanded
abbrev mutual
  pub calls_in : Item → ℕ
  calls_in (call c) = 1
  calls_in (repeat n is) = n.value * calls_in_all is

  pub calls_in_all : Items → ℕ
  calls_in_all no_items = 0
  calls_in_all (item i is) = calls_in i + calls_in_all is

-- the number of calls that a declaration adds
abbrev pub calls_of : Decl → ℕ
calls_of (thread t) = calls_in_all t.items
calls_of _ = 0

-- the sum of what declarations add
abbrev pub total : (Decl → ℕ) → List Decl → ℕ
total of [] = 0
total of (d ∷ ds) = of d + total of ds

-- the number of lock classes before the declaration at this place
abbrev pub classes_ahead : List Decl → ℕ → ℕ
classes_ahead decls i = total classes_of (take i decls)

-- the number of objects before the declaration at this place
abbrev pub objects_ahead : List Decl → ℕ → ℕ
objects_ahead decls i = total objects_of (take i decls)

-- the number of cells before the declaration at this place
abbrev pub cells_ahead : List Decl → ℕ → ℕ
cells_ahead decls i = total (cells_of decls) (take i decls)
