-- The names of lock classes that a list has.
use Rattle.std.specs.Prelude.{◌≡◌, ◌&&◌, Bool, true, if◌then◌else◌, List, is_some}
use Rattle.std.specs.HashSet.{contains_by}
use Rattle.std.specs.Str.{bytes_eq}
use Rattle.syntax.specs.Trees.{ClassName}
use Rattle.resolution.specs.Scopes.{place_of, same_class}
use Rattle.types_symbols.specs.declared.listed.Listed.{Listed}

-- a class of this name is among them
abbrev pub is_listed : Listed → ClassName → Bool
is_listed l d = contains_by (λ k. bytes_eq d.structure.text k.0.now && bytes_eq d.lock.text k.1.now) l.names

-- they are those of these classes
abbrev pub IsListOf : List ClassName → Listed → Type 0
IsListOf cs l = (d : ClassName) → is_listed l d ≡ is_some (place_of same_class cs d)

-- the names got that of a class
abbrev pub IsListedWith : ClassName → Listed → Listed → Type 0
IsListedWith c old new = (d : ClassName) → is_listed new d ≡ (if same_class c d then true else is_listed old d)
