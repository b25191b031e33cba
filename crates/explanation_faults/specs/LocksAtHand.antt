-- The lock that could protect what does not have one.
use Rattle.std.specs.Prelude.{◌≡◌, ℕ, List, None}
use Rattle.resolution.specs.Where.{Has}
use Rattle.syntax.specs.Trees.{Ident, Field, Member, lock_member, field_member, Struct, Variable, Array, Decl, lock}
use Rattle.syntax.specs.Trees.{struct, global, array}
use Rattle.explanation_names.specs.FirstBy.{IsFirst}

-- the lock for a field of a struct with these members: the struct's first lock, or, if it does not have one, the first
-- of the top level
pub data IsNearest (decls : List Decl) (members : List Member) (x : Ident) : Type 0 where
  inside : IsFirst lock_member members x → IsNearest decls members x
  outside : ((y : Ident) → Has members (lock_member y) → ⊥) → IsFirst lock decls x → IsNearest decls members x

-- the lock for what has its name at this byte and no annotation: for a field the nearest lock, for a global or an array
-- the first of the top level
pub data IsAtHand (decls : List Decl) (at : ℕ) (x : Ident) : Type 0 where
  for_global : {v : Variable} → Has decls (global v) → v.protection ≡ None → v.name.span.start ≡ at →
      IsFirst lock decls x → IsAtHand decls at x
  for_array : {a : Array} → Has decls (array a) → a.protection ≡ None → a.name.span.start ≡ at →
      IsFirst lock decls x → IsAtHand decls at x
  for_field : {s : Struct} {f : Field} → Has decls (struct s) → Has s.members (field_member f) → f.protection ≡ None →
      f.name.span.start ≡ at →
      IsNearest decls s.members x → IsAtHand decls at x
