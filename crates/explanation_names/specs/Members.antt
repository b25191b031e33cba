-- The members of a struct that are searched for a name at a byte.
use Rattle.std.specs.Prelude.{◌≡◌, ℕ, List, ◌∷◌, Option, Some, None}
use Rattle.resolution.specs.Constants.{members_of, pool_members}
use Rattle.resolution.specs.Scopes.{the_decl, the_member}
use Rattle.resolution.specs.Where.{Has}
use Rattle.syntax.specs.Trees.{Ident, ValueType, int_type, ref_type, Member, lock_member, final_member, field_member}
use Rattle.syntax.specs.Trees.{Decl, Protection}
use Rattle.explanation_names.specs.declared.members.Role.{Role}
use Rattle.explanation_names.specs.declared.members.Role.TheVariants as role
use Rattle.explanation_names.specs.Locals.{LocalInScope}
use Rattle.explanation_names.specs.Sought.{Use, by_dots, by_init, by_annotation, by_owner, by_class}

-- the members of the struct to which a type refers
abbrev pub members_behind : List Decl → ValueType → Option (List Member)
members_behind decls int_type = None
members_behind decls (ref_type x) = members_of decls x

-- the members of the struct that a member refers to
abbrev pub over : List Decl → Option (ℕ × Member) → Option (List Member)
over decls (Some (i, lock_member x)) = None
over decls (Some (i, final_member f)) = members_of decls f.target
over decls (Some (i, field_member f)) = members_behind decls f.value_type
over decls None = None

-- along these names, from a struct with these members: a name begins at the byte that is looked up among those
pub data Leads (decls : List Decl) (at : ℕ) : List Member → List Ident → List Member → Type 0 where
  there : {ms : List Member} {f : Ident} {fs : List Ident} → f.span.start ≡ at → Leads decls at ms (f ∷ fs) ms
  goes_on : {ms ns to : List Member} {f : Ident} {fs : List Ident} →
      over decls (the_member ms f.text) ≡ Some ns → Leads decls at ns fs to → Leads decls at ms (f ∷ fs) to

-- the use of a name looks up a member in this role among these, by a name that begins at the byte: after a local's
-- name, in an `init`, along an annotation from its own struct on, after `where`, or in a list of lock classes
pub data IsAmong (decls : List Decl) (at : ℕ) : Use → Role → List Member → Type 0 where
  behind_dots : {xs : List LocalInScope} {l : LocalInScope} {x : Ident} {fs : List Ident} {ms to : List Member} →
      Has xs l → l.name.text ≡ x.text → members_behind decls l.value_type ≡ Some ms → Leads decls at ms fs to →
      IsAmong decls at (by_dots xs x fs) role.Value to
  in_init : {p f : Ident} {ms : List Member} →
      f.span.start ≡ at → pool_members decls (the_decl decls p.text) ≡ Some ms → IsAmong decls at (by_init p f) role.Value ms
  in_annotation : {s : Ident} {p : Protection} {ms to : List Member} →
      members_of decls s ≡ Some ms → Leads decls at ms (p.first ∷ p.rest) to →
      IsAmong decls at (by_annotation s p) role.Lock to
  behind_where : {t : ValueType} {f : Ident} {ms : List Member} →
      f.span.start ≡ at → members_behind decls t ≡ Some ms → IsAmong decls at (by_owner t f) role.Owner ms
  in_list : {s f : Ident} {ms : List Member} →
      f.span.start ≡ at → members_of decls s ≡ Some ms → IsAmong decls at (by_class s f) role.Class ms

-- the name of a member, if it can have this role. A value is a field or a final reference. An annotation has a lock, or
-- a final reference on the way to one. After `where` is a final reference. A lock class has a lock
abbrev pub name_as : Role → Member → Option Ident
name_as role.Value (lock_member x) = None
name_as role.Value (final_member f) = Some f.name
name_as role.Value (field_member f) = Some f.name
name_as role.Lock (lock_member x) = Some x
name_as role.Lock (final_member f) = Some f.name
name_as role.Lock (field_member f) = None
name_as role.Owner (lock_member x) = None
name_as role.Owner (final_member f) = Some f.name
name_as role.Owner (field_member f) = None
name_as role.Class (lock_member x) = Some x
name_as role.Class (final_member f) = None
name_as role.Class (field_member f) = None
