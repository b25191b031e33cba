-- What the code computes: what follows the `where` of a `let`, the final reference of its value that is named
-- there, and the local.
use Rattle.std.specs.Prelude.{ℕ, Bool, false, List, Option, Some, None, if◌then◌else◌}
use Rattle.syntax.specs.Trees.{Ident, ref_type, Owner, Member, lock_member, final_member, field_member, Decl}
use Rattle.core_lang.specs.declared.value.ValueType as core_type
use Rattle.core_lang.specs.declared.value.ValueType.TheVariants.{Integer, Reference}
use Rattle.resolution.specs.declared.owner_field.OwnerField.{OwnerField}
use Rattle.resolution.specs.declared.wanted.Sort.TheVariants as sort
use Rattle.resolution.specs.Core as core
use Rattle.source.specs.Texts.{SOURCE_LIMIT}
use Rattle.resolution.specs.Limits.{STRUCT_LIMIT, up_to}
use Rattle.resolution.specs.Scopes.{◌>>=◌, Scope, outside, Meaning, a_local, a_decl, nothing, meaning, the_struct}
use Rattle.resolution.specs.Scopes.{the_member, type_of}
use Rattle.resolution.specs.Expressions.{fits_type, member_number}

-- a final reference of the struct k, if its type has no fault
abbrev pub final_of : ℕ → ℕ → Option core_type.ValueType → Option OwnerField
final_of k n (Some t) = Some (record { structure = k; number = n; value_type = t })
final_of k n None = None

-- a member of the struct k, which has these members, if it is a final reference
abbrev pub owner_member : List Decl → ℕ → List Member → Option (ℕ × Member) → Option OwnerField
owner_member decls k ms (Some (i, final_member f)) =
    final_of k (member_number ms i (final_member f)) (type_of (outside decls) (ref_type f.target))
owner_member decls k ms (Some (i, lock_member x)) = None
owner_member decls k ms (Some (i, field_member f)) = None
owner_member decls k ms None = None

-- the final reference that the name refers to, for a value of this type
abbrev pub owner_field : List Decl → Option core_type.ValueType → Ident → Option OwnerField
owner_field decls (Some (Reference k)) f =
    the_struct decls k >>= λ s. owner_member decls k s.members (the_member s.members f.text)
owner_field decls (Some Integer) f = None
owner_field decls None f = None

-- a local's type, if it has no fault, is this one
abbrev pub is_of : core_type.ValueType → Option core_type.ValueType → Bool
is_of t (Some u) = fits_type t (sort.Of u)
is_of t None = false

-- the local that the name refers to, if it has the final reference's type
abbrev pub owner_local : Option OwnerField → Meaning → Option ℕ
owner_local (Some f) (a_local i l) = if is_of f.value_type l.value_type then Some i else None
owner_local (Some f) (a_decl i d) = None
owner_local (Some f) nothing = None
owner_local None m = None

-- a value that is tested. A struct past its limit has no number here, and the program has a fault; no source has more
-- locals than SOURCE_LIMIT
abbrev pub tested_by : ℕ → core.Expr → OwnerField → ℕ → Option core.Expr
tested_by start e f i =
    up_to STRUCT_LIMIT f.structure >>= λ k. up_to SOURCE_LIMIT i >>= λ n. Some (core.owned e k f.number start n)

abbrev pub owned_value : ℕ → Option core.Expr → Option OwnerField → Option ℕ → Option core.Expr
owned_value start e f i = e >>= λ x. f >>= λ y. i >>= λ n. tested_by start x y n

-- a value of this type, with what follows its `where`
abbrev pub owned_by : Scope → Option core_type.ValueType → Owner → Option core.Expr → Option core.Expr
owned_by sc t o e =
    owned_value o.local.span.start e (owner_field sc.decls t o.field)
    (owner_local (owner_field sc.decls t o.field) (meaning sc o.local.text))
