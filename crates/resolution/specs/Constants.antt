-- Constants, and the values that declarations give to the members of pools.
use Rattle.std.specs.Prelude.{◌≡◌, ℕ, ◌+◌, ◌≤◌, ◌<◌, pos, neg_ℤ, nat_lt, min, ◌==◌, ◌&&◌, Bool, true, false, List, []}
use Rattle.std.specs.Prelude.{◌∷◌, Option, Some, None, if◌then◌else◌}
use Rattle.source.specs.Texts.{NUMBER_LIMIT}
use Rattle.source.specs.declared.span.Span.{Span}
use Rattle.source.specs.declared.token.Number.{Number}
use Rattle.syntax.specs.Trees.{Ident, ref_type, Const, int_const, negative, null_const, member_const, Decl, struct}
use Rattle.syntax.specs.Trees.{Pool, pool, init, Member, lock_member, final_member, field_member, Init, Param}
use Rattle.core_lang.specs.declared.value.Value.{Value}
use Rattle.core_lang.specs.declared.value.Value.TheVariants.{Int, Ref}
use Rattle.core_lang.specs.declared.value.ValueType.{ValueType}
use Rattle.core_lang.specs.declared.value.ValueType.TheVariants.{Integer, Reference}
use Rattle.resolution.specs.declared.init_target.InitTarget.{InitTarget}
use Rattle.resolution.specs.declared.wanted.Sort.{Sort}
use Rattle.resolution.specs.declared.wanted.Sort.TheVariants.{Of, Null}
use Rattle.resolution.specs.declared.wanted.Want.{Want}
use Rattle.resolution.specs.declared.wanted.Want.TheVariants as wanted
use Rattle.resolution.specs.Limits.{OBJECT_LIMIT}
use Rattle.resolution.specs.Scopes.{◌>>=◌, outside, named, the_decl, the_member, type_of, struct_named}
use Rattle.resolution.specs.Numbers.{objects_ahead}
use Rattle.resolution.specs.Expressions.{fits_sort, want}

-- ---- constants

-- the sort of a constant; a member of a pool is a reference to an object of the pool's struct, whatever its index
pub data IsOfSort (decls : List Decl) : Const → Sort → Type 0 where
  number_sort : {n : Number} → n.value ≤ NUMBER_LIMIT → IsOfSort decls (int_const n) (Of Integer)
  negative_sort : {sign : Span} {n : Number} → n.value ≤ NUMBER_LIMIT → IsOfSort decls (negative sign n) (Of Integer)
  null_sort : {at : Span} → IsOfSort decls (null_const at) Null
  member_sort : {x : Ident} {n : Number} {i s : ℕ} {p : Pool} →
      the_decl decls x.text ≡ Some (i, pool p) → struct_named decls p.target ≡ Some s →
      IsOfSort decls (member_const x n) (Of (Reference s))

-- the object that is the member of this index of the pool at this place; past the limit all have one number, and the
-- program has a fault
abbrev pub object_of : List Decl → ℕ → ℕ → ℕ
object_of decls i n = min (objects_ahead decls i + n) OBJECT_LIMIT

-- the value of a constant; the index of a member is below the length of its pool
pub data Denotes (decls : List Decl) : Const → Value → Type 0 where
  a_number : {n : Number} → Denotes decls (int_const n) (Int (pos n.value))
  a_negative : {sign : Span} {n : Number} → Denotes decls (negative sign n) (Int (neg_ℤ (pos n.value)))
  no_object : {at : Span} → Denotes decls (null_const at) (Ref None)
  an_object : {x : Ident} {n : Number} {i : ℕ} {p : Pool} →
      the_decl decls x.text ≡ Some (i, pool p) → n.value < p.length.value →
      Denotes decls (member_const x n) (Ref (Some (object_of decls i n.value)))

-- a constant of an expected sort with this value
pub data Yields (decls : List Decl) (w : Want) (c : Const) (v : Value) : Type 0 where
  yields : {s : Sort} → IsOfSort decls c s → fits_sort w s ≡ true → Denotes decls c v → Yields decls w c v

-- what a parameter expects of its argument
abbrev pub want_of : List Decl → Param → Want
want_of decls p = want (type_of (outside decls) p.value_type)

-- one argument for each parameter, and their values
pub data AreArguments (decls : List Decl) : List Param → List Const → List Value → Type 0 where
  no_constant : AreArguments decls [] [] []
  one_constant : {p : Param} {c : Const} {v : Value} {ps : List Param} {cs : List Const} {vs : List Value} →
      Yields decls (want_of decls p) c v → AreArguments decls ps cs vs → AreArguments decls (p ∷ ps) (c ∷ cs) (v ∷ vs)

-- ---- the values of members of pools

-- the members of the declared struct, if it is one
abbrev pub members_in : Option (ℕ × Decl) → Option (List Member)
members_in (Some (i, struct s)) = Some s.members
members_in _ = None

-- the members of the struct of this name
abbrev pub members_of : List Decl → Ident → Option (List Member)
members_of decls x = members_in (the_decl decls x.text)

-- the members of the struct of a pool
abbrev pub pool_members : List Decl → Option (ℕ × Decl) → Option (List Member)
pool_members decls (Some (i, pool p)) = members_of decls p.target
pool_members decls _ = None

-- the field that an `init` names
abbrev pub initialised : List Decl → Init → Option (ℕ × Member)
initialised decls i = pool_members decls (the_decl decls i.pool.text) >>= λ ms. the_member ms i.field.text

-- what is expected of the constant for the member
abbrev pub member_want : List Decl → Option (ℕ × Member) → Want
member_want decls (Some (m, final_member f)) = want (type_of (outside decls) (ref_type f.target))
member_want decls (Some (m, field_member f)) = want (type_of (outside decls) f.value_type)
member_want decls (Some (m, lock_member x)) = wanted.Anything
member_want decls None = wanted.Anything

-- a field or a final reference of a pool's member, as the target of an `init`
abbrev pub init_target_at : ℕ → ℕ → Option (ℕ × Member) → Option InitTarget
init_target_at p index (Some (m, final_member f)) = Some (record { pool = p; index = index; member = m })
init_target_at p index (Some (m, field_member f)) = Some (record { pool = p; index = index; member = m })
init_target_at p index (Some (m, lock_member x)) = None
init_target_at p index None = None

-- the target with this name among the members of the struct
abbrev pub init_target_in : ℕ → ℕ → Option (List Member) → List ℕ → Option InitTarget
init_target_in p index (Some ms) q = init_target_at p index (the_member ms q)
init_target_in p index None q = None

-- the target in a pool, if the index is below its length
abbrev pub init_target_to : List Decl → Option (ℕ × Decl) → ℕ → List ℕ → Option InitTarget
init_target_to decls (Some (i, pool p)) index q =
    if nat_lt index p.length.value then init_target_in i index (members_of decls p.target) q else None
init_target_to decls _ index q = None

-- the target of an `init`, if it exists
abbrev pub init_target_of : List Decl → Init → Option InitTarget
init_target_of decls i = init_target_to decls (the_decl decls i.pool.text) i.index.value i.field.text

-- both are the same field of the same member
abbrev pub same_init_target : InitTarget → InitTarget → Bool
same_init_target g h = (g.pool == h.pool) && (g.index == h.index) && (g.member == h.member)

-- the target exists, and is this one
abbrev pub is_init_target : Option InitTarget → InitTarget → Bool
is_init_target (Some h) g = same_init_target h g
is_init_target None g = false

-- the declaration gives a value to the target
abbrev pub gives : List Decl → Decl → InitTarget → Bool
gives decls (init i) g = is_init_target (init_target_of decls i) g
gives decls _ g = false

-- the first of these declarations that gives a value to the target, and its place
abbrev pub giver : List Decl → List Decl → InitTarget → Option (ℕ × Decl)
giver decls ds g = named (gives decls) ds g

-- the constant of an `init`
abbrev pub value_in : Option (ℕ × Decl) → Option Const
value_in (Some (i, init j)) = Some j.value
value_in _ = None

-- the constant that the target is given
abbrev pub given : List Decl → InitTarget → Option Const
given decls g = value_in (giver decls decls g)

-- ---- initial values

-- the default value of a type: 0 or null
abbrev pub default_of : ValueType → Value
default_of Integer = Int (pos 0)
default_of (Reference s) = Ref None

-- the initial value of something of this type: the constant that it is given, or its default
pub data Opens (decls : List Decl) (t : ValueType) : Option Const → Value → Type 0 where
  by_default : Opens decls t None (default_of t)
  by_constant : {c : Const} {v : Value} → Yields decls (wanted.Value t) c v → Opens decls t (Some c) v
