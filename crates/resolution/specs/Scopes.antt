-- What names refer to.
use Rattle.std.specs.Prelude.{ℕ, zero, suc, List, [], ◌∷◌, ◌++◌, take, length, Option, Some, None, is_some, Bool}
use Rattle.std.specs.Prelude.{true, false, slice_get, ◌&&◌, if◌then◌else◌}
use Rattle.std.specs.Str.{bytes_eq}
use Rattle.syntax.specs.Trees.{Ident, Decl, lock, struct, global, array, pool, init, atomic, helper, thread}
use Rattle.syntax.specs.Trees.{ValueType, int_type, ref_type, Member, lock_member, final_member, field_member, Struct}
use Rattle.syntax.specs.Trees.{Param, ClassName, Section}
use Rattle.core_lang.specs.declared.value.ValueType as core_type
use Rattle.core_lang.specs.declared.value.ValueType.TheVariants.{Integer, Reference}
use Rattle.core_lang.specs.declared.tree.LocalKind.{LocalKind}
use Rattle.core_lang.specs.declared.tree.LocalKind.TheVariants.{Parameter}
use Rattle.resolution.specs.declared.body_limits.BodyLimits.{BodyLimits}
use Rattle.resolution.specs.Limits.{section_limits}

infixl 10 ◌>>=◌
abbrev pub ◌>>=◌ : {A B : Type 0} → Option A → (A → Option B) → Option B
(Some x) >>= f = f x
None >>= f = None

-- ---- the first of a name

-- the index of the first item that passes the test, counted from n
abbrev pub place_from : {A : Type 0} → (A → Bool) → ℕ → List A → Option ℕ
place_from p n [] = None
place_from p n (x ∷ xs) = if p x then Some n else place_from p (suc n) xs

-- the index of the first item with this name
abbrev pub place_of : {A Q : Type 0} → (A → Q → Bool) → List A → Q → Option ℕ
place_of bears xs q = place_from (λ x. bears x q) 0 xs

-- the first item with this name, and its index
abbrev pub named : {A Q : Type 0} → (A → Q → Bool) → List A → Q → Option (ℕ × A)
named bears xs q = place_of bears xs q >>= λ i. slice_get xs i >>= λ x. Some (i, x)

-- the number of items that pass the test
abbrev pub count : {A : Type 0} → (A → Bool) → List A → ℕ
count p [] = 0
count p (x ∷ xs) = if p x then suc (count p xs) else count p xs

-- ---- declarations

-- the name that a declaration declares; an `init` declares none
abbrev pub declared : Decl → Option Ident
declared (lock x) = Some x
declared (struct s) = Some s.name
declared (global v) = Some v.name
declared (array a) = Some a.name
declared (pool p) = Some p.name
declared (init i) = None
declared (atomic s) = Some s.name
declared (helper s) = Some s.name
declared (thread t) = Some t.name

-- this is the name, if one is given
abbrev pub is_called : Option Ident → List ℕ → Bool
is_called (Some x) q = bytes_eq q x.text
is_called None q = false

-- the declaration has this name
abbrev pub bears : Decl → List ℕ → Bool
bears d q = is_called (declared d) q

-- the first declaration of this name, and its place
abbrev pub the_decl : List Decl → List ℕ → Option (ℕ × Decl)
the_decl decls q = named bears decls q

-- declarations of one kind
abbrev pub alike : Decl → Decl → Bool
alike (lock x) (lock y) = true
alike (struct s) (struct r) = true
alike (global v) (global w) = true
alike (array a) (array b) = true
alike (pool p) (pool q) = true
alike (init i) (init j) = true
alike (atomic s) (atomic r) = true
alike (helper s) (helper r) = true
alike (thread t) (thread u) = true
alike _ _ = false

-- a section or a helper
abbrev pub has_body : Decl → Bool
has_body (atomic s) = true
has_body (helper s) = true
has_body _ = false

-- the number of a declaration: how many of its kind come before it
abbrev pub number_at : List Decl → ℕ → Decl → ℕ
number_at decls i d = count (alike d) (take i decls)

-- the structs, in order
abbrev pub structs_in : List Decl → List Struct
structs_in [] = []
structs_in (struct s ∷ ds) = s ∷ structs_in ds
structs_in (d ∷ ds) = structs_in ds

-- the struct of this number
abbrev pub the_struct : List Decl → ℕ → Option Struct
the_struct decls k = slice_get (structs_in decls) k

-- ---- members of a struct

-- the name of a member
abbrev pub member_name : Member → Ident
member_name (lock_member x) = x
member_name (final_member f) = f.name
member_name (field_member f) = f.name

-- the member has this name
abbrev pub member_bears : Member → List ℕ → Bool
member_bears m q = bytes_eq q (member_name m).text

-- the first member of this name, and its place
abbrev pub the_member : List Member → List ℕ → Option (ℕ × Member)
the_member ms q = named member_bears ms q

-- both members are of one kind
abbrev pub members_alike : Member → Member → Bool
members_alike (lock_member x) (lock_member y) = true
members_alike (final_member f) (final_member g) = true
members_alike (field_member f) (field_member g) = true
members_alike _ _ = false

-- the number of a member: how many of its kind come before it
abbrev pub number_in : List Member → ℕ → Member → ℕ
number_in ms i m = count (members_alike m) (take i ms)

-- both lock classes have the same names of struct and lock
abbrev pub same_class : ClassName → ClassName → Bool
same_class c d = bytes_eq c.structure.text d.structure.text && bytes_eq c.lock.text d.lock.text

-- ---- locals

-- a local: its type, unless this is faulty, and whether it is in scope
pub record Local : Type 0 where
  pub name : List ℕ
  pub kind : LocalKind
  pub value_type : Option core_type.ValueType
  pub is_visible : Bool

-- the local has this name
abbrev pub local_bears : Local → List ℕ → Bool
local_bears l q = bytes_eq q l.name

-- the first local of this name, and its number
abbrev pub the_local : List Local → List ℕ → Option (ℕ × Local)
the_local locals q = named local_bears locals q

-- ---- scopes

-- the scope at a place in a section or a helper: the declarations, the locals so far with those of finished blocks, the
-- result type, and the limits of parameters and locals
pub record Scope : Type 0 where
  pub decls : List Decl
  pub locals : List Local
  pub result : Option core_type.ValueType
  pub limits : BodyLimits

-- the scope outside of sections and helpers
abbrev pub outside : List Decl → Scope
outside decls = record { decls = decls; locals = []; result = None; limits = section_limits }

-- what a name refers to: a local with its number, a declaration with its place, or nothing
pub data Meaning : Type 0 where
  a_local : ℕ → Local → Meaning
  a_decl : ℕ → Decl → Meaning
  nothing : Meaning

-- a declaration that was found, with its place
abbrev pub declared_as : Option (ℕ × Decl) → Meaning
declared_as (Some d) = a_decl d.0 d.1
declared_as None = nothing

-- the local that was found, if it is in scope
abbrev pub local_or : Option (ℕ × Local) → Meaning → Meaning
local_or (Some l) other = if l.1.is_visible then a_local l.0 l.1 else other
local_or None other = other

-- what a name refers to in a scope
abbrev pub meaning : Scope → List ℕ → Meaning
meaning sc q = local_or (the_local sc.locals q) (declared_as (the_decl sc.decls q))

-- the helper that a name refers to, and its place
abbrev pub helper_meant : Meaning → Option (ℕ × Section)
helper_meant (a_decl i (helper s)) = Some (i, s)
helper_meant _ = None

-- ---- types

-- the number of the struct that a name refers to
abbrev pub struct_meant : List Decl → Meaning → Option ℕ
struct_meant decls (a_decl i (struct s)) = Some (number_at decls i (struct s))
struct_meant decls _ = None

-- the type, if its name is that of a struct
abbrev pub type_of : Scope → ValueType → Option core_type.ValueType
type_of sc int_type = Some Integer
type_of sc (ref_type x) = struct_meant sc.decls (meaning sc x.text) >>= λ k. Some (Reference k)

-- the type of the result of a section or a helper, if it has one without a fault
abbrev pub result_of : List Decl → Section → Option core_type.ValueType
result_of decls s = s.result >>= λ t. type_of (outside decls) t

-- the number of the struct of this name
abbrev pub struct_named : List Decl → Ident → Option ℕ
struct_named decls x = struct_meant decls (meaning (outside decls) x.text)

-- the declaration of the name has no fault in its type. A name whose declaration has one causes no faults of its own
abbrev pub has_type : List Decl → Meaning → Bool
has_type decls (a_local i l) = is_some l.value_type
has_type decls (a_decl i (global v)) = is_some (type_of (outside decls) v.value_type)
has_type decls (a_decl i (array a)) = is_some (type_of (outside decls) a.value_type)
has_type decls (a_decl i (pool p)) = is_some (struct_named decls p.target)
has_type decls (a_decl i d) = true
has_type decls nothing = true

-- the declaration of the member has no fault in its type
abbrev pub member_has_type : List Decl → Member → Bool
member_has_type decls (lock_member x) = true
member_has_type decls (final_member f) = is_some (struct_named decls f.target)
member_has_type decls (field_member f) = is_some (type_of (outside decls) f.value_type)

-- ---- locals come and go

-- the scope after the declaration of a local
abbrev pub bound : Scope → LocalKind → Ident → Option core_type.ValueType → Scope
bound sc kind x t = record sc { locals = sc.locals ++ record { name = x.text; kind = kind; value_type = t; is_visible = true } ∷ [] }

-- the scope after parameters, whose types are those outside
abbrev pub entered : Scope → List Param → Scope
entered sc [] = sc
entered sc (p ∷ ps) = entered (bound sc Parameter p.name (type_of (outside sc.decls) p.value_type)) ps

-- the local, out of scope
abbrev pub hidden : Local → Local
hidden l = record l { is_visible = false }

-- the locals from this index on are no longer in scope
abbrev pub hidden_from : ℕ → List Local → List Local
hidden_from n [] = []
hidden_from zero (x ∷ xs) = hidden x ∷ hidden_from zero xs
hidden_from (suc n) (x ∷ xs) = x ∷ hidden_from n xs

-- the scope after a block, given the scope before it and the one at its end
abbrev pub left : Scope → Scope → Scope
left ahead end = record ahead { locals = hidden_from (length ahead.locals) end.locals }
