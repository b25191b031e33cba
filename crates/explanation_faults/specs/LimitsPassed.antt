-- The limit on declarations, members, locals or the final references of an annotation that is exceeded.
use Rattle.std.specs.List.{filter_map, flat_map}
use Rattle.std.specs.Prelude.{◌≡◌, ◌≤◌, ℕ, List, [], ◌∷◌, ◌++◌, length, map, Option, Some, None, codes}
use Rattle.resolution.specs.Annotations.{AnnotationCursor}
use Rattle.resolution.specs.Faults.{Walks}
use Rattle.resolution.specs.Limits.{STRUCT_LIMIT, MEMBER_LIMIT, FINAL_LIMIT, CLASS_LIMIT, SECTION_LIMIT, THREAD_LIMIT}
use Rattle.resolution.specs.Limits.{PARAMETER_LIMIT, LOCAL_LIMIT}
use Rattle.resolution.specs.Scopes.{member_name, the_member}
use Rattle.resolution.specs.Where.{Has}
use Rattle.syntax.specs.Trees.{Ident, Protection, Final, Member, lock_member, final_member, Param, Struct, Section}
use Rattle.syntax.specs.Trees.{Decl, lock, struct, atomic, helper, thread}
use Rattle.explanation_names.specs.NameSpaces.{local_names}

-- ---- names of a kind

-- the name of a struct
abbrev pub struct_name : Decl → Option Ident
struct_name (struct s) = Some s.name
struct_name _ = None

-- the name of a section or a helper
abbrev pub body_name : Decl → Option Ident
body_name (atomic s) = Some s.name
body_name (helper s) = Some s.name
body_name _ = None

-- the name of a thread
abbrev pub thread_name : Decl → Option Ident
thread_name (thread t) = Some t.name
thread_name _ = None

-- the name of the lock that a member is, if it is one
abbrev pub own_lock_in : Member → Option Ident
own_lock_in (lock_member x) = Some x
own_lock_in _ = None

-- the names of the locks of a struct
abbrev pub own_lock_names : List Member → List Ident
own_lock_names members = filter_map own_lock_in members

-- the names of the locks that a declaration has
abbrev pub lock_names : Decl → List Ident
lock_names (lock x) = x ∷ []
lock_names (struct s) = own_lock_names s.members
lock_names _ = []

-- the names of parameters
abbrev pub parameter_names : List Param → List Ident
parameter_names params = map (λ (p : Param). p.name) params

-- ---- exceeded limits

-- one of these names begins at this byte, and the limit is reached before it
pub record IsPast (at limit : ℕ) (names : List Ident) : Type 0 where
  pub before : List Ident
  pub name : Ident
  pub after : List Ident
  pub parts : names ≡ before ++ name ∷ after
  pub many : limit ≤ length before
  pub starts : name.span.start ≡ at

-- E15, for declarations, members and locals
pub data IsCountPassed (decls : List Decl) (at : ℕ) : List ℕ → Type 0 where
  structs : IsPast at STRUCT_LIMIT (filter_map struct_name decls) →
      IsCountPassed decls at (codes "a program has at most 64 structs")
  bodies : IsPast at SECTION_LIMIT (filter_map body_name decls) →
      IsCountPassed decls at (codes "a program has at most 256 sections and helpers")
  threads : IsPast at THREAD_LIMIT (filter_map thread_name decls) →
      IsCountPassed decls at (codes "a program has at most 64 threads")
  classes : IsPast at CLASS_LIMIT (flat_map lock_names decls) →
      IsCountPassed decls at (codes "a program has at most 128 lock classes")
  members : {s : Struct} → Has decls (struct s) → IsPast at MEMBER_LIMIT (map member_name s.members) →
      IsCountPassed decls at (codes "a struct has at most 32 members")
  parameters : {s : Section} → Has decls (atomic s) → IsPast at PARAMETER_LIMIT (parameter_names s.params) →
      IsCountPassed decls at (codes "a section has at most 8 parameters")
  locals : {s : Section} → Has decls (atomic s) → IsPast at LOCAL_LIMIT (local_names s) →
      IsCountPassed decls at (codes "a section has at most 64 locals, parameters included")

-- a field's annotation that begins at this byte goes over a final reference, and has reached the limit of these before
-- it
pub data AreFinalsPassed (decls : List Decl) : ℕ → Type 0 where
  finals_passed : {p : Protection} {st : AnnotationCursor} {y z : Ident} {zs : List Ident} {i : ℕ} {f : Final} →
      Walks decls p st y (z ∷ zs) → the_member st.members y.text ≡ Some (i, final_member f) → FINAL_LIMIT ≤ length st.through →
      AreFinalsPassed decls p.first.span.start
