-- Laws of lock paths, as the laws of `src/laws.rt` claim them.
use Rattle.std.specs.Prelude.{◌≡◌, ◌↔◌, ◌⊎◌, ℕ, true, false, List, [], slice_get, Option, Some, None}
use Rattle.std.specs.Option.{option_map}
use Rattle.std.specs.List.{Contains}
use Rattle.core_lang.specs.declared.value.Value.{Value}
use Rattle.core_lang.specs.declared.shape.Shape.{Shape}
use Rattle.core_lang.specs.declared.tree.FieldStep.{FieldStep}
use Rattle.core_lang.specs.declared.tree.Local.{Local}
use Rattle.core_lang.specs.declared.tree.LocalKind.TheVariants.{Parameter}
use Rattle.core_lang.specs.declared.tree.Section.{Section}
use Rattle.core_lang.specs.declared.typed.LockClass.{LockClass}
use Rattle.core_lang.specs.declared.typed.LockClass.TheVariants as class
use Rattle.core_lang.specs.declared.typed.Protection.{Protection}
use Rattle.core_lang.specs.declared.typed.Typed.{Typed}
use Rattle.core_lang.specs.Typing.{lookup, local_types, HaveTypes, IsHeap}
use Rattle.core_lang.specs.Meaning.{State, GoesOn}
use Rattle.core_lang.specs.WellFormed.{IsWellFormed, IsGlobalLock}
use Rattle.core_lang.specs.Scopes.{IsWellScoped}
use Rattle.flow.specs.Skeletons.{skeleton}
use Rattle.flow.specs.Flow.{Follows}
use Rattle.flow.specs.Points.{Point, points, IsScopeAt}
use Rattle.flow.specs.Working.Effects.{effect_at}
use Rattle.locks.specs.declared.lock.Lock.{Lock}
use Rattle.locks.specs.declared.path.Root.{Root}
use Rattle.locks.specs.declared.path.Root.TheVariants.{GlobalLock, WholeClass, Local as AtLocal}
use Rattle.locks.specs.Accesses.{Access, Target, global, element, field, accesses_at}
use Rattle.locks.specs.Locks.{IsLock, protection_of, lock_of_cell}
use Rattle.locks.specs.Working.Reached.{Reaches}
use Rattle.locks.specs.LockPaths.{LockPath, StablePath, Binding, IsLet, stable, stable_value, owner_of, owned_path}
use Rattle.locks.specs.LockPaths.{bindings, behind, normal_form, global_path, whole_class, is_listed, protected_path}
use Rattle.locks.specs.LockPaths.{normal_base, under, target_path, lock_path, lock_paths, same_path, Uses, IsInScope}
use Rattle.locks.specs.LockPaths.{BindsRoot, locks_named, Names, LetsAgree}
use Rattle.locks.specs.Faults.{HasSection}

-- if each local and cell has a value of its type, and each `let` in scope the value that its initialiser had, then the
-- lock that protects the cell which an access at a point of a well-formed program reaches is among those that the path
-- of the access names
abbrev pub PathsNameTheLocks : Type 0
PathsNameTheLocks =
    (program : Typed) (section : Section) (p : ℕ) (point : Point) (scope : List ℕ) (locals heap : List Value) (a : Access)
    (path : LockPath) (cell : ℕ) → IsWellFormed program → HasSection program section →
    slice_get (points section) p ≡ Some point → IsScopeAt section p scope →
    HaveTypes program.shape (local_types section.locals.items) locals → IsHeap program heap →
    LetsAgree section scope program.shape locals →
    Contains (accesses_at point) a → lock_path program section a ≡ Some path → Reaches program.shape locals heap a.target cell →
    (lock : Lock) × Names path program.shape locals lock × (lock_of_cell program cell ≡ Some lock)

-- if each local has a value of its type, each lock that a path which a point uses names is a lock of the program
abbrev pub NamedAreLocks : Type 0
NamedAreLocks =
    (program : Typed) (section : Section) (p : ℕ) (path : LockPath) (locals : List Value) (lock : Lock) → IsWellFormed program →
    HasSection program section → HaveTypes program.shape (local_types section.locals.items) locals → Uses program section p path →
    Names path program.shape locals lock → IsLock program lock

-- a path that a point uses is in scope there
abbrev pub UsedAreInScope : Type 0
UsedAreInScope =
    (program : Typed) (section : Section) (p : ℕ) (path : LockPath) → IsWellFormed program → HasSection program section →
    Uses program section p path → IsInScope section p path

-- a path in scope at a point was in scope at each point before it in the flow, or its root is bound there
abbrev pub ScopeOfPathsGoesBack : Type 0
ScopeOfPathsGoesBack =
    (section : Section) (p q : ℕ) (path : LockPath) → Follows (skeleton section) p q → IsInScope section q path →
    IsInScope section p path ⊎ BindsRoot section p path

-- at the first point, each `let` in scope agrees: none is in scope
abbrev pub LetsAgreeAtFirst : Type 0
LetsAgreeAtFirst =
    (section : Section) (scope : List ℕ) (shape : Shape) (locals : List Value) → IsWellScoped section → IsScopeAt section 0 scope →
    LetsAgree section scope shape locals

-- if each `let` in scope agrees before a point that leads on, each agrees at each point that follows
abbrev pub LetsKeepAgreeing : Type 0
LetsKeepAgreeing =
    (section : Section) (p q : ℕ) (point : Point) (scope after : List ℕ) (shape : Shape) (s t : State) → IsWellScoped section →
    slice_get (points section) p ≡ Some point → IsScopeAt section p scope → IsScopeAt section q after →
    Follows (skeleton section) p q → LetsAgree section scope shape s.locals → effect_at point shape s ≡ GoesOn t → LetsAgree section after shape t.locals

-- a path that the section uses names the same locks after a point as before it, unless the point binds its root
abbrev pub NamesStay : Type 0
NamesStay =
    (program : Typed) (section : Section) (p user : ℕ) (point : Point) (path : LockPath) (s t : State) → IsWellScoped section →
    slice_get (points section) p ≡ Some point → Uses program section user path → (BindsRoot section p path → ⊥) →
    effect_at point program.shape s ≡ GoesOn t → locks_named path program.shape t.locals ≡ locks_named path program.shape s.locals

-- a lock field of this struct
abbrev pub IsFieldOf : ℕ → LockClass → Type 0
IsFieldOf structure (class.Global name) = ⊥
IsFieldOf structure (class.Field s l) = s ≡ structure

-- a global lock has the class of one, a whole class that of a lock field of its struct, and a path from a local that of
-- a lock field
abbrev pub IsClassFor : Root → LockClass → Type 0
IsClassFor GlobalLock c = IsGlobalLock c
IsClassFor (WholeClass s) c = IsFieldOf s c
IsClassFor (AtLocal k) c = IsGlobalLock c → ⊥

-- the class of a path that a point uses is one of the program's
abbrev pub PathsHaveClasses : Type 0
PathsHaveClasses =
    (program : Typed) (section : Section) (p : ℕ) (path : LockPath) → IsWellFormed program → Uses program section p path →
    (c : LockClass) × (slice_get program.classes.items path.class ≡ Some c) × IsClassFor path.root c

-- under the lock of a struct whose class the section lists, the path is the whole class, whatever the base
abbrev pub ListedAreWhole : Type 0
ListedAreWhole =
    (section : Section) (structure lock : ℕ) (protection : Protection) (base : Option StablePath) →
    is_listed section protection.class ≡ true →
    under section (class.Field structure lock) protection base ≡ Some (whole_class protection.class structure)

-- the lock path under a lock in a language without lists
abbrev pub unlisted : LockClass → Protection → Option StablePath → Option LockPath
unlisted (class.Global name) protection base = Some (global_path protection.class)
unlisted (class.Field s l) protection base = option_map (protected_path protection) base

-- under a lock whose class the section does not list, the path is what it is without lists
abbrev pub OthersAreUnlisted : Type 0
OthersAreUnlisted =
    (section : Section) (c : LockClass) (protection : Protection) (base : Option StablePath) →
    is_listed section protection.class ≡ false → under section c protection base ≡ unlisted c protection base

-- the lock path of an access in a language without lists
abbrev pub unlisted_path : Typed → Section → Target → Option LockPath
unlisted_path program section (global cell) = target_path program section (global cell)
unlisted_path program section (element array) = target_path program section (element array)
unlisted_path program section (field local base s f) =
    lookup (protection_of program s f) (λ (p : Protection). lookup (slice_get program.classes.items p.class) (λ (c : LockClass).
    unlisted c p (option_map (normal_base section p) (stable section local base))))

-- each path of a section that lists nothing is what it is without lists
abbrev pub ListlessAreUnlisted : Type 0
ListlessAreUnlisted =
    (program : Typed) (section : Section) (a : Access) → section.listed.items ≡ [] →
    lock_path program section a ≡ unlisted_path program section a.target

-- a path over the final reference that a `where` tests has the normal form of the path from the owner
abbrev pub NormalFormOfOwned : Type 0
NormalFormOfOwned =
    (section : Section) (b : Binding) (path from : StablePath) → IsWellScoped section → Contains (bindings section) b →
    b.local ≡ path.root → owned_path (owner_of section b.value) path ≡ Some from → normal_form section path ≡ normal_form section from

-- any other path that begins at a `let` of a stable path has the normal form of that path, followed by its finals
abbrev pub NormalFormOfLet : Type 0
NormalFormOfLet =
    (section : Section) (b : Binding) (path from : StablePath) → IsWellScoped section → Contains (bindings section) b →
    b.local ≡ path.root → owned_path (owner_of section b.value) path ≡ None → stable_value section b.value ≡ Some from →
    normal_form section path ≡ normal_form section (behind (Some from) path)

-- any further path is its own normal form
abbrev pub NormalFormOfOther : Type 0
NormalFormOfOther =
    (section : Section) (path : StablePath) →
    ((b : Binding) → Contains (bindings section) b → b.local ≡ path.root → (owned_path (owner_of section b.value) path ≡ None) × (stable_value section b.value ≡ None)) →
    normal_form section path ≡ path

-- a local that no normal form replaces: a parameter, or a `let` whose initialiser is not a stable path
abbrev pub IsNormalRoot : Section → ℕ → Type 0
IsNormalRoot section k =
    ((local : Local) × (slice_get section.locals.items k ≡ Some local) × (local.kind ≡ Parameter))
    ⊎ (IsLet section k × ((b : Binding) → Contains (bindings section) b → b.local ≡ k → stable_value section b.value ≡ None))

-- in a well-scoped section the normal form of a stable path has such a root
abbrev pub NormalFormsAreNormal : Type 0
NormalFormsAreNormal =
    (section : Section) (local : ℕ) (base : List FieldStep) (path : StablePath) → IsWellScoped section →
    stable section local base ≡ Some path → IsNormalRoot section (normal_form section path).root

-- `same_path` decides whether two paths are equal
abbrev pub SamePathDecides : Type 0
SamePathDecides = (a b : LockPath) → (same_path a b ≡ true) ↔ (a ≡ b)

-- no path is in a section's list twice
abbrev pub EachPathOnce : Type 0
EachPathOnce =
    (program : Typed) (section : Section) (i j : ℕ) (path : LockPath) → slice_get (lock_paths program section) i ≡ Some path →
    slice_get (lock_paths program section) j ≡ Some path → i ≡ j

-- a section's list has exactly the paths that points of the section use
abbrev pub UsedAreListed : Type 0
UsedAreListed =
    (program : Typed) (section : Section) (path : LockPath) →
    Contains (lock_paths program section) path ↔ ((p : ℕ) × Uses program section p path)
