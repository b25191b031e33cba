-- What the notes and addresses of a lock path are, by whether it is a whole class.
use Rattle.std.proofs.Common.{◌≡◌, ◌⊎◌, ℕ, List, [], ◌∷◌, map, Option, Some, None, slice_get, refl, sym, ap, ◌∙◌, subst, inl, inr}
use Rattle.std.specs.List.{Contains}
use Rattle.std.specs.Option.{option_map, option_map_or}
use Rattle.core_lang.specs.declared.value.Value.{Value}
use Rattle.core_lang.specs.declared.shape.Shape.{Shape}
use Rattle.core_lang.specs.declared.tree.Section.{Section}
use Rattle.core_lang.specs.declared.typed.Typed.{Typed}
use Rattle.core_lang.specs.Typing.{lookup}
use Rattle.core_lang.specs.Theory.Items.{in_first, not_in_none, one_contained}
use Rattle.locks.specs.declared.lock.Lock.{Lock}
use Rattle.locks.specs.declared.path.Root.{Root}
use Rattle.locks.specs.declared.path.Root.TheVariants.{GlobalLock, WholeClass, Local as AtLocal}
use Rattle.locks.specs.Locks.{locks_of}
use Rattle.locks.specs.LockPaths.{LockPath, lock_paths, locks_named, locks_from, one_or_none}
use Rattle.worlds.specs.Asking.{locks_numbered}
use Rattle.c_threads.specs.Locking.{Pointer, address, addresses, addresses_by, address_at, addresses_at, stood_by, stood_for}
use Rattle.c_threads.specs.Locking.{had, noted_at}
use Rattle.c_threads.proofs.ClassRuns.{first_of}

abbrev pub IsWhole : Root → Type 0
IsWhole root = (s : ℕ) × (root ≡ WholeClass s)

pub whole_or_not : (root : Root) → IsWhole root ⊎ (IsWhole root → ⊥)
whole_or_not GlobalLock = inr (λ w. (let bad : GlobalLock ≡ WholeClass w.0 = w.1 in cc bad))
whole_or_not (WholeClass s) = inl (s, refl)
whole_or_not (AtLocal k) = inr (λ w. (let bad : AtLocal k ≡ WholeClass w.0 = w.1 in cc bad))

pub first_in : (ls : List Lock) (l : Lock) → first_of ls ≡ Some l → Contains ls l
first_in [] l e = absurd (let bad : None ≡ Some l = e in cc bad)
first_in (x ∷ ls) l e = (let same : x ≡ l = cc e in subst (Contains (x ∷ ls)) same (in_first x ls))

first_one : (o : Option Lock) → one_or_none o ≡ one_or_none (first_of (one_or_none o))
first_one None = refl
first_one (Some l) = refl

module _ (program : Typed) (section : Section) (locals : List Value) where
  abbrev paths : List LockPath
  paths = lock_paths program section

  abbrev locks : ℕ → List Lock
  locks k = locks_numbered program section locals k

  abbrev stood : ℕ → Lock → List Lock
  stood k lock = stood_for program section k lock

  -- ---- by the root

  stood_one : (shape : Shape) (root : Root) (class : ℕ) (lock : Lock) → (IsWhole root → ⊥) →
      stood_by shape root class lock ≡ lock ∷ []
  stood_one shape GlobalLock class lock not = refl
  stood_one shape (WholeClass s) class lock not = absurd (not (s, refl))
  stood_one shape (AtLocal k) class lock not = refl

  locks_one : (root : Root) (finals : List ℕ) (class : ℕ) (shape : Shape) → (IsWhole root → ⊥) →
      locks_from root finals class shape locals ≡ one_or_none (first_of (locks_from root finals class shape locals))
  locks_one GlobalLock finals class shape not = refl
  locks_one (WholeClass s) finals class shape not = absurd (not (s, refl))
  locks_one (AtLocal k) finals class shape not = first_one _

  addresses_one : (shape : Shape) (root : Root) (path : LockPath) → (IsWhole root → ⊥) →
      addresses_by shape locals root path ≡ option_map (λ (p : Pointer). p ∷ []) (address shape locals path)
  addresses_one shape GlobalLock path not = refl
  addresses_one shape (WholeClass s) path not = absurd (not (s, refl))
  addresses_one shape (AtLocal k) path not = refl

  itself_by : (shape : Shape) (root : Root) (finals : List ℕ) (class : ℕ) (lock : Lock) →
      Contains (locks_from root finals class shape locals) lock → Contains (stood_by shape root class lock) lock
  itself_by shape GlobalLock finals class lock c = in_first lock []
  itself_by shape (WholeClass s) finals class lock c = c
  itself_by shape (AtLocal k) finals class lock c = in_first lock []

  named_by : (shape : Shape) (root : Root) (finals : List ℕ) (class : ℕ) (lock l : Lock) →
      Contains (locks_from root finals class shape locals) lock → Contains (stood_by shape root class lock) l →
      Contains (locks_from root finals class shape locals) l
  named_by shape GlobalLock finals class lock l c d =
      subst (Contains (locks_from GlobalLock finals class shape locals)) (one_contained lock l d) c
  named_by shape (WholeClass s) finals class lock l c d = d
  named_by shape (AtLocal k) finals class lock l c d =
      subst (Contains (locks_from (AtLocal k) finals class shape locals)) (one_contained lock l d) c

  -- ---- by the number of the path

  -- a note stands for its lock, too
  pub itself : (k : ℕ) (lock : Lock) → Contains (locks k) lock → Contains (stood k lock) lock
  itself k lock c = by (slice_get paths k) c where
    by : (o : Option LockPath) → Contains (option_map_or (λ (p : LockPath). locks_named p program.shape locals) o []) lock →
        Contains (option_map_or (λ (p : LockPath). stood_by program.shape p.root p.class lock) o []) lock
    by None c = absurd (not_in_none lock c)
    by (Some p) c = itself_by program.shape p.root p.finals p.class lock c

  -- and for locks that its path names
  pub stood_named : (k : ℕ) (lock l : Lock) → Contains (locks k) lock → Contains (stood k lock) l → Contains (locks k) l
  stood_named k lock l c d = by (slice_get paths k) c d where
    by : (o : Option LockPath) → Contains (option_map_or (λ (p : LockPath). locks_named p program.shape locals) o []) lock →
        Contains (option_map_or (λ (p : LockPath). stood_by program.shape p.root p.class lock) o []) l →
        Contains (option_map_or (λ (p : LockPath). locks_named p program.shape locals) o []) l
    by None c d = absurd (not_in_none lock c)
    by (Some p) c d = named_by program.shape p.root p.finals p.class lock l c d

  module _ (k : ℕ) (path : LockPath) (here : slice_get paths k ≡ Some path) where
    -- of a path that isn't a whole class
    pub stood_single : (IsWhole path.root → ⊥) → (lock : Lock) → stood k lock ≡ lock ∷ []
    stood_single not lock =
        ap (λ o. option_map_or (λ (p : LockPath). stood_by program.shape p.root p.class lock) o []) here
        ∙ stood_one program.shape path.root path.class lock not

    locks_here : locks k ≡ locks_named path program.shape locals
    locks_here = ap (λ o. option_map_or (λ (p : LockPath). locks_named p program.shape locals) o []) here

    pub locks_single : (IsWhole path.root → ⊥) → locks k ≡ one_or_none (first_of (locks k))
    locks_single not =
        locks_here ∙ locks_one path.root path.finals path.class program.shape not
        ∙ ap (λ ls. one_or_none (first_of ls)) (sym locks_here)

    pub addresses_single : (IsWhole path.root → ⊥) → (p : Pointer) → address_at program section locals k ≡ Some p →
        addresses_at program section locals k ≡ Some (p ∷ [])
    addresses_single not p e =
        let is : address program.shape locals path ≡ Some p =
        sym (ap (λ (o : Option LockPath). lookup o (address program.shape locals)) here) ∙ e in
        ap (λ (o : Option LockPath). lookup o (addresses program.shape locals)) here
        ∙ addresses_one program.shape path.root path not ∙ ap (option_map (λ (q : Pointer). q ∷ [])) is

    -- of a whole class
    module _ (s : ℕ) (whole : path.root ≡ WholeClass s) where
      pub locks_whole : locks k ≡ locks_of program.shape path.class s
      locks_whole = locks_here ∙ ap (λ r. locks_from r path.finals path.class program.shape locals) whole

      pub stood_whole : (lock : Lock) → stood k lock ≡ locks_of program.shape path.class s
      stood_whole lock =
          ap (λ o. option_map_or (λ (p : LockPath). stood_by program.shape p.root p.class lock) o []) here
          ∙ ap (λ r. stood_by program.shape r path.class lock) whole

      pub addresses_whole : addresses_at program section locals k
          ≡ Some (map (λ (l : Lock). Some l) (locks_of program.shape path.class s))
      addresses_whole =
          ap (λ (o : Option LockPath). lookup o (addresses program.shape locals)) here
          ∙ ap (λ r. addresses_by program.shape locals r path) whole

  -- ---- what a note stands for

  pub record Noted (notes : List Pointer) (k : ℕ) (l : Lock) : Type 0 where
    pub lock : Lock
    pub here : slice_get notes k ≡ Some (Some lock)
    pub stands : Contains (stood k lock) l

  pub noted_back : (notes : List Pointer) (k : ℕ) (l : Lock) → Contains (noted_at program section notes k) l → Noted notes k l
  noted_back notes k l c = by (slice_get notes k) refl c where
    by : (o : Option Pointer) → slice_get notes k ≡ o → Contains (had (stood k) o) l → Noted notes k l
    by None e c = absurd (not_in_none l c)
    by (Some None) e c = absurd (not_in_none l c)
    by (Some (Some lock)) e c = record { lock = lock; here = e; stands = c }

  pub noted_there : (notes : List Pointer) (k : ℕ) (lock l : Lock) → slice_get notes k ≡ Some (Some lock) →
      Contains (stood k lock) l → Contains (noted_at program section notes k) l
  noted_there notes k lock l e c = subst (λ xs. Contains xs l) (sym (ap (had (stood k)) e)) c
