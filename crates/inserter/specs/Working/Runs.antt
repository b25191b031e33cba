-- The run of a section reduced to its locks: the locks that it asks for and holds, and the points that it comes to.
use Rattle.std.specs.Prelude.{◌≡◌, ◌⊎◌, ℕ, List, [], ◌∷◌, ◌++◌, length, slice_get, Some}
use Rattle.std.specs.List.{Contains}
use Rattle.core_lang.specs.declared.value.Value.{Value}
use Rattle.core_lang.specs.declared.tree.Section.{Section}
use Rattle.core_lang.specs.declared.typed.Typed.{Typed}
use Rattle.flow.specs.Skeletons.{skeleton}
use Rattle.flow.specs.Flow.{Follows}
use Rattle.flow.specs.Points.{points}
use Rattle.locks.specs.declared.lock.Lock.{Lock}
use Rattle.locks.specs.LockPaths.{LockPath, locks_named, Names, Uses, BindsRoot}
use Rattle.locks.specs.Order.{Precedes}
use Rattle.points.specs.Wanted.{IsWanted}
use Rattle.inserter.specs.Placement.{IsPath, IsDue}

-- allowed lists before the points of a section: they have only paths that are wanted there, and all that are due. The
-- lists of a placement are such, and so are lists of all wanted paths
pub record AreAllowed (program : Typed) (section : Section) (ranks : List ℕ) (lists : List (List ℕ)) : Type 0 where
  pub long : length lists ≡ length (points section)
  pub only : (p i : ℕ) (list : List ℕ) → slice_get lists p ≡ Some list → Contains list i →
      (path : LockPath) × IsPath program section i path × IsWanted program section ranks p path
  pub all : (p i : ℕ) (list : List ℕ) (path : LockPath) → slice_get lists p ≡ Some list →
      IsPath program section i path →
      IsDue program section ranks p path → Contains list i

module _ (program : Typed) (section : Section) (ranks : List ℕ) (lists : List (List ℕ)) where
  -- a path that is listed before the point names the lock, given the values of the locals; a path with a null root
  -- names none
  pub record IsListed (p : ℕ) (locals : List Value) (lock : Lock) : Type 0 where
    pub list : List ℕ
    pub number : ℕ
    pub path : LockPath
    pub here : slice_get lists p ≡ Some list
    pub listed : Contains list number
    pub is_path : IsPath program section number path
    pub named : Names path program.shape locals lock

  -- the first of the listed locks that are not held
  pub record Asks (p : ℕ) (locals : List Value) (held : List Lock) (lock : Lock) : Type 0 where
    pub listed : IsListed p locals lock
    pub new : Contains held lock → ⊥
    pub first : (other : Lock) → IsListed p locals other → (Contains held other → ⊥) →
        (other ≡ lock) ⊎ Precedes ranks lock other

  -- each lock path of the section names what it named, unless the point binds its root
  abbrev pub Keeps : ℕ → List Value → List Value → Type 0
  Keeps p before after =
      (user : ℕ) (path : LockPath) → Uses program section user path → (BindsRoot section p path → ⊥) →
      locks_named path program.shape after ≡ locks_named path program.shape before

  -- a run has come to the point with these values of the locals, and holds these locks
  pub data Run : ℕ → List Value → List Lock → Type 0 where
    -- it begins at the first point, with any values, and holds nothing
    begins : {locals : List Value} → Run 0 locals []
    -- it is granted a lock that it asks for
    gets : {p : ℕ} {locals : List Value} {held : List Lock} {lock : Lock} → Run p locals held →
        Asks p locals held lock →
        Run p locals (held ++ lock ∷ [])
    -- if it holds all listed locks, it executes the point and goes on to one that follows. Used paths whose roots the
    -- point does not bind keep naming the same locks; all else may change
    goes : {p q : ℕ} {locals after : List Value} {held : List Lock} → Run p locals held →
        ((lock : Lock) → IsListed p locals lock → Contains held lock) → Keeps p locals after → Follows (skeleton section) p q →
        Run q after held

  -- the points that a run has executed, the latest first
  abbrev pub executed : {p : ℕ} {locals : List Value} {held : List Lock} → Run p locals held → List ℕ
  executed begins = []
  executed (gets run asks) = executed run
  executed (goes {p} run all keeps follows) = p ∷ executed run
