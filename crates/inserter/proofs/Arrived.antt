-- What holds when a run comes to a point, before it asks for a lock there; it holds at the begin of a run.
use Rattle.std.proofs.Common.{◌≡◌, ℕ, ◌<◌, List, [], ◌⊎◌}
use Rattle.std.specs.Prelude.{slice_index}
use Rattle.std.specs.List.{Contains}
use Rattle.core_lang.specs.declared.value.Value.{Value}
use Rattle.core_lang.specs.declared.tree.Section.{Section}
use Rattle.core_lang.specs.declared.typed.Typed.{Typed}
use Rattle.flow.specs.Skeletons.{skeleton}
use Rattle.flow.specs.Flow.{Before}
use Rattle.flow.specs.Walks.{Walk, begin}
use Rattle.locks.specs.declared.lock.Lock.{Lock}
use Rattle.locks.specs.LockPaths.{LockPath, Names, Uses, IsInScope, BindsRoot}
use Rattle.points.specs.Used.{IsUsedLater}
use Rattle.points.specs.Wanted.{rank_of, IsTaken, IsSurelyHeld}
use Rattle.core_lang.specs.Theory.Items.{not_in_none}

module _ (program : Typed) (section : Section) (ranks : List ℕ) where
  -- all locks of the list are of lesser ranks than the path
  abbrev pub AreBelow : List Lock → LockPath → Type 0
  AreBelow held path = (h : Lock) → Contains held h → slice_index ranks h.class < rank_of ranks path

  -- some point uses a path that names the lock
  pub record HasPath (locals : List Value) (lock : Lock) : Type 0 where
    pub path : LockPath
    pub user : ℕ
    pub uses : Uses program section user path
    pub named : Names path program.shape locals lock

  pub record Arrived (p : ℕ) (locals : List Value) (held : List Lock) : Type 0 where
    pub walk : (ps : List ℕ) × Walk (skeleton section) ps p
    -- if a lock of a path that is in scope, and used here or later, isn't held, then all held ones are below
    pub free : (path : LockPath) (l : Lock) → IsInScope section p path →
        Uses program section p path ⊎ IsUsedLater program section p path →
        Names path program.shape locals l → (Contains held l → ⊥) → AreBelow held path
    -- all held ones are below a path whose root is bound here or later
    pub later : (path : LockPath) (user b : ℕ) → Uses program section user path → BindsRoot section b path →
        (p ≡ b) ⊎ Before (skeleton section) p b → AreBelow held path
    -- the locks of surely held paths are held
    pub sure : (path : LockPath) (l : Lock) → IsSurelyHeld program section ranks p path →
        Names path program.shape locals l → Contains held l
    pub of_path : (h : Lock) → Contains held h → HasPath locals h

  not_taken : (path : LockPath) → IsTaken program section ranks path [] → ⊥
  not_taken path t = elim t [ ]

  pub starts : (locals : List Value) → Arrived 0 locals []
  starts locals = record {
    walk = ([], begin);
    free = λ path l scope ahead e new h c. absurd (not_in_none h c);
    later = λ path user b u binds order h c. absurd (not_in_none h c);
    sure = λ path l surely e. absurd (not_taken path (surely [] begin));
    of_path = λ h c. absurd (not_in_none h c);
  }
