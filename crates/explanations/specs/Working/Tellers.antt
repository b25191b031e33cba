-- What this crate's functions find. It mirrors the code: nobody has to believe it.
use Rattle.std.specs.Prelude.{◌≡◌, ℕ, ◌==◌, Bool, true, false, List, [], ◌∷◌, ◌++◌, map, slice_get, Option, Some, None}
use Rattle.core_lang.specs.declared.tree.Section.{Section}
use Rattle.core_lang.specs.declared.typed.Typed.{Typed}
use Rattle.explanation.specs.declared.note.Note as written
use Rattle.explanation.specs.Notes.{Note, note_of}
use Rattle.locks.specs.declared.path.Root.{Root}
use Rattle.locks.specs.declared.path.Root.TheVariants.{GlobalLock, WholeClass, Local as AtLocal}
use Rattle.locks.specs.LockPaths.{LockPath, Uses, BindsRoot, lock_paths}
use Rattle.lockorder.specs.declared.ranks.ClassPair.{ClassPair}
use Rattle.lockorder.specs.declared.ranks.Edge.{Edge}
use Rattle.lockorder.specs.Edges.{MakesFirst}
use Rattle.explanations.specs.declared.cycle_teller.CycleWriter.{CycleWriter}
use Rattle.explanations.specs.CycleNotes.{said, TellsEdge, TellsWayOut}
use Rattle.explanations.specs.OrderNotes.{pair_note, TellPairs}

-- a path with this root begins at the local
abbrev pub begins : Root → Option ℕ → Bool
begins (AtLocal k) (Some local) = k == local
begins (AtLocal k) None = false
begins GlobalLock local = false
begins (WholeClass s) local = false

-- the section has a path of this number, which is of the class
pub record HasClass (program : Typed) (section : Section) (class i : ℕ) : Type 0 where
  pub path : LockPath
  pub listed : slice_get (lock_paths program section) i ≡ Some path
  pub of_class : path.class ≡ class

-- the same, and it begins at this local
pub record BeginsAt (program : Typed) (section : Section) (local : Option ℕ) (class i : ℕ) : Type 0 where
  pub path : LockPath
  pub listed : slice_get (lock_paths program section) i ≡ Some path
  pub begins : begins path.root local ≡ true
  pub of_class : path.class ≡ class

-- the section's path of this number is of the class, and the point uses it
pub record IsUsedPath (program : Typed) (section : Section) (p class i : ℕ) : Type 0 where
  pub path : LockPath
  pub listed : slice_get (lock_paths program section) i ≡ Some path
  pub uses : Uses program section p path
  pub of_class : path.class ≡ class

-- the same, where the point binds its root
pub record IsBoundPath (program : Typed) (section : Section) (p class i : ℕ) : Type 0 where
  pub path : LockPath
  pub listed : slice_get (lock_paths program section) i ≡ Some path
  pub binds : BindsRoot section p path
  pub of_class : path.class ≡ class

abbrev pub said_of : CycleWriter → LockPath → List ℕ → List ℕ
said_of x path words = said x.program.now x.section.now path words

-- the edge is made first by what it names
abbrev pub IsMade : Typed → Edge → ℕ → Type 0
IsMade program e next = MakesFirst program e.section e.used e.bound e.class next

-- the two notes on an edge, after the earlier notes
pub record AddsEdge (program : Typed) (e : Edge) (next : ℕ) (old new : List written.Note) : Type 0 where
  pub usage : Note
  pub binding : Note
  pub added : map note_of new ≡ map note_of old ++ usage ∷ binding ∷ []
  pub tells : TellsEdge program e next usage binding

-- the two notes on an edge and the note on a way out, after the earlier notes
pub record AddsWhole (program : Typed) (edge : Edge) (next : ℕ) (old new : List written.Note) : Type 0 where
  pub usage : Note
  pub binding : Note
  pub way : Note
  pub added : map note_of new ≡ map note_of old ++ usage ∷ binding ∷ way ∷ []
  pub tells : TellsEdge program edge next usage binding
  pub tells_way : TellsWayOut program edge way

-- the note on a pair of classes and the two notes on its edge, after the earlier notes
pub record AddsPair (program : Typed) (pair : ClassPair) (old new : List written.Note) : Type 0 where
  pub usage : Note
  pub binding : Note
  pub added : map note_of new ≡ map note_of old ++ pair_note program pair ∷ usage ∷ binding ∷ []
  pub tells : TellsEdge program pair.edge pair.next usage binding

-- and those on pairs
pub record AddsPairs (program : Typed) (pairs : List ClassPair) (old new : List written.Note) : Type 0 where
  pub told : List Note
  pub added : map note_of new ≡ map note_of old ++ told
  pub tell : TellPairs program pairs told
