-- Which lock classes must precede which.
use Rattle.std.specs.Prelude.{◌≡◌, ◌⊎◌, ◌≤◌, ℕ, List, length, slice_get, Some}
use Rattle.core_lang.specs.declared.tree.Section.{Section}
use Rattle.core_lang.specs.declared.typed.Typed.{Typed}
use Rattle.flow.specs.Skeletons.{skeleton}
use Rattle.flow.specs.Flow.{Before}
use Rattle.locks.specs.LockPaths.{LockPath, Uses, BindsRoot}
use Rattle.lockorder.specs.Ranks.{AreRanks, Rise}

-- the section's point of this number uses a lock of the class
abbrev pub UsesClass : Typed → Section → ℕ → ℕ → Type 0
UsesClass program section p class = (path : LockPath) × Uses program section p path × (path.class ≡ class)

-- the section's point of this number binds the root of a path of the class, which some point uses
abbrev pub BindsClass : Typed → Section → ℕ → ℕ → Type 0
BindsClass program section p class =
    (path : LockPath) × (user : ℕ) × Uses program section user path × BindsRoot section p path × (path.class ≡ class)

-- the section of this number makes the edge from class c to class d by a use and a binding: the point `used` uses a
-- lock of class c, and is the point `bound` or comes before it, which binds the root of a path of class d
pub record Makes (program : Typed) (number used bound c d : ℕ) : Type 0 where
  pub section : Section
  pub here : slice_get program.sections.items number ≡ Some section
  pub uses : UsesClass program section used c
  pub binds : BindsClass program section bound d
  pub order : (used ≡ bound) ⊎ Before (skeleton section) used bound

-- these are the first that make the edge: no lower section does, in this section no lower use does, and with this use
-- no lower binding
pub record MakesFirst (program : Typed) (number used bound c d : ℕ) : Type 0 where
  pub makes : Makes program number used bound c d
  pub lowest_section : (n u b : ℕ) → Makes program n u b c d → number ≤ n
  pub lowest_use : (u b : ℕ) → Makes program number u b c d → used ≤ u
  pub lowest_binding : (b : ℕ) → Makes program number used b c d → bound ≤ b

-- locks of class c must be acquired before those of class d
abbrev pub Edge : Typed → ℕ → ℕ → Type 0
Edge program c d = (number used bound : ℕ) × Makes program number used bound c d

-- for each class of the program its place in the rank list
abbrev pub AreRanksOf : Typed → List ℕ → Type 0
AreRanksOf program ranks = AreRanks (Edge program) (length program.classes.items) ranks

-- locks that must be acquired before others have a lower rank
abbrev pub RiseIn : Typed → List ℕ → Type 0
RiseIn program ranks = Rise (Edge program) ranks
