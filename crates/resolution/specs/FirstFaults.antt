-- The first faults of names and types of a program, which are reported together. They are ordered by place and code
-- alone.
use Rattle.std.specs.Prelude.{◌≡◌, ℕ, Bool, ◌≤◌, ◌⊎◌, length, true, false, List, [], ◌∷◌}
use Rattle.source.specs.declared.fault.Code.{Code}
use Rattle.source.specs.declared.mistake.Mistake.{Mistake}
use Rattle.source.specs.Mistakes.{goes_before}
use Rattle.syntax.specs.Trees.{Decl}
use Rattle.core_lang_helpers.specs.Faults.{IsGraphFault}
use Rattle.resolution.specs.declared.finding.Finding.{Finding}
use Rattle.resolution.specs.CallGraphs.{tree_graph}
use Rattle.resolution.specs.Faults.{IsFault, IsFaultFor}

-- the code and place of a fault, without its reason
abbrev pub mistake_of : Finding → Mistake
mistake_of f = record { code = f.code; start = f.start }

-- the first fault comes before the second
abbrev pub goes_ahead : Finding → Finding → Bool
goes_ahead f g = goes_before (mistake_of f) (mistake_of g)

-- the most faults that are kept
abbrev pub MOST : ℕ
MOST = 20

-- the first faults, ordered by place and code, and whether more were found
pub record Firsts : Type 0 where
  pub kept : List Finding
  pub more : Bool

-- one of the findings has this code and place
abbrev pub IsAmong : Mistake → List Finding → Type 0
IsAmong f [] = ⊥
IsAmong f (g ∷ gs) = (f ≡ mistake_of g) ⊎ IsAmong f gs

-- the fault is one of the list
abbrev pub IsOneOf : Finding → List Finding → Type 0
IsOneOf f [] = ⊥
IsOneOf f (g ∷ gs) = (f ≡ g) ⊎ IsOneOf f gs

-- the fault precedes each fault of the list
abbrev pub GoesAheadOfAll : Finding → List Finding → Type 0
GoesAheadOfAll f [] = Unit {0}
GoesAheadOfAll f (g ∷ gs) = (goes_ahead f g ≡ true) × GoesAheadOfAll f gs

-- each fault of the list precedes the fault
abbrev pub AllGoAhead : List Finding → Finding → Type 0
AllGoAhead [] f = Unit {0}
AllGoAhead (g ∷ gs) f = (goes_ahead g f ≡ true) × AllGoAhead gs f

-- the faults rise: each precedes all after it in the list
abbrev pub Rises : List Finding → Type 0
Rises [] = Unit {0}
Rises (f ∷ fs) = GoesAheadOfAll f fs × Rises fs

-- at most twenty faults of a program, ordered by place and code
pub record AreFirstFaults (decls : List Decl) (s : Firsts) : Type 0 where
  -- each is a fault for the reason that it has
  pub faults : (f : Finding) → IsOneOf f s.kept → IsFaultFor decls f.code f.start f.why
  pub rising : Rises s.kept
  pub few : length s.kept ≤ MOST
  -- if no more were found, each fault of the program that is not a fault of calls is in the list
  pub whole : s.more ≡ false → (code : Code) (start : ℕ) → IsFault decls code start →
      IsGraphFault (tree_graph decls) code start ⊎ IsAmong (record { code = code; start = start }) s.kept
  -- if more were found, these are twenty, and some fault comes after them
  pub full : s.more ≡ true → length s.kept ≡ MOST
  pub further : s.more ≡ true → (f : Finding) × IsFaultFor decls f.code f.start f.why × AllGoAhead s.kept f
