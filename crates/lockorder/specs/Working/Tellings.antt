-- The edges between classes that are noted so far. Nobody has to believe these: `Edges` defines what makes an edge.
use Rattle.std.specs.Prelude.{◌≡◌, ◌⊎◌, ◌*◌, ◌+◌, ◌<◌, ℕ, List, [], ◌∷◌, map, slice_index_or, MatchOption, Option, Some}
use Rattle.std.specs.Prelude.{None, IsSome}
use Rattle.std.specs.List.{All, AllPairs, Contains}
use Rattle.core_lang.specs.declared.typed.Typed.{Typed}
use Rattle.points.specs.declared.table.Points.{Points}
use Rattle.bit_set.specs.declared.set.BitSet.{BitSet}
use Rattle.lockorder.specs.declared.ranks.ClassPair.{ClassPair}
use Rattle.lockorder.specs.declared.ranks.Edge.{Edge}
use Rattle.lockorder.specs.declared.telling.Usage.{Usage}
use Rattle.lockorder.specs.ClassPairs.{Precedes}
use Rattle.lockorder.specs.Edges as program_edges
use Rattle.lockorder.specs.Edges.{Makes, MakesFirst}
use Rattle.lockorder.specs.Faults.{second}
use Rattle.lockorder.specs.Working.Tables.{InTable}
use Rattle.lockorder.specs.Working.Sections.{UsesAt, MakesAt, MakesFirstAt, IsFirstBehind, IsNotBehind}

-- the edge noted from class c to class d, in rows of 128 for each class
abbrev pub told_at : List (Option Edge) → ℕ → ℕ → Option Edge
told_at told c d = slice_index_or told (128 * c + d) None

abbrev pub told_pair : List (Option Edge) → ℕ × ℕ → Option Edge
told_pair told pair = told_at told pair.0 pair.1

-- a noted edge stays; otherwise an edge with this property was noted, or none was and this holds
abbrev pub IsToldOr : (Option Edge → Type 0) → Type 0 → Option Edge → Option Edge → Type 0
IsToldOr IsTold Lacks (Some e) new = new ≡ Some e
IsToldOr IsTold Lacks None new = IsTold new ⊎ ((new ≡ None) × Lacks)

-- the same for each two of the given number of classes
abbrev pub EachIsToldOr : ℕ → (ℕ → ℕ → Option Edge → Type 0) → (ℕ → ℕ → Type 0) → List (Option Edge) → List (Option Edge) → Type 0
EachIsToldOr classes IsTold Lacks old new =
    (c d : ℕ) → c < classes → d < classes → IsToldOr (IsTold c d) (Lacks c d) (told_at old c d) (told_at new c d)

-- the edge is noted for this section, with the use and binding that make it there first
abbrev pub IsToldHere : Points → ℕ → ℕ → ℕ → Option Edge → Type 0
IsToldHere x section c d told =
    (used bound : ℕ) × (told ≡ Some (record { class = c; section = section; used = used; bound = bound })) × MakesFirstAt x c d used bound

abbrev pub AreToldMore : Points → ℕ → ℕ → List (Option Edge) → List (Option Edge) → Type 0
AreToldMore x section classes old new =
    EachIsToldOr classes (IsToldHere x section) (λ c d. (used bound : ℕ) → MakesAt x c d used bound → ⊥) old new

-- the edge is noted with a use at this point and the lowest binding at it or after it
abbrev pub IsToldAt : Points → ℕ → ℕ → ℕ → ℕ → Option Edge → Type 0
IsToldAt x section point c d told =
    (bound : ℕ) × (told ≡ Some (record { class = c; section = section; used = point; bound = bound })) × UsesAt x point c × IsFirstBehind x point d bound

abbrev pub TellsPoint : Points → ℕ → ℕ → ℕ → List (Option Edge) → List (Option Edge) → Type 0
TellsPoint x section point classes old new =
    EachIsToldOr classes (IsToldAt x section point) (λ c d. UsesAt x point c → IsNotBehind x point d) old new

-- the edge is noted with this use and the lowest binding at its point or after it
abbrev pub IsToldBy : Points → Usage → ℕ → ℕ → Option Edge → Type 0
IsToldBy x usage c d told =
    (c ≡ usage.class) × ((bound : ℕ)
    × (told ≡ Some (record { class = usage.class; section = usage.section; used = usage.point; bound = bound })) × IsFirstBehind x usage.point d bound)

abbrev pub TellsClass : Points → Usage → ℕ → List (Option Edge) → List (Option Edge) → Type 0
TellsClass x usage classes old new =
    EachIsToldOr classes (IsToldBy x usage) (λ c d. c ≡ usage.class → IsNotBehind x usage.point d) old new

abbrev pub TellsPair : Points → Usage → ℕ → ℕ → List (Option Edge) → List (Option Edge) → Type 0
TellsPair x usage next classes old new =
    EachIsToldOr classes (IsToldBy x usage) (λ c d. c ≡ usage.class → d ≡ next → IsNotBehind x usage.point d) old new

-- ---- by the program

-- none of the given number of sections makes the edge
abbrev pub IsNotMade : Typed → ℕ → ℕ → ℕ → Type 0
IsNotMade program sections c d = (k used bound : ℕ) → k < sections → Makes program k used bound c d → ⊥

-- a noted edge has the use and binding that make it first; if none is noted, none of the given number of sections makes
-- one
abbrev pub IsTold : Typed → ℕ → ℕ → ℕ → Option Edge → Type 0
IsTold program sections c d told =
    MatchOption told (IsNotMade program sections c d) (λ e. (e.class ≡ c) × MakesFirst program e.section e.used e.bound c d)

-- the same for each two of the given number of classes
abbrev pub AreTold : Typed → ℕ → ℕ → List (Option Edge) → Type 0
AreTold program sections classes told =
    (c d : ℕ) → c < classes → d < classes → IsTold program sections c d (told_at told c d)

-- each pair is one of the program's edges
abbrev pub AreEdges : Typed → List (ℕ × ℕ) → Type 0
AreEdges program pairs = All (λ (pair : ℕ × ℕ). program_edges.Edge program pair.0 pair.1) pairs

-- ---- pairs

-- the pairs of each class with the next one, and of the last with this class
abbrev pub around : ℕ → List ℕ → List (ℕ × ℕ)
around first [] = []
around first (c ∷ rest) = (c, second first rest) ∷ around first rest

-- the pairs lead between the given number of classes
abbrev pub AreBetween : ℕ → List (ℕ × ℕ) → Type 0
AreBetween classes pairs = All (λ (pair : ℕ × ℕ). (pair.0 < classes) × (pair.1 < classes)) pairs

-- the pairs with an edge in the table, in rising order
pub record ArePairsOf (before : List BitSet) (pairs : List (ℕ × ℕ)) : Type 0 where
  pub true : All (λ (pair : ℕ × ℕ). InTable before pair.0 pair.1) pairs
  pub rising : AllPairs Precedes pairs
  pub all : (c d : ℕ) → InTable before c d → Contains pairs (c, d)

-- an edge is noted for each pair
abbrev pub AreAllTold : List (Option Edge) → List (ℕ × ℕ) → Type 0
AreAllTold told pairs = All (λ (pair : ℕ × ℕ). IsSome (told_pair told pair)) pairs

-- the edge noted for each pair, with the class to which it leads
pub record AreClosed (pairs : List (ℕ × ℕ)) (told : ℕ × ℕ → Option Edge) (closed : List ClassPair) : Type 0 where
  pub edges : map (λ (pair : ClassPair). Some pair.edge) closed ≡ map told pairs
  pub nexts : map (λ (pair : ClassPair). pair.next) closed ≡ map (λ (pair : ℕ × ℕ). pair.1) pairs
