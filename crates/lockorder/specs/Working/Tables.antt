-- Edges between classes as a table. Nobody has to believe these: `Edges` defines the edges.
use Rattle.std.specs.Prelude.{◌≡◌, ◌⊎◌, ◌==◌, ◌&&◌, ◌||◌, ◌<◌, ℕ, Bool, true, List, length, slice_index_or}
use Rattle.std.specs.Prelude.{MatchOption, Option, Vec}
use Rattle.std.specs.Bool.{Decides}
use Rattle.std.proofs.Common.{Global}
use Rattle.flow.specs.Flow.{Plus}
use Rattle.bit_set.specs.declared.set.BitSet.{BitSet}
use Rattle.bit_set.specs.Working.Sets.{has_number}
use Rattle.lockorder.specs.Ranks.{IsReady, IsNext, AreRanks, IsCycle}

-- ---- sets

abbrev pub InSet : BitSet → ℕ → Type 0
InSet set c = has_number set c ≡ true

abbrev pub no_classes : BitSet
no_classes = record { bits = 0 }

-- ---- tables: for each class the set of those that must precede it

-- the table has an edge from c to d
abbrev pub has_edge : List BitSet → ℕ → ℕ → Bool
has_edge before c d = has_number (slice_index_or before d no_classes) c

abbrev pub InTable : List BitSet → ℕ → ℕ → Type 0
InTable before c d = has_edge before c d ≡ true

-- all edges lead from classes of the table
abbrev pub LeadsWithin : List BitSet → Type 0
LeadsWithin before = (c d : ℕ) → InTable before c d → c < length before

-- one or more edges lead from the class to itself
abbrev pub IsOnCycle : List BitSet → ℕ → Type 0
IsOnCycle before c = Plus (InTable before) c c

abbrev pub HasCycle : List BitSet → Type 0
HasCycle before = (c : ℕ) × (c < length before) × IsOnCycle before c

abbrev pub IsReadyIn : List BitSet → BitSet → ℕ → Type 0
IsReadyIn before listed c = IsReady (InTable before) (length before) (InSet listed) c

abbrev pub IsNextIn : List BitSet → BitSet → ℕ → Type 0
IsNextIn before listed c = IsNext (InTable before) (length before) (InSet listed) c

abbrev pub AreRanksIn : List BitSet → List ℕ → Type 0
AreRanksIn before ranks = AreRanks (InTable before) (length before) ranks

-- the next class, or none if no class is ready
abbrev pub IsNextOrNone : List BitSet → BitSet → Option ℕ → Type 0
IsNextOrNone before listed next = MatchOption next ((c : ℕ) → IsReadyIn before listed c → ⊥) (IsNextIn before listed)

-- ranks, or none if some class is on a cycle
abbrev pub IsRanking : List BitSet → Option (Vec ℕ Global) → Type 0
IsRanking before ranks = MatchOption ranks (HasCycle before) (λ r. AreRanksIn before r.items)

-- a cycle, or none if the class is not on one
abbrev pub IsCycleThrough : List BitSet → ℕ → Option (Vec ℕ Global) → Type 0
IsCycleThrough before c cycle = MatchOption cycle (IsOnCycle before c → ⊥) (λ list. IsCycle (InTable before) list.items)

-- ---- added edges

-- the table has exactly the edges of a relation
abbrev pub HasEdgesOf : List BitSet → (ℕ → ℕ → Type 0) → Type 0
HasEdgesOf before R = (c d : ℕ) → Decides (has_edge before c d) (R c d)

-- the table has the edges that it had, and those of a relation
abbrev pub AddsEdges : List BitSet → List BitSet → (ℕ → ℕ → Type 0) → Type 0
AddsEdges old new R = HasEdgesOf new (λ c d. InTable old c d ⊎ R c d)

-- an edge was added from each class of a set to one class
abbrev pub AddsEach : List BitSet → List BitSet → BitSet → ℕ → Type 0
AddsEach old new from to = (c d : ℕ) → has_edge new c d ≡ (has_edge old c d || (d == to && has_number from c))
