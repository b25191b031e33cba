-- The distances of classes from a target. Nobody has to believe these: `Ranks` defines cycles.
use Rattle.std.specs.Prelude.{◌≡◌, ◌≢◌, ◌⊎◌, ◌<◌, ◌≤◌, nat_le, if◌then◌else◌, ℕ, List, length, slice_get}
use Rattle.std.specs.Prelude.{slice_index_or, MatchOption, Option, Some, None}
use Rattle.std.specs.List.{All, AllPairs, Contains}
use Rattle.bit_set.specs.declared.set.BitSet.{BitSet}
use Rattle.lockorder.specs.declared.cycles.Reached.{Reached}
use Rattle.lockorder.specs.Working.Tables.{InTable}

abbrev pub distance_of : List (Option ℕ) → ℕ → Option ℕ
distance_of distances c = slice_index_or distances c None

abbrev pub HasDistance : List (Option ℕ) → ℕ → Type 0
HasDistance distances c = (k : ℕ) × (distance_of distances c ≡ Some k)

-- an edge leads from the class to one of a lesser distance
abbrev pub LeadsNearer : List BitSet → List (Option ℕ) → ℕ → ℕ → Type 0
LeadsNearer before distances c k = (d m : ℕ) × InTable before c d × (distance_of distances d ≡ Some m) × (m < k)

-- all classes that must precede the class have a distance
abbrev pub IsDone : List BitSet → List (Option ℕ) → ℕ → Type 0
IsDone before distances c = (b : ℕ) → InTable before b c → HasDistance distances b

-- an invariant: the target has distance 0, and from each other class with a distance an edge leads nearer
pub record AreReached (before : List BitSet) (r : Reached) : Type 0 where
  pub long : length r.distances.items ≡ length before
  pub target : distance_of r.distances.items r.target ≡ Some 0
  pub nearer : (c k : ℕ) → distance_of r.distances.items c ≡ Some k →
      (c ≡ r.target) ⊎ LeadsNearer before r.distances.items c k
  pub listed : (c : ℕ) → HasDistance r.distances.items c → Contains r.classes.items c
  pub known : All (HasDistance r.distances.items) r.classes.items
  pub small : (c k : ℕ) → distance_of r.distances.items c ≡ Some k → k < length r.classes.items
  pub distinct : AllPairs ◌≢◌ r.classes.items

-- each class that had a distance keeps it, and its place in the list
pub record KeepsReached (old new : Reached) : Type 0 where
  pub target : new.target ≡ old.target
  pub distances : (c k : ℕ) → distance_of old.distances.items c ≡ Some k → distance_of new.distances.items c ≡ Some k
  pub classes : (i c : ℕ) → slice_get old.classes.items i ≡ Some c → slice_get new.classes.items i ≡ Some c

-- the final state: all classes from which edges lead to the target have a distance
pub record AreDistances (before : List BitSet) (r : Reached) : Type 0 where
  pub reached : AreReached before r
  pub all : (c : ℕ) → HasDistance r.distances.items c → IsDone before r.distances.items c

-- the nearest class below a bound to which an edge leads from the class, with its distance
abbrev pub IsNearestBelow : List BitSet → List (Option ℕ) → ℕ → ℕ → Option (ℕ × ℕ) → Type 0
IsNearestBelow before distances c bound nearest =
    MatchOption nearest ((d k : ℕ) → d < bound → InTable before c d → distance_of distances d ≡ Some k → ⊥)
    (λ x. InTable before c x.0 × (distance_of distances x.0 ≡ Some x.1)
    × ((d k : ℕ) → d < bound → InTable before c d → distance_of distances d ≡ Some k → x.1 ≤ k))

-- the nearer of a class with its distance and the one found before it
abbrev pub nearer : Option (ℕ × ℕ) → ℕ → ℕ → Option (ℕ × ℕ)
nearer None c k = Some (c, k)
nearer (Some x) c k = if nat_le x.1 k then Some x else Some (c, k)

-- the nearest class to which an edge leads from the class, with its distance
abbrev pub IsNearest : List BitSet → Reached → ℕ → Option (ℕ × ℕ) → Type 0
IsNearest before r c nearest = IsNearestBelow before r.distances.items c (length before) nearest
