-- The wanted paths in terms of the ranks of paths, by number. Nobody has to believe these: `Wanted` defines them.
use Rattle.std.specs.Prelude.{◌≡◌, ◌<◌, ◌≤◌, ◌↔◌, ◌⊎◌, ◌&&◌, ℕ, true, not, nat_lt, List, map, length, slice_index}
use Rattle.std.specs.Prelude.{Option, Some, None}
use Rattle.std.specs.Bool.{Decides}
use Rattle.std.proofs.Common.{get_or}
use Rattle.locks.specs.declared.path_set.PathSet.{PathSet}
use Rattle.locks.specs.Sets.{has}
use Rattle.points.specs.declared.table.Points.{Points}

-- one of the first n paths is in a set and has this rank or a greater one
abbrev pub IsReached : List ℕ → PathSet → ℕ → ℕ → Type 0
IsReached ranks used n rank = (j : ℕ) × (j < n) × (has used j ≡ true) × (rank ≤ slice_index ranks j)

-- a rank is at most the greatest one, if there is a greatest
abbrev pub IsWithin : ℕ → Option ℕ → Type 0
IsWithin rank None = ⊥
IsWithin rank (Some greatest) = rank ≤ greatest

-- the greatest rank of those of the first n paths that are in a set
abbrev pub IsGreatest : List ℕ → PathSet → ℕ → Option ℕ → Type 0
IsGreatest ranks used n greatest = (rank : ℕ) → IsWithin rank greatest ↔ IsReached ranks used n rank

-- path i is in scope, used here or later, and its rank is at most that of some path that is used here
abbrev pub IsWantedBy : List ℕ → PathSet → PathSet → PathSet → ℕ → Type 0
IsWantedBy ranks used later scope i =
    (has scope i ≡ true) × ((has used i ≡ true) ⊎ (has later i ≡ true)) × IsReached ranks used (length ranks) (slice_index ranks i)

-- the set of the paths of at most this rank
abbrev pub AreUpTo : List ℕ → ℕ → PathSet → Type 0
AreUpTo ranks greatest set = (i : ℕ) → has set i ≡ (nat_lt i (length ranks) && not (nat_lt greatest (slice_index ranks i)))

-- the set of the wanted paths
abbrev pub IsWantedSet : List ℕ → PathSet → PathSet → PathSet → PathSet → Type 0
IsWantedSet ranks used later scope set = (i : ℕ) → i < length ranks → Decides (has set i) (IsWantedBy ranks used later scope i)

-- the ranks of a section's paths
abbrev pub ranks_by_path : Points → List ℕ → List ℕ
ranks_by_path x ranks = map (slice_index ranks) x.classes.items

abbrev pub set_at : List PathSet → ℕ → PathSet
set_at sets p = get_or sets p (record { bits = 0 })

-- the first n points have their sets of wanted paths
abbrev pub AreWantedBy : Points → List ℕ → ℕ → List PathSet → Type 0
AreWantedBy x ranks n sets =
    (p i : ℕ) → p < n → i < length ranks → Decides (has (set_at sets p) i)
    (IsWantedBy ranks (set_at x.used.items p) (set_at x.used_later.items p) (set_at x.in_scope.items p) i)
