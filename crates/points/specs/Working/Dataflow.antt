-- The results of the dataflow analyses over a section's parts, one path at a time. Nobody has to believe these: `Used`
-- defines what is used before a point and later, and `Wanted` what is surely held.
use Rattle.std.specs.Prelude.{◌≡◌, ◌<◌, ◌-◌, ℕ, Bool, false, List, [], ◌++◌, length, map, reverse}
use Rattle.std.specs.Bool.{Decides}
use Rattle.std.proofs.Common.{get_or, Vec, Global}
use Rattle.flow.specs.Skeletons.{Skeleton, count}
use Rattle.flow.specs.Theory.Gather.{or}
use Rattle.flow.specs.Theory.Held.{SurelyHeld, through, holds}
use Rattle.flow.specs.Theory.MustHold.{and, past}
use Rattle.flow.specs.Theory.Passes.{UsedBefore, WantedLater, behind, laters}
use Rattle.locks.specs.declared.path_set.PathSet.{PathSet}
use Rattle.locks.specs.Sets.{has}
use Rattle.points.specs.declared.dataflow.Dataflow.{Dataflow}
use Rattle.points.specs.declared.dataflow.Join.{Join}
use Rattle.points.specs.declared.dataflow.Join.TheVariants.{Union, Meet}

-- whether each set has path i
abbrev pub column : ℕ → List PathSet → List Bool
column i sets = map (λ (set : PathSet). has set i) sets

-- whether the set at a number has path i
abbrev pub marks : ℕ → List PathSet → ℕ → Bool
marks i sets p = get_or (column i sets) p false

abbrev pub join_of : Join → Bool → Bool → Bool
join_of Union = or
join_of Meet = and

-- an analysis's join and its transfer functions, for path i
abbrev pub joins : Dataflow → Bool → Bool → Bool
joins d = join_of d.join

abbrev pub transfers : Dataflow → ℕ → ℕ → Bool → Bool
transfers d i = past (marks i d.gens.now) (marks i d.kills.now)

-- the set after points that are numbered from n, given the set before them
abbrev pub IsThrough : Dataflow → Skeleton → ℕ → PathSet → PathSet → Type 0
IsThrough d c n first set = (i : ℕ) → has set i ≡ through (transfers d i) (joins d) c n (has first i)

-- the sets of points were appended; the points are numbered from the length of the list on
abbrev pub AreForward : Dataflow → Skeleton → PathSet → Vec PathSet Global → Vec PathSet Global → Type 0
AreForward d c first was sets =
    (i : ℕ) → column i sets.items ≡ column i was.items ++ holds (transfers d i) (joins d) c was.len (has first i)

-- a may analysis that kills nothing
abbrev pub IsMay : Dataflow → Type 0
IsMay d = (d.kills.now ≡ []) × (d.join ≡ Union)

-- the set of a backward analysis before points that are numbered from n, given the set after them
abbrev pub IsBehind : Dataflow → Skeleton → ℕ → PathSet → PathSet → Type 0
IsBehind d c n last set = (i : ℕ) → has set i ≡ behind or (marks i d.gens.now) c n (has last i)

-- the number of the point whose set was appended last, if sets are appended from a section's last point to its first
abbrev pub down_to : Dataflow → Vec PathSet Global → ℕ
down_to d sets = length d.gens.now - sets.len

-- the sets of points were appended, the last point first
abbrev pub AreBackward : Dataflow → Skeleton → PathSet → Vec PathSet Global → Vec PathSet Global → Type 0
AreBackward d c last was sets =
    (i : ℕ) → column i sets.items ≡ column i was.items
    ++ reverse (laters or (marks i d.gens.now) c (down_to d sets) (has last i))

-- the sets of a whole section are those of the forward may analysis
abbrev pub AreForwardMay : List PathSet → Skeleton → List PathSet → Type 0
AreForwardMay gens c sets = (i p : ℕ) → p < count c → Decides (marks i sets p) (UsedBefore (marks i gens) c p)

abbrev pub AreBackwardMay : List PathSet → Skeleton → List PathSet → Type 0
AreBackwardMay gens c sets = (i p : ℕ) → p < count c → Decides (marks i sets p) (WantedLater (marks i gens) c p)

abbrev pub AreForwardMust : List PathSet → List PathSet → Skeleton → List PathSet → Type 0
AreForwardMust gens kills c sets =
    (i p : ℕ) → p < count c → Decides (marks i sets p) (SurelyHeld (marks i gens) (marks i kills) c p)
