-- The edges of one section, in terms of the sets of paths at its points. Nobody has to believe these: `Edges` defines
-- what makes an edge.
use Rattle.std.specs.Prelude.{◌≡◌, ◌⊎◌, ◌||◌, ◌<◌, ◌≤◌, ℕ, true, List, length, slice_get, slice_index_or, Some, Option}
use Rattle.std.specs.Prelude.{MatchOption}
use Rattle.std.specs.List.{All, AllPairs, Contains}
use Rattle.flow.specs.Flow.{Before}
use Rattle.flow.specs.Working.Parts.{skeleton_of}
use Rattle.locks.specs.declared.path_set.PathSet.{PathSet}
use Rattle.locks.specs.Sets.{has}
use Rattle.points.specs.declared.table.Points.{Points}
use Rattle.points.specs.Working.Points.{AreBoundLater}
use Rattle.bit_set.specs.declared.set.BitSet.{BitSet}
use Rattle.lockorder.specs.declared.bindings.Bindings.{Bindings}
use Rattle.lockorder.specs.Working.Tables.{InSet}

-- ---- sets of paths

abbrev pub IsIn : PathSet → ℕ → Type 0
IsIn set i = has set i ≡ true

abbrev pub Share : PathSet → PathSet → Type 0
Share a b = (i : ℕ) × IsIn a i × IsIn b i

abbrev pub no_paths : PathSet
no_paths = record { bits = 0 }

abbrev pub set_at : List PathSet → ℕ → PathSet
set_at sets p = slice_index_or sets p no_paths

-- path i is of class c
abbrev pub IsOfClass : Points → ℕ → ℕ → Type 0
IsOfClass x c i = slice_get x.classes.items i ≡ Some c

-- a path of the class is in the set
abbrev pub HasClass : Points → PathSet → ℕ → Type 0
HasClass x set c = (i : ℕ) × IsIn set i × IsOfClass x c i

-- ---- edges

-- a path of the class is used at the point or before it
abbrev pub UsesSoFar : Points → ℕ → ℕ → Type 0
UsesSoFar x p c = HasClass x (set_at x.used.items p) c ⊎ HasClass x (set_at x.used_before.items p) c

abbrev pub BindsAt : Points → ℕ → ℕ → Type 0
BindsAt x p d = HasClass x (set_at x.bound.items p) d

abbrev pub UsesAt : Points → ℕ → ℕ → Type 0
UsesAt x p c = HasClass x (set_at x.used.items p) c

-- a root of class d is bound at some point, and class c is used at that point or before it
abbrev pub MakesSomewhere : Points → ℕ → ℕ → Type 0
MakesSomewhere x c d = (p : ℕ) × UsesSoFar x p c × BindsAt x p d

-- the class is used at the point `used`, which is `bound` or comes before it
abbrev pub UsesFor : Points → ℕ → ℕ → ℕ → Type 0
UsesFor x c bound used = UsesAt x used c × ((used ≡ bound) ⊎ Before (skeleton_of x.parts.items) used bound)

-- the points `used` and `bound` make an edge from class c to class d
abbrev pub MakesAt : Points → ℕ → ℕ → ℕ → ℕ → Type 0
MakesAt x c d used bound = UsesFor x c bound used × BindsAt x bound d

-- the points make the edge, and no lower use does, nor this use with a lower binding
pub record MakesFirstAt (x : Points) (c d used bound : ℕ) : Type 0 where
  pub makes : MakesAt x c d used bound
  pub lowest_use : (u b : ℕ) → MakesAt x c d u b → used ≤ u
  pub lowest_binding : (b : ℕ) → MakesAt x c d used b → bound ≤ b

-- ---- bindings

-- a root of the class is bound at the second point, which is the first or comes after it
abbrev pub BindsBehind : Points → ℕ → ℕ → ℕ → Type 0
BindsBehind x p d bound = ((p ≡ bound) ⊎ Before (skeleton_of x.parts.items) p bound) × BindsAt x bound d

-- the lowest point at or after p that binds a root of the class
abbrev pub IsFirstBehind : Points → ℕ → ℕ → ℕ → Type 0
IsFirstBehind x p d bound = BindsBehind x p d bound × ((b : ℕ) → BindsBehind x p d b → bound ≤ b)

abbrev pub IsNotBehind : Points → ℕ → ℕ → Type 0
IsNotBehind x p d = (b : ℕ) → BindsBehind x p d b → ⊥

-- the lowest such point, or none if the class has none
abbrev pub IsFirstOrNone : Points → ℕ → ℕ → Option ℕ → Type 0
IsFirstOrNone x p d bound = MatchOption bound (IsNotBehind x p d) (IsFirstBehind x p d)

-- the second point binds one of the roots, and is the first or comes after it
abbrev pub IsBindingFor : Points → PathSet → ℕ → ℕ → Type 0
IsBindingFor x roots p bound = Share (set_at x.bound.items bound) roots × ((p ≡ bound) ⊎ Before (skeleton_of x.parts.items) p bound)

-- no path's root is bound at two points
abbrev pub AreBoundOnce : Points → Type 0
AreBoundOnce x =
    (i p q : ℕ) → i < length x.classes.items → IsIn (set_at x.bound.items p) i → IsIn (set_at x.bound.items q) i → p ≡ q

-- for each class of which a root is bound at the point or after it, the set has a path
abbrev pub HasAnyBehind : Points → ℕ → PathSet → Type 0
HasAnyBehind x p set = (d bound : ℕ) → BindsBehind x p d bound → HasClass x set d

-- points in rising order, which include all that bind a root
pub record AreListedBindings (x : Points) (list : List ℕ) : Type 0 where
  pub within : All (λ p. p < length x.bound.items) list
  pub rising : AllPairs ◌<◌ list
  pub all : (p i : ℕ) → IsIn (set_at x.bound.items p) i → Contains list p

pub record AreBindings (b : Bindings) : Type 0 where
  pub later : AreBoundLater b.points.now b.later.items
  pub listed : AreListedBindings b.points.now b.list.items

-- the paths that are used at a point or before it
abbrev pub AreUsedSoFar : Points → ℕ → PathSet → Type 0
AreUsedSoFar x p set = (i : ℕ) → has set i ≡ (has (set_at x.used.items p) i || has (set_at x.used_before.items p) i)

-- an edge from each class of one set to the class of each path of another
abbrev pub LeadsToRoots : Points → BitSet → PathSet → ℕ → ℕ → Type 0
LeadsToRoots x used bound c d = InSet used c × HasClass x bound d
