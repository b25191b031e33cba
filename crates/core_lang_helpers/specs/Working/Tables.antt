-- What the tables of the code hold. Nobody has to believe these: `Faults` defines the faults.
use Rattle.std.specs.Prelude.{◌≡◌, ◌⊎◌, ℕ, zero, suc, ◌+◌, ◌<◌, min, nat_lt, ◌==◌, ◌&&◌, ◌||◌, Bool, true, false}
use Rattle.std.specs.Prelude.{List, [], ◌∷◌, length, take, get_or, slice_get, slice_index_or, Option, Some, None}
use Rattle.std.specs.List.{list_any, sum_by}
use Rattle.std.proofs.Common.{Vec, Global}
use Rattle.core_lang_helpers.specs.declared.graph.CallSite.{CallSite}
use Rattle.core_lang_helpers.specs.declared.extents.Extent.{Extent}
use Rattle.core_lang_helpers.specs.Graphs.{Body}
use Rattle.core_lang_helpers.specs.Recursion.{HasCall, Calls}
use Rattle.core_lang_helpers.specs.Depths.{CallsOnly, deepest_of, depth_within, far, is_endless}
use Rattle.core_lang_helpers.specs.Counts.{one_for, hidden, locals_within, points_within}
use Rattle.core_lang_helpers.specs.Faults.{DEPTH_LIMIT, LOCAL_LIMIT, POINT_LIMIT}

-- ---- which helpers reach which

abbrev pub is_called : List CallSite → ℕ → Bool
is_called calls g = list_any (λ (c : CallSite). c.helper == g) calls

abbrev pub called_by : Option Body → ℕ → Bool
called_by (Some body) g = is_called body.calls g
called_by None g = false

-- f reaches g over helpers below k
abbrev pub reaches_over : ℕ → List Body → ℕ → ℕ → Bool
reaches_over zero helpers f g = called_by (slice_get helpers f) g
reaches_over (suc k) helpers f g = reaches_over k helpers f g || (reaches_over k helpers f k && reaches_over k helpers k g)

abbrev pub reaches : List Body → ℕ → ℕ → Bool
reaches helpers f g = reaches_over (length helpers) helpers f g

-- ---- who calls each helper: a row for each

-- the list has the helper
abbrev pub Has : List ℕ → ℕ → Type 0
Has [] f = ⊥
Has (x ∷ xs) f = (x ≡ f) ⊎ Has xs f

abbrev pub row_of : Option (Vec ℕ Global) → List ℕ
row_of (Some row) = row.items
row_of None = []

abbrev pub row_at : List (Vec ℕ Global) → ℕ → List ℕ
row_at rows g = row_of (slice_get rows g)

-- the given number of empty rows
pub record HaveNone (rows : List (Vec ℕ Global)) (count : ℕ) : Type 0 where
  pub long : length rows ≡ count
  pub empty : (g f : ℕ) → Has (row_at rows g) f → ⊥

-- helper f is added to the row of each helper that these calls are of
pub record AddsCaller (old new : List (Vec ℕ Global)) (f : ℕ) (calls : List CallSite) : Type 0 where
  pub long : length new ≡ length old
  pub kept : (g x : ℕ) → Has (row_at old g) x → Has (row_at new g) x
  pub added : (g : ℕ) → g < length old → HasCall calls g → Has (row_at new g) f
  pub from : (g x : ℕ) → Has (row_at new g) x → Has (row_at old g) x ⊎ ((f ≡ x) × HasCall calls g)

-- the rows have the callers of each helper among the first k, and no others
pub record IsCallersTo (helpers : List Body) (rows : List (Vec ℕ Global)) (k : ℕ) : Type 0 where
  pub long : length rows ≡ length helpers
  pub calls : (f g : ℕ) → Has (row_at rows g) f → Calls helpers f g
  pub called : (f g : ℕ) → f < k → g < length rows → Calls helpers f g → Has (row_at rows g) f

-- ---- which helpers lead to one: those that are marked

abbrev pub is_marked : List Bool → ℕ → Bool
is_marked marks h = slice_index_or marks h false

-- helper g is helper f, or reaches it
abbrev pub leads_to : List Body → ℕ → ℕ → Bool
leads_to helpers g f = (g == f) || reaches helpers g f

pub record AreLeading (helpers : List Body) (marks : List Bool) (f : ℕ) : Type 0 where
  pub leads : (g : ℕ) → is_marked marks g ≡ leads_to helpers g f

abbrev pub open_mark : Bool → ℕ
open_mark true = 0
open_mark false = 1

abbrev pub unmarked : List Bool → ℕ
unmarked marks = sum_by open_mark marks

-- the helpers of a row were marked, and those that had not been are among the pending ones
pub record Marks (row : List ℕ) (old new : List Bool) (before after : List ℕ) : Type 0 where
  pub long : length new ≡ length old
  pub kept : (g : ℕ) → is_marked old g ≡ true → is_marked new g ≡ true
  pub all : (g : ℕ) → Has row g → g < length old → is_marked new g ≡ true
  pub from : (g : ℕ) → is_marked new g ≡ true → (is_marked old g ≡ true) ⊎ (Has row g × Has after g)
  pub still : (g : ℕ) → Has before g → Has after g
  pub queued : (g : ℕ) → Has after g → Has before g ⊎ (is_marked new g ≡ true)
  pub count : unmarked new + length after ≡ unmarked old + length before

-- ---- depth, locals and points of each helper, none counted further than one past its limit

abbrev pub up_to : ℕ → ℕ → ℕ
up_to limit n = min n (limit + 1)

abbrev pub no_extent : Extent
no_extent = record { depth = 0; locals = 0; points = 0 }

-- the extent of a helper, if it is settled; 0 in each part for a helper that does not exist
abbrev pub extent_at : List (Option Extent) → ℕ → Option Extent
extent_at table h = slice_index_or table h (Some no_extent)

abbrev pub seen : Option Extent → Extent
seen (Some e) = e
seen None = no_extent

abbrev pub extent_seen : List (Option Extent) → ℕ → Extent
extent_seen table h = seen (extent_at table h)

-- the helper is settled, and too deep
abbrev pub is_deep_by : Option Extent → Bool
is_deep_by (Some e) = nat_lt DEPTH_LIMIT e.depth
is_deep_by None = false

-- the extent of a helper, with calls followed to this depth
abbrev pub extent_within : ℕ → List Body → ℕ → Extent
extent_within n helpers h = record {
  depth = up_to DEPTH_LIMIT (depth_within n helpers h);
  locals = up_to LOCAL_LIMIT (locals_within n helpers h);
  points = up_to POINT_LIMIT (points_within n helpers h);
}

-- the extent of a body, given those of the helpers that it calls
abbrev pub extent_by : List (Option Extent) → List Body → Body → Extent
extent_by table helpers b = record {
  depth = up_to DEPTH_LIMIT (1 + deepest_of (λ h. (extent_seen table h).depth) b.calls);
  locals = up_to LOCAL_LIMIT (b.locals + sum_by (λ (c : CallSite). (extent_seen table c.helper).locals + hidden helpers c) b.calls);
  points = up_to POINT_LIMIT (b.parameters + b.points + sum_by (λ (c : CallSite). (extent_seen table c.helper).points) b.calls + one_for b.has_result);
}

abbrev pub IsSettled : List (Option Extent) → ℕ → Type 0
IsSettled table h = (e : Extent) × (extent_at table h ≡ Some e)

-- each call before index k calls a settled helper, and the one at k, if it exists, an unsettled one
pub record IsOpenFrom (table : List (Option Extent)) (calls : List CallSite) (k : ℕ) : Type 0 where
  pub settled : CallsOnly (IsSettled table) (take k calls)
  pub open_there : (d : CallSite) → k < length calls → extent_at table (get_or calls k d).helper ≡ None

abbrev pub open_one : Option Extent → ℕ
open_one (Some e) = 0
open_one None = 1

abbrev pub unsettled : List (Option Extent) → ℕ
unsettled table = sum_by open_one table

-- the extent of a helper that does not reach a recursion
abbrev pub IsExtentOf : List Body → ℕ → Extent → Type 0
IsExtentOf helpers h e = (is_endless helpers h ≡ false) × (e ≡ extent_within (far helpers) helpers h)

-- exactly the helpers that do not reach a recursion are settled, with their extents
pub record IsExtents (helpers : List Body) (table : List (Option Extent)) : Type 0 where
  pub long : length table ≡ length helpers
  pub ends : (h : ℕ) (e : Extent) → extent_at table h ≡ Some e → IsExtentOf helpers h e
  pub endless : (h : ℕ) → extent_at table h ≡ None → is_endless helpers h ≡ true
