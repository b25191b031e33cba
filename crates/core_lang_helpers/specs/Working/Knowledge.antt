-- What is known of helpers when their faults are looked for. Nobody has to believe these: `Faults` defines the faults.
use Rattle.std.specs.Prelude.{◌≡◌, ◌⊎◌, ℕ, ◌+◌, ◌<◌, List, length, take, get_or, slice_get}
use Rattle.std.specs.Prelude.{Option, Some, None}
use Rattle.core_lang_helpers.specs.declared.callers.Callers.{Callers}
use Rattle.core_lang_helpers.specs.declared.extents.Extent.{Extent}
use Rattle.core_lang_helpers.specs.declared.settling.Settling.{Settling}
use Rattle.core_lang_helpers.specs.declared.graph_faults.Known.{Known}
use Rattle.core_lang_helpers.specs.Graphs.{Body, bodies_of}
use Rattle.core_lang_helpers.specs.Recursion.{Calls}
use Rattle.core_lang_helpers.specs.Depths.{CallsOnly}
use Rattle.core_lang_helpers.specs.Working.Tables.{Has, IsCallersTo, extent_at, IsSettled, unsettled, IsExtentOf, IsExtents}

-- ---- who calls each helper

abbrev pub IsCallers : Callers → Type 0
IsCallers callers = IsCallersTo (bodies_of callers.helpers.now) callers.rows.items (length callers.helpers.now)

-- ---- while helpers are settled

abbrev pub Table : Type 0
Table = List (Option Extent)

-- the extents of settled helpers are right, and the calls that are passed are of settled helpers
pub record AreSettling (helpers : List Body) (table : Table) (passed ready : List ℕ) : Type 0 where
  pub long : length table ≡ length helpers
  pub passed_long : length passed ≡ length helpers
  pub ends : (h : ℕ) (e : Extent) → extent_at table h ≡ Some e → IsExtentOf helpers h e
  pub passes : (f : ℕ) (b : Body) → slice_get helpers f ≡ Some b → CallsOnly (IsSettled table) (take (get_or passed f 0) b.calls)
  pub within : (h : ℕ) → Has ready h → h < length helpers

-- some further helpers were settled, and they are ready
pub record Settle (old new : Table) (before after : List ℕ) : Type 0 where
  pub kept : (h : ℕ) (e : Extent) → extent_at old h ≡ Some e → extent_at new h ≡ Some e
  pub from : (h : ℕ) (e : Extent) → extent_at new h ≡ Some e → (extent_at old h ≡ Some e) ⊎ Has after h
  pub still : (h : ℕ) → Has before h → Has after h
  pub count : unsettled new + length after ≡ unsettled old + length before

-- a helper is settled, or it calls one that is not settled, or one whose callers are still to be visited
abbrev pub PendsBy : List Body → Table → List ℕ → ℕ → Type 0
PendsBy helpers table ready f = IsSettled table f ⊎ ((g : ℕ) × Calls helpers f g × ((extent_at table g ≡ None) ⊎ Has ready g))

abbrev pub IsSettling : Settling → Type 0
IsSettling s = AreSettling (bodies_of s.helpers.now) s.table.items s.passed.items s.ready.items

pub record Settles (old new : Settling) : Type 0 where
  pub same : new.helpers.now ≡ old.helpers.now
  pub settle : Settle old.table.items new.table.items old.ready.items new.ready.items

abbrev pub Pends : Settling → ℕ → Type 0
Pends s f = PendsBy (bodies_of s.helpers.now) s.table.items s.ready.items f

-- ---- when their faults are looked for

abbrev pub bodies : Known → List Body
bodies known = bodies_of known.callers.helpers.now

-- the tables of callers and of extents are right
pub record IsKnown (known : Known) : Type 0 where
  pub callers : IsCallers known.callers
  pub extents : IsExtents (bodies known) known.extents.table.items
