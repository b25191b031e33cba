-- A cycle of lock classes as a fault of the program, and as the error of `order`.
use Rattle.std.specs.Prelude.{◌≡◌, ℕ, List, [], ◌∷◌, ◌++◌, slice_get, Some, codes, string_bytes, map, ⊤}
use Rattle.source.specs.declared.fault.Fault.{Fault}
use Rattle.source.specs.declared.fault.Code.TheVariants.{LockOrderCycle}
use Rattle.core_lang.specs.declared.tree.Section.{Section}
use Rattle.core_lang.specs.declared.typed.Typed.{Typed}
use Rattle.flow.specs.Points.{Point, points, start_of}
use Rattle.locks.specs.Texts.{class_name}
use Rattle.lockorder.specs.declared.ranks.Edge as written
use Rattle.lockorder.specs.declared.ranks.OrderRefusal.{OrderRefusal}
use Rattle.lockorder.specs.declared.ranks.OrderRefusal.TheVariants as refusal
use Rattle.lockorder.specs.Edges.{Makes, MakesFirst, Edge}
use Rattle.lockorder.specs.Ranks.{AreDistinct, IsCycle}

-- ---- the text

-- classes, each with an arrow after it
abbrev pub arrows : Typed → List ℕ → List ℕ
arrows program [] = []
arrows program (c ∷ cs) = class_name program c ++ codes " -> " ++ arrows program cs

-- the classes of a cycle joined by arrows, the first again at the end
abbrev pub cycle_text : Typed → List ℕ → List ℕ
cycle_text program [] = []
cycle_text program (c ∷ cs) = arrows program (c ∷ cs) ++ class_name program c

-- ---- the fault

-- the class after the first one in a cycle: the next one, or itself
abbrev pub second : ℕ → List ℕ → ℕ
second c [] = c
second c (d ∷ rest) = d

-- the statement of the section's point of this number starts at this byte
pub record StartsAt (program : Typed) (number p start : ℕ) : Type 0 where
  pub section : Section
  pub here : slice_get program.sections.items number ≡ Some section
  pub point : Point
  pub there : slice_get (points section) p ≡ Some point
  pub starts : start_of point ≡ start

-- a fault for a cycle, at a point whose use makes the cycle's first edge
pub data IsFault (program : Typed) (fault : Fault) : Type 0 where
  cycle : (c : ℕ) (rest : List ℕ) (number used bound : ℕ) → IsCycle (Edge program) (c ∷ rest)
      → Makes program number used bound c (second c rest) → StartsAt program number used fault.start
      → fault.code ≡ LockOrderCycle → string_bytes fault.detail ≡ cycle_text program (c ∷ rest) → IsFault program fault

-- a fault at the first such point: in the lowest section that makes the cycle's first edge, the lowest point whose use
-- does
pub data IsFaultAtFirst (program : Typed) (fault : Fault) : Type 0 where
  at_first : (c : ℕ) (rest : List ℕ) (number used bound : ℕ) → IsCycle (Edge program) (c ∷ rest)
      → MakesFirst program number used bound c (second c rest) → StartsAt program number used fault.start
      → fault.code ≡ LockOrderCycle → string_bytes fault.detail ≡ cycle_text program (c ∷ rest) → IsFaultAtFirst program fault

abbrev pub HasNoFault : Typed → Type 0
HasNoFault program = (fault : Fault) → IsFault program fault → ⊥

-- ---- the error of `order`

-- the classes of edges
abbrev pub classes_of : List written.Edge → List ℕ
classes_of edges = map (λ (e : written.Edge). e.class) edges

-- the use and binding of each edge are the first that make it; it leads to the class of the next edge, and the last one
-- to this class
abbrev pub AllMakeFirst : Typed → ℕ → List written.Edge → Type 0
AllMakeFirst program first [] = ⊤
AllMakeFirst program first (e ∷ []) = MakesFirst program e.section e.used e.bound e.class first
AllMakeFirst program first (e ∷ f ∷ rest) =
    MakesFirst program e.section e.used e.bound e.class f.class × AllMakeFirst program first (f ∷ rest)

-- one or more edges, from distinct classes
abbrev pub IsCycleOf : Typed → List written.Edge → Type 0
IsCycleOf program [] = ⊥
IsCycleOf program (e ∷ rest) = AreDistinct (classes_of (e ∷ rest)) × AllMakeFirst program e.class (e ∷ rest)

-- the statement of the first edge's use starts at this byte
abbrev pub StartsAtUse : Typed → List written.Edge → ℕ → Type 0
StartsAtUse program [] start = ⊥
StartsAtUse program (e ∷ rest) start = StartsAt program e.section e.used start

-- the fault of these edges: it names their classes in this order, and is at the use of the first one. If they are a
-- cycle, `IsFaultAtFirst` follows
pub record IsFaultOf (program : Typed) (edges : List written.Edge) (fault : Fault) : Type 0 where
  pub starts : StartsAtUse program edges fault.start
  pub code : fault.code ≡ LockOrderCycle
  pub detail : string_bytes fault.detail ≡ cycle_text program (classes_of edges)

-- the refusal names a cycle, or is the failure of an allocation
abbrev pub IsRefusal : Typed → OrderRefusal → Type 0
IsRefusal program refusal.NoMemory = ⊤
IsRefusal program (refusal.Cycle c) = IsCycleOf program c.edges.items
