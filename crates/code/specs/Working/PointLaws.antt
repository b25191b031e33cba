-- Laws of the code of a section's points, as the laws of `src/point_laws.rt` claim them.
use Rattle.std.specs.Prelude.{◌≡◌, ◌≤◌, ◌+◌, ℕ, List, [], ◌∷◌, length, slice_get, Option, Some, None}
use Rattle.core_lang.specs.declared.value.Value.{Value}
use Rattle.core_lang.specs.declared.shape.Shape.{Shape}
use Rattle.core_lang.specs.declared.tree.Section.{Section}
use Rattle.core_lang.specs.declared.typed.Typed.{Typed}
use Rattle.core_lang.specs.Meaning.{State}
use Rattle.core_lang.specs.Whole.{opening}
use Rattle.core_lang.specs.Typing.{IsHeap, Fit}
use Rattle.core_lang.specs.Helpers.{CallsNothing}
use Rattle.core_lang.specs.WellFormed.{IsWellFormed}
use Rattle.flow.specs.Skeletons.{skeleton}
use Rattle.flow.specs.Flow.{head}
use Rattle.flow.specs.Points.{Point, points}
use Rattle.locks.specs.Faults.{HasSection}
use Rattle.code.specs.declared.instr.Instr.TheVariants.{Acquire, End}
use Rattle.code.specs.Lowering.{acquire_code, section_code}
use Rattle.code.specs.Needs.{operand_need}
use Rattle.code.specs.Alone.{alone, IsNeverStuck}
use Rattle.code.specs.Working.Spots.{HasAt, Spot, InSection}
use Rattle.code.specs.Working.Ahead.{Steps, between_points, CanExecute, MayEnd, HasComeOn}

-- ---- from point to point

-- over memories of a type, and lock paths of any, in a section that calls nothing: if the code of a point follows what
-- is acquired before it, with room for the section's operands, and the point can be executed from a state, the machine
-- steps, and is safe until it has come to a point that follows, or is at an outcome that the section has there
abbrev pub PointsGoOn : (P M : Type 0) → (M → ℕ → Option (Value × M)) → (M → ℕ → Value → Option M) →
    (M → ℕ → Option Value) → Type 0
PointsGoOn P M load store view =
    (shape : Shape) (lists : List (List P)) (section : Section) (spot : Spot) (s : State) (memory : M) (room : ℕ) →
    CallsNothing section → InSection lists section spot → operand_need section ≤ room → CanExecute shape spot.point s (view memory) →
    Steps load store shape (section_code lists section) (MayEnd shape spot.point s)
    (HasComeOn view shape lists section spot s (view memory)) room
    (between_points (spot.place + length (acquire_code lists spot.number)) s memory)

-- ---- points and places

-- a spot of a section has the point of the section with its number
abbrev pub SpotsArePoints : Type 0 → Type 0
SpotsArePoints P =
    (lists : List (List P)) (section : Section) (x : Spot) → InSection lists section x →
    slice_get (points section) x.number ≡ Some x.point

-- each point of a section has a spot with its number
abbrev pub PointsHaveSpots : Type 0 → Type 0
PointsHaveSpots P =
    (lists : List (List P)) (section : Section) (p : ℕ) (point : Point) → slice_get (points section) p ≡ Some point →
    (x : Spot) × InSection lists section x × (x.number ≡ p) × (x.point ≡ point)

-- a section has at most one spot with a number
abbrev pub SpotsHaveNumbers : Type 0 → Type 0
SpotsHaveNumbers P =
    (lists : List (List P)) (section : Section) (x y : Spot) → InSection lists section x → InSection lists section y →
    x.number ≡ y.number → x ≡ y

-- the first point of a section begins at the start of its code
abbrev pub FirstPointIsAtStart : Type 0 → Type 0
FirstPointIsAtStart P =
    (lists : List (List P)) (section : Section) (p : ℕ) → head (skeleton section) 0 None ≡ Some p →
    (x : Spot) × InSection lists section x × (x.number ≡ p) × (x.place ≡ 0)

-- the code of a section without points is its end
abbrev pub EmptyHasEnd : Type 0 → Type 0
EmptyHasEnd P =
    (lists : List (List P)) (section : Section) → head (skeleton section) 0 None ≡ None →
    slice_get (section_code lists section) 0 ≡ Some End

-- the code of a point begins with its acquire
abbrev pub SpotsAcquire : Type 0 → Type 0
SpotsAcquire P =
    (lists : List (List P)) (section : Section) (x : Spot) → InSection lists section x →
    HasAt (section_code lists section) x.place (acquire_code lists x.number)

-- each acquire is at the begin of a point's code
abbrev pub OnlySpotsAcquire : Type 0 → Type 0
OnlySpotsAcquire P =
    (lists : List (List P)) (section : Section) (place p : ℕ) →
    slice_get (section_code lists section) place ≡ Some (Acquire p) →
    (x : Spot) × InSection lists section x × (x.number ≡ p) × (x.place ≡ place)
    × (acquire_code lists p ≡ Acquire p ∷ [])

-- ---- alone

-- the code of a section of a well-formed program, run alone on arguments that fit on a heap of the program, always has
-- a next instruction until it comes to an outcome, and never more operands than it needs
abbrev pub SectionsGoOn : Type 0 → Type 0
SectionsGoOn P =
    (program : Typed) (section : Section) (lists : List (List P)) → IsWellFormed program → HasSection program section →
    (arguments heap : List Value) (n : ℕ) → Fit program section arguments → IsHeap program heap →
    IsNeverStuck (operand_need section)
    (alone program.shape (section_code lists section) n (opening section arguments heap).locals heap)
