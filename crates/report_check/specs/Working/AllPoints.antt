-- The points of all sections. Nobody has to believe these.
use Rattle.std.specs.Prelude.{◌≡◌, ℕ, List, length, map, slice_get, Some, Vec}
use Rattle.std.proofs.Common.{Global}
use Rattle.core_lang.specs.declared.tree.Section.{Section}
use Rattle.core_lang.specs.declared.typed.Typed.{Typed}
use Rattle.flow.specs.Points.{points}
use Rattle.flow.specs.declared.points.PointRef.{PointRef}
use Rattle.flow.specs.Working.PointList.{point_at}

-- these are the points of the section with this number
abbrev pub ArePointsAt : Typed → ℕ → List PointRef → Type 0
ArePointsAt program k list = (section : Section) → slice_get program.sections.items k ≡ Some section → map point_at list ≡ points section

-- these are the points of each section
abbrev pub AreAllPoints : Typed → List (Vec PointRef Global) → Type 0
AreAllPoints program each =
    (length each ≡ length program.sections.items)
    × ((k : ℕ) (list : Vec PointRef Global) → slice_get each k ≡ Some list → ArePointsAt program k list.items)
