-- The points of all sections, one after another.
use Rattle.std.proofs.Common.{◌≡◌, ℕ, List, [], ◌∷◌, ◌++◌, length, map, Vec, Global, Some, ◌∙◌, inl, inr, sym, ap}
use Rattle.std.specs.Prelude.{slice_get}
use Rattle.std.proofs.lemmas.Option.{none-some, same_Some}
use Rattle.core_lang.specs.declared.tree.Section.{Section}
use Rattle.core_lang.specs.declared.typed.Typed.{Typed}
use Rattle.core_lang.specs.Theory.Items.{pushed_at}
use Rattle.flow.specs.Points.{points}
use Rattle.flow.specs.declared.points.PointRef.{PointRef}
use Rattle.flow.specs.Working.PointList.{point_at}
use Rattle.report_check.specs.Working.AllPoints.{ArePointsAt}

-- each list is that of the section at its place
abbrev pub AreListed : Typed → List (Vec PointRef Global) → Type 0
AreListed program each = (k : ℕ) (list : Vec PointRef Global) → slice_get each k ≡ Some list → ArePointsAt program k list.items

pub none_listed : (program : Typed) → AreListed program []
none_listed program k list e = absurd (none-some list e)

pub one_listed : (program : Typed) (each : List (Vec PointRef Global)) (list : Vec PointRef Global) (section : Section) →
    AreListed program each → slice_get program.sections.items (length each) ≡ Some section → map point_at list.items ≡ points section →
    AreListed program (each ++ list ∷ [])
one_listed program each list section are here is k other e =
    elim (pushed_at each list k other e) [
      | inl at ↦ are k other at
      | inr at ↦ λ s there.
          let one : slice_get program.sections.items k ≡ Some section = ap (slice_get program.sections.items) at.0 ∙ here in
          ap (λ (l : Vec PointRef Global). map point_at l.items) (sym at.1) ∙ is ∙ ap points (same_Some section s (sym one ∙ there))
    ]
