-- The paths that are bound later, from the sets of a dataflow analysis.
use Rattle.std.specs.Prelude.{◌≡◌, ℕ, List}
use Rattle.std.specs.Bool.{Decides}
use Rattle.std.proofs.Common.{sym, ◌∙◌, subst, arith, length, inl, inr}
use Rattle.std.proofs.lemmas.Bool.{both_ways}
use Rattle.std.proofs.lemmas.Option.{slice_get_within, slice_get_cases}
use Rattle.flow.specs.Skeletons.{Skeleton, count}
use Rattle.flow.specs.Theory.Passes.{WantedLater}
use Rattle.flow.specs.Working.Parts.{skeleton_of}
use Rattle.locks.specs.declared.path_set.PathSet.{PathSet}
use Rattle.points.specs.declared.table.Points.{Points}
use Rattle.points.specs.Working.Points.{IsBoundLater, AreBoundLater}
use Rattle.points.specs.Working.Dataflow.{marks, AreBackwardMay}
use Rattle.points.proofs.Sets.{marks_at, marks_past}

module _ (x : Points) where
  abbrev there : Skeleton
  there = skeleton_of x.parts.items

  from_marks : (p i : ℕ) → WantedLater (marks i x.bound.items) there p → IsBoundLater x p i
  from_marks p i (q, before, m) =
      elim ((slice_get_cases x.bound.items q).1) [
        | inl h ↦ (q, h.0, before, h.2, sym (marks_at i x.bound.items q h.0 h.2) ∙ m)
        | inr h ↦ absurd (both_ways (marks i x.bound.items q) (marks_past i x.bound.items q h.0) m)
      ]

  to_marks : (p i : ℕ) → IsBoundLater x p i → WantedLater (marks i x.bound.items) there p
  to_marks p i (q, set, before, at, h) = (q, before, marks_at i x.bound.items q set at ∙ h)

  pub bound_later : (sets : List PathSet) → length sets ≡ length x.bound.items → length x.bound.items ≡ count there →
      AreBackwardMay x.bound.items there sets → AreBoundLater x sets
  bound_later sets len counted are = (
    len,
    λ p i set at.
        let d = are i p (omega (arith, slice_get_within sets p set at, len, counted)) in
        subst (λ b. Decides b (IsBoundLater x p i)) (marks_at i sets p set at) (λ t. from_marks p i (d.0 t), λ h. d.1 (to_marks p i h)),
  )
