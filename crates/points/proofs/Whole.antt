-- The sets of an analysis of a whole section are exact.
use Rattle.std.specs.Prelude.{◌≡◌, ℕ, Bool, false, List, [], ◌++◌, reverse}
use Rattle.std.proofs.Common.{refl, ap, ◌∙◌, Vec, Global}
use Rattle.std.proofs.lemmas.List.{reverse-reverse}
use Rattle.flow.specs.Skeletons.{Skeleton}
use Rattle.flow.specs.Theory.Columns.{before_column, later_column}
use Rattle.flow.specs.Theory.Gather.{or}
use Rattle.flow.specs.Theory.Held.{holds}
use Rattle.flow.specs.Theory.HeldLists.{held_column}
use Rattle.flow.specs.Theory.MustHold.{and, past}
use Rattle.flow.specs.Theory.Passes.{laters}
use Rattle.locks.specs.declared.path_set.PathSet.{PathSet}
use Rattle.locks.specs.Sets.{has}
use Rattle.points.specs.declared.dataflow.Dataflow.{Dataflow}
use Rattle.points.specs.declared.dataflow.Join.TheVariants.{Meet}
use Rattle.points.specs.Working.Dataflow.{column, marks, join_of, joins, transfers, down_to, IsMay, AreForward}
use Rattle.points.specs.Working.Dataflow.{AreBackward}
use Rattle.points.specs.Working.Dataflow.{AreForwardMay, AreBackwardMay, AreForwardMust}
use Rattle.points.proofs.GenOnly.{holds_gen}
use Rattle.points.proofs.Sets.{column-reverse}

module _ (d : Dataflow) (c : Skeleton) (empty : PathSet) (none : (i : ℕ) → has empty i ≡ false)
    (was sets : Vec PathSet Global) (first : was.items ≡ []) where
  forward_column : was.len ≡ 0 → AreForward d c empty was sets → (i : ℕ) →
      column i sets.items ≡ holds (transfers d i) (joins d) c 0 false
  forward_column len is i =
      is i ∙ ap (λ l. column i l ++ holds (transfers d i) (joins d) c was.len (has empty i)) first
      ∙ ap (λ n. holds (transfers d i) (joins d) c n (has empty i)) len
      ∙ ap (holds (transfers d i) (joins d) c 0) (none i)

  pub may_whole : IsMay d → was.len ≡ 0 → AreForward d c empty was sets → AreForwardMay d.gens.now c sets.items
  may_whole may len is i p lt =
      let w = marks i d.gens.now in
      let e = forward_column len is i ∙ ap (λ k. holds (past w (marks i k)) (joins d) c 0 false) may.0
      ∙ ap (λ j. holds (past w (marks i [])) (join_of j) c 0 false) may.1
      ∙ holds_gen w (marks i []) (λ p. refl) c 0 false in
      before_column or false (λ (b : Bool). b) (λ a b. refl) refl w false (column i sets.items) c e p lt

  pub must_whole : d.join ≡ Meet → was.len ≡ 0 → AreForward d c empty was sets →
      AreForwardMust d.gens.now d.kills.now c sets.items
  must_whole must len is i p lt =
      let e = forward_column len is i ∙ ap (λ j. holds (transfers d i) (join_of j) c 0 false) must in
      held_column (transfers d i) and false (λ (b : Bool). b) (marks i d.gens.now) (marks i d.kills.now)
      (λ n s. refl) (λ x y. refl) refl
      false (column i sets.items) c e p lt

  pub back_whole : (back : List PathSet) → down_to d sets ≡ 0 → back ≡ reverse sets.items →
      AreBackward d c empty was sets → AreBackwardMay d.gens.now c back
  back_whole back start turned is i p lt =
      let w = marks i d.gens.now in
      let e : column i back ≡ laters or w c 0 false =
      ap (column i) turned ∙ column-reverse i sets.items
      ∙ ap reverse (is i ∙ ap (λ l. column i l ++ reverse (laters or w c (down_to d sets) (has empty i))) first)
      ∙ reverse-reverse (laters or w c (down_to d sets) (has empty i))
      ∙ ap (λ m. laters or w c m (has empty i)) start ∙ ap (laters or w c 0) (none i) in
      later_column or false (λ (b : Bool). b) (λ a b. refl) refl w false (column i back) c e p lt
