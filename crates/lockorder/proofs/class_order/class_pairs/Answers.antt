use Rattle.std.proofs.Common.{◌≡◌, List, ℕ, sym, subst, ◌∙◌}
use Rattle.std.specs.List.{AllPairs, Contains}
use Rattle.lockorder.specs.ClassPairs.{Precedes}
use Rattle.lockorder.specs.Working.Tellings.{AreEdges}
use Rattle.lockorder.proofs.class_order.class_pairs.Goals as goal

pub told-requires-clause-pairs : goal.told-requires-clause-pairs
told-requires-clause-pairs c =
    subst (AreEdges c.args.program.now) (sym c.deref-3.ensures.value) (λ k d lt. (c.in_ok-table.ensures.edges _ _).0 (c.in_ok-pairs.ensures.true k d lt))

pub returns : goal.returns
returns c =
    let same : c.in_ok-pairs.pairs.items ≡ _ = sym (c.in_ok-told.ensures.pairs ∙ c.deref-3.ensures.value) in
    record {
      made = c.in_ok-told.ensures.made;
      rising = subst (λ (l : List (ℕ × ℕ)). AllPairs Precedes l) same c.in_ok-pairs.ensures.rising;
      all = λ b d e. subst (λ (l : List (ℕ × ℕ)). Contains l (b, d)) same (c.in_ok-pairs.ensures.all b d ((c.in_ok-table.ensures.edges b d).1 e));
    }
