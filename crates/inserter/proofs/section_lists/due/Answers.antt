use Rattle.std.proofs.Common.{◌≡◌, get_or, map, not, ◌&&◌, Some, inl, inr, arith, subst, sym, ◌∙◌}
use Rattle.std.specs.Prelude.{slice_get}
use Rattle.std.proofs.lemmas.Option.{get_or_from_slice_get}
use Rattle.locks.specs.Sets.{has}
use Rattle.inserter.proofs.DueLists.{more_at}
use Rattle.inserter.proofs.section_lists.due.Goals as goal

pub loop-p-preserved : goal.loop-p-preserved
loop-p-preserved c = record {
  long = omega (arith, c.in_ok-push.ensures.len, c.loop-p.invariant.long);
  each = λ p w h list at_w at_h e.
      elim (more_at (λ x. x.items) c.loop-p.lists.items c.in_ok-listed.field-0 p list (subst (λ l. slice_get (map (λ x. x.items) l) p ≡ Some list) c.in_ok-push.ensures.items e)) [
        | inl old ↦ c.loop-p.invariant.each p w h list at_w at_h old
        | inr new ↦
            let here : c.loop-p.p ≡ p = sym (new.0 ∙ c.loop-p.invariant.long) in
            let w_is = get_or_from_slice_get c.args.wanted.now p w (record { bits = 0 }) at_w in
            let h_is = get_or_from_slice_get c.args.held.now p h (record { bits = 0 }) at_h in (
              c.minus.result,
              (λ i. c.minus.ensures i ∙ subst (λ q. (has (get_or c.args.wanted.now q (record { bits = 0 })) i && not (has (get_or c.args.held.now q (record { bits = 0 })) i)) ≡ (has w i && not (has h i))) (sym here)
                  (λ k. has (w_is k) i && not (has (h_is k) i))),
              new.1 ∙ c.in_ok-listed.ensures,
            )
      ];
}
