use Rattle.std.proofs.Common.{ℕ, ◌+◌, ◌<◌, Some, [], ◌∷◌, ◌++◌, map, take, get_or, length, sym, ap, ◌∙◌, arith}
use Rattle.std.proofs.lemmas.List.{map-append, take_more, take-map}
use Rattle.lockorder.specs.declared.ranks.ClassPair.{ClassPair}
use Rattle.lockorder.specs.Working.Tellings.{told_pair}
use Rattle.lockorder.proofs.telling.Telling.close.Goals as goal

pub loop-pair-preserved : goal.loop-pair-preserved
loop-pair-preserved c =
    let k = c.loop-pair.pair-index in
    let pairs = c.args.pairs.now in
    let now = c.loop-pair.closed.items in
    let here = get_or pairs k (0, 0) in
    let g = told_pair c.args.self.now.told.items in
    let new : ClassPair = record { edge = c.in-Some.edge; next = here.1 } in
    let lt : k < length pairs = omega (arith, c.loop-pair-test.true) in
    record {
      edges = ap (map (λ (pair : ClassPair). Some pair.edge)) c.in_ok-push-in-Some.ensures.items
          ∙ map-append (λ (pair : ClassPair). Some pair.edge) now (new ∷ [])
          ∙ ap (λ l. l ++ Some c.in-Some.edge ∷ []) (c.loop-pair.invariant.edges ∙ take-map g k pairs)
          ∙ ap (λ o. map g (take k pairs) ++ o ∷ []) (sym c.in-Some.is ∙ c.at.ensures)
          ∙ sym (map-append g (take k pairs) (here ∷ [])) ∙ ap (map g) (sym (take_more pairs k (0, 0) lt)) ∙ sym (take-map g (k + 1) pairs);
      nexts = ap (map (λ (pair : ClassPair). pair.next)) c.in_ok-push-in-Some.ensures.items ∙ map-append (λ (pair : ClassPair). pair.next) now (new ∷ [])
          ∙ ap (λ l. l ++ new.next ∷ []) (c.loop-pair.invariant.nexts ∙ take-map (λ (pair : ℕ × ℕ). pair.1) k pairs)
          ∙ sym (map-append (λ (pair : ℕ × ℕ). pair.1) (take k pairs) (here ∷ []))
          ∙ ap (map (λ (pair : ℕ × ℕ). pair.1)) (sym (take_more pairs k (0, 0) lt)) ∙ sym (take-map (λ (pair : ℕ × ℕ). pair.1) (k + 1) pairs);
    }
