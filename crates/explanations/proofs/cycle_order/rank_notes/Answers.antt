use Rattle.std.proofs.Common.{◌≡◌, ℕ, suc, ◌+◌, ◌-◌, ◌<◌, ◌∷◌, ◌++◌, length, map, refl, sym, ap, ◌∙◌, arith}
use Rattle.std.specs.List.{range_with_len}
use Rattle.explanation.specs.Notes.{note_of}
use Rattle.explanations.specs.OrderNotes.{rank_note}
use Rattle.explanations.proofs.Orders.{map_one_more}
use Rattle.explanations.proofs.cycle_order.rank_notes.Goals as goal

-- the numbers from `a` to below `n` are `a` and those after it
range_more : (a n : ℕ) → a < n → range_with_len a (n - a) ≡ a ∷ range_with_len (a + 1) (n - (a + 1))
range_more a n lt = let e : n - a ≡ suc (n - (a + 1)) = omega arith in rw e refl

pub loop-rank-preserved : goal.loop-rank-preserved
loop-rank-preserved c =
    let f = rank_note c.args.program.now c.args.ranks.now in
    let rank = c.loop-rank.rank in
    let n = length c.args.ranks.now in
    let rest = map f (range_with_len (rank + 1) (n - (rank + 1))) in
    map_one_more note_of c.loop-rank.notes.items _ _ _ rest c.in_ok-push.ensures.items c.in_ok-rank_note.ensures
    ∙ sym (ap (λ rs. map note_of c.loop-rank.notes.items ++ map f rs) (range_more rank n c.loop-rank-test.true)) ∙ c.loop-rank.invariant
