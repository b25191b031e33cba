use Rattle.std.proofs.Common.{◌≡◌, ℕ, suc, ◌+◌, ◌-◌, ◌<◌, ◌∷◌, ◌++◌, length, string_bytes, refl, sym, ap, ◌∙◌}
use Rattle.std.proofs.Common.{append_assoc, arith}
use Rattle.std.specs.List.{flat_map, range_with_len}
use Rattle.report_check.specs.Check.{rank_text}
use Rattle.report_check.proofs.check.push_ranks.Goals as goal

-- the numbers from `a` to below `n` are `a` and those after it
range_more : (a n : ℕ) → a < n → range_with_len a (n - a) ≡ a ∷ range_with_len (a + 1) (n - (a + 1))
range_more a n lt = let e : n - a ≡ suc (n - (a + 1)) = omega arith in rw e refl

pub loop-rank-preserved : goal.loop-rank-preserved
loop-rank-preserved c =
    let f = rank_text c.args.program.now c.args.ranks.now in
    let rank = c.loop-rank.rank in
    let n = length c.args.ranks.now in
    let before = string_bytes c.loop-rank.out in
    let rest = flat_map f (range_with_len (rank + 1) (n - (rank + 1))) in
    ap (λ b. b ++ rest) c.in_ok-push_rank.ensures ∙ append_assoc before (f rank) rest
    ∙ sym (ap (λ rs. before ++ flat_map f rs) (range_more rank n c.loop-rank-test.true)) ∙ c.loop-rank.invariant
